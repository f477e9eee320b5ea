use Rattle.std.proofs.Common.{map, take}
use Rattle.command_words.specs.Rules.{AddsShapes}
use Rattle.command_words.specs.Rules.{shape_in}
use Rattle.command_words.proofs.commands.with_subcommands.Given as goal

abbrev pub invariant-loop-definition : goal.invariant-loop-definition
invariant-loop-definition l =
    AddsShapes l.initial.command (map (shape_in l.letters) (take l.definition-index l.definitions)) l.command
