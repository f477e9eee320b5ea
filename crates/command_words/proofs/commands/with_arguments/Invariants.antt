use Rattle.std.proofs.Common.{map, take}
use Rattle.command_words.specs.Rules.{AddsRules}
use Rattle.command_words.specs.Rules.{rule_in}
use Rattle.command_words.proofs.commands.with_arguments.Given as goal

abbrev pub invariant-loop-argument : goal.invariant-loop-argument
invariant-loop-argument l =
    AddsRules l.initial.command (map (rule_in l.letters) (take l.argument-index l.arguments)) l.command
