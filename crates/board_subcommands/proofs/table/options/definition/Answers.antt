use Rattle.std.proofs.Common.{List, ap, codes}
use Rattle.std.specs.Prelude.{map}
use Rattle.command_words.specs.Rules.{subcommand}
use Rattle.command_words.specs.Rules.{rule_in}
use Rattle.command_words.specs.declared.definitions.Argument.{Argument}
use Rattle.board_subcommands.proofs.table.options.definition.Goals as goal

pub returns-clause-shape : goal.returns-clause-shape
returns-clause-shape c = λ letters. ap (λ (rows : List Argument). subcommand (codes "table") (map (rule_in letters) rows)) c.as_slice.ensures
