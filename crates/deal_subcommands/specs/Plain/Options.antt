-- The words of `plain`.
use Rattle.std.specs.Prelude.{codes}
use Rattle.clap.specs.Words.{Shape}
use Rattle.command_words.specs.Rules.{hand_words, subcommand}
use Rattle.command_words.specs.declared.commands.Letters.{Letters}

abbrev pub shape : Letters → Shape
shape letters = subcommand (codes "plain") (hand_words letters (codes "LEADER"))
