-- The words and options of `solve`.
use Rattle.std.specs.Prelude.{List, [], ◌∷◌, ◌++◌, codes}
use Rattle.clap.specs.Words.{Row, Shape}
use Rattle.command_words.specs.Options.{budget_option}
use Rattle.command_words.specs.Rules.{hand_words, number_rule, subcommand}
use Rattle.command_words.specs.Says.{SaysDeal, SaysNumber}
use Rattle.command_words.specs.declared.commands.Letters.{Letters}
use Rattle.deal_subcommands.specs.declared.solve.options.SolveOptions.{SolveOptions}

abbrev pub shape : Letters → Shape
shape letters =
    subcommand (codes "solve") (hand_words letters (codes "DECLARER") ++ number_rule budget_option ∷ [])

-- the words say the options
abbrev pub Says : List Row → SolveOptions → Type 0
Says said options = SaysDeal said (codes "DECLARER") options.deal × SaysNumber said budget_option options.budget
