-- The words and options of `play`.
use Rattle.std.specs.Prelude.{◌≡◌, ℕ, List, [], ◌∷◌, ◌++◌, Some, codes}
use Rattle.clap.specs.Words.{Row, Shape, first_of}
use Rattle.command_words.specs.Rules.{choice_rule, hand_words, subcommand, word}
use Rattle.command_words.specs.Says.{SaysDeal}
use Rattle.command_words.specs.declared.commands.Letters.{Letters}
use Rattle.deal_subcommands.specs.declared.play.options.PlayOptions.{PlayOptions}
use Rattle.deal_subcommands.specs.declared.play.sides.ContractSide.{ContractSide}
use Rattle.deal_subcommands.specs.declared.play.sides.ContractSide.TheVariants.{Declarer, Defenders}

-- which side plays by its certificate
abbrev pub side_option : List ℕ
side_option = codes "side"

abbrev pub side_word : ContractSide → List ℕ
side_word Declarer = codes "declarer"
side_word Defenders = codes "defenders"

-- the side where it is missing
abbrev pub default_side : ContractSide
default_side = Declarer

abbrev pub shape : Letters → Shape
shape letters = subcommand (codes "play")
    (hand_words letters (codes "DECLARER") ++ word (codes "ANSWER")
    ∷ choice_rule side_option letters.sides (side_word default_side) ∷ [])

-- the words say the options
abbrev pub Says : List Row → PlayOptions → Type 0
Says said options =
    SaysDeal said (codes "DECLARER")
    (record { layout = options.layout; seat = options.declarer; trump = options.trump })
    × (first_of (codes "ANSWER") said ≡ Some options.answer.now)
    × (first_of side_option said ≡ Some (side_word options.side))
