-- The words and options of `cards`.
use Rattle.std.specs.Prelude.{◌≡◌, List, [], ◌∷◌, ◌++◌, Some, codes}
use Rattle.clap.specs.Words.{Row, Rule, Shape, first_of}
use Rattle.command_words.specs.Options.{budget_option}
use Rattle.command_words.specs.Proofs.{SaysProof, proof_rules}
use Rattle.command_words.specs.Rules.{hand_words, number_rule, optional_word, subcommand}
use Rattle.command_words.specs.Says.{SaysDeal, SaysNumber, SaysText}
use Rattle.command_words.specs.declared.commands.Letters.{Letters}
use Rattle.deal_subcommands.specs.declared.card_tricks.options.CardsOptions.{CardsOptions}
use Rattle.deal_subcommands.specs.declared.card_tricks.options.PlayedWords.{PlayedWords}

-- the cards played to a trick
abbrev pub played_words : List Rule
played_words =
    optional_word (codes "CARD1") ∷ optional_word (codes "CARD2") ∷ optional_word (codes "CARD3") ∷ []

abbrev pub shape : Letters → Shape
shape letters = subcommand (codes "cards")
    ((hand_words letters (codes "LEADER") ++ played_words)
    ++ number_rule budget_option ∷ proof_rules)

-- the words name the cards played, as far as there are any
pub record SaysPlayed (said : List Row) (played : PlayedWords) : Type 0 where
  pub first : SaysText said (codes "CARD1") played.first
  pub second : SaysText said (codes "CARD2") played.second
  pub third : SaysText said (codes "CARD3") played.third

-- the words say the options
abbrev pub Says : List Row → CardsOptions → Type 0
Says said options =
    SaysDeal said (codes "LEADER") (record { layout = options.layout; seat = options.leader; trump = options.trump })
    × SaysNumber said budget_option options.budget
    × SaysProof said options.proof
    × SaysPlayed said options.played
