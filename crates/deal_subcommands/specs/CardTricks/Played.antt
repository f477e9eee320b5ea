-- The cards that words say were played to a trick.
use Rattle.std.specs.Prelude.{◌≡◌, ℕ, List, [], Option, None, Some, Result, Ok, Err}
use Rattle.std.specs.Borrow.{Bor}
use Rattle.cards.specs.declared.pack.Card.{Card}
use Rattle.deal_subcommands.specs.declared.card_tricks.options.CardsOptions.{CardsOptions}
use Rattle.deal_subcommands.specs.declared.card_tricks.options.PlayedWords.{PlayedWords}
use Rattle.pbn_deals.specs.LayoutValue.{SaysLayout}
use Rattle.play_rules.specs.Position.{Position, with_card}
use Rattle.play_dialogues.specs.Words.{NamesCard, letters_of}
use Rattle.card_values.specs.Tricks.{TakesOrRefuses}
use Rattle.card_values.specs.declared.faults.TrickFault.TheVariants.{Play}
use Rattle.deal_subcommands.specs.declared.faults.DealFault.{DealFault}
use Rattle.deal_subcommands.specs.declared.faults.DealFault.TheVariants.{Layout, NoCard, Unplayable}
use Rattle.deal_subcommands.specs.declared.card_tricks.played.WordPlace.{WordPlace}
use Rattle.deal_subcommands.specs.declared.card_tricks.played.WordPlace.TheVariants.{First, Second, Third}

-- ---- one word
-- the word names the card, as a typed line does
abbrev pub NamesIt : Bor (List ℕ) → Card → Type 0
NamesIt word card = NamesCard (letters_of word.now) card

-- the card that the word names is played, legally; without a word nothing is
abbrev pub IsPlayedBy : Option (Bor (List ℕ)) → Position → Position → Type 0
IsPlayedBy None before after = after ≡ before
IsPlayedBy (Some word) before after =
    (card : Card) × NamesIt word card × TakesOrRefuses before card (Ok tt) × (after ≡ with_card before card)

-- the word names no card, or one that may not be played, for this reason
abbrev pub IsRefusedAt : WordPlace → Option (Bor (List ℕ)) → Position → DealFault → Type 0
IsRefusedAt place (Some word) position (NoCard at) = (at ≡ place) × ((card : Card) → NamesIt word card → ⊥)
IsRefusedAt place (Some word) position (Unplayable at why) =
    (at ≡ place) × (card : Card) × NamesIt word card × TakesOrRefuses position card (Err (Play why))
IsRefusedAt place _ position _ = ⊥

abbrev pub PlaysWord : WordPlace → Option (Bor (List ℕ)) → Position → Position → Result Unit DealFault → Type 0
PlaysWord place word before after (Ok done) = IsPlayedBy word before after
PlaysWord place word before after (Err fault) = IsRefusedAt place word before fault

-- ---- all words
-- the cards that the words name are played in turn
pub record ArePlayed (words : PlayedWords) (before after : Position) : Type 0 where
  pub one : Position
  pub two : Position
  pub first : IsPlayedBy words.first before one
  pub second : IsPlayedBy words.second one two
  pub third : IsPlayedBy words.third two after

-- a word is the first that is refused
pub data IsRefused (words : PlayedWords) (before : Position) (fault : DealFault) : Type 0 where
  at_first : IsRefusedAt First words.first before fault → IsRefused words before fault
  at_second : (one : Position) → IsPlayedBy words.first before one → IsRefusedAt Second words.second one fault
      → IsRefused words before fault
  at_third : (one two : Position) → IsPlayedBy words.first before one → IsPlayedBy words.second one two
      → IsRefusedAt Third words.third two fault
      → IsRefused words before fault

abbrev pub AreWordsPlayed : PlayedWords → Position → Position → Result Unit DealFault → Type 0
AreWordsPlayed words before after (Ok done) = ArePlayed words before after
AreWordsPlayed words before after (Err fault) = IsRefused words before fault

-- ---- the options
-- the layout that the options spell, before a card is played
pub record IsBegun (options : CardsOptions) (position : Position) : Type 0 where
  pub spelt : SaysLayout options.layout.now (Ok position.opening.deal)
  pub leader : position.opening.leader ≡ options.leader
  pub trump : position.opening.trump ≡ options.trump
  pub none : position.history ≡ []

-- the trick in progress that the options name
pub record IsTrickOf (options : CardsOptions) (position : Position) : Type 0 where
  pub begin : Position
  pub begun : IsBegun options begin
  pub played : ArePlayed options.played begin position

-- a word of the options is the first that is refused
pub record RefusesWord (options : CardsOptions) (fault : DealFault) : Type 0 where
  pub begin : Position
  pub begun : IsBegun options begin
  pub refused : IsRefused options.played begin fault

-- the trick, or why there is none
abbrev pub BeginsTrick : CardsOptions → Result Position DealFault → Type 0
BeginsTrick options (Ok position) = IsTrickOf options position
BeginsTrick options (Err (Layout fault)) = SaysLayout options.layout.now (Err fault)
BeginsTrick options (Err fault) = RefusesWord options fault
