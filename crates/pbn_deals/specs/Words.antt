-- What the words of bits say of the cards that were named.
use Rattle.std.specs.Prelude.{◌≡◌, ℕ, ◌^◌, ◌<◌, Bool, true, false, List, ◌++◌, map, length, Contains, count_ones}
use Rattle.std.specs.Prelude.{Option, Some, None}
use Rattle.cards.specs.declared.seats.Seat.{Seat}
use Rattle.cards.specs.declared.pack.Card.{Card}
use Rattle.cards.specs.Hands.{word_of, HasBit}
use Rattle.pbn_deals.specs.declared.dealings.Dealing.{Dealing}
use Rattle.pbn_deals.specs.DealValue.{Naming}
use Rattle.pbn_deals.specs.Dealing.{Holding, held_by, cards_named, NamesOnce, NamesTwice}

-- a word has no bit from 52 up
abbrev pub HasCardsAlone : ℕ → Type 0
HasCardsAlone word = word < 2 ^ 52

-- where no card was named twice: no bit is in two words, and each word has a bit for each card named
pub record IsOnce (hands : List ℕ) (held : List Holding) : Type 0 where
  pub once : NamesOnce held
  pub apart : (card : Card) (one other : Seat) → HasBit hands one card → HasBit hands other card → one ≡ other
  pub sizes : (seat : Seat) → count_ones (word_of hands seat) ≡ cards_named held seat

abbrev pub TellsTwice : Bool → List ℕ → List Holding → Type 0
TellsTwice false hands held = IsOnce hands held
TellsTwice true hands held = NamesTwice held

pub record Represents (dealing : Dealing) (held : List Holding) : Type 0 where
  pub four : length dealing.hands ≡ 4
  pub cards_alone : (seat : Seat) → HasCardsAlone (word_of dealing.hands seat)
  pub named : (card : Card) (seat : Seat) → HasBit dealing.hands seat card → Contains held (held_by seat card)
  pub has : (card : Card) (seat : Seat) → Contains held (held_by seat card) → HasBit dealing.hands seat card
  pub twice : TellsTwice dealing.is_twice dealing.hands held

-- the cards were put to those named before
abbrev pub AddsCards : Dealing → Dealing → Seat → List Card → Type 0
AddsCards old new seat cards =
    (held : List Holding) → Represents old held → Represents new (held ++ map (held_by seat) cards)

-- what was read of a hand: its cards are put where it is of the form, and only there
abbrev pub ReadsHand : Bool → Option (List Card) → Seat → Dealing → Dealing → Type 0
ReadsHand true (Some cards) seat old new = AddsCards old new seat cards
ReadsHand true None seat old new = ⊥
ReadsHand false (Some cards) seat old new = ⊥
ReadsHand false None seat old new = Unit {0}

-- what was read of a value: what it says, where it is of the form
abbrev pub ReadsNaming : Option Dealing → Option Naming → Type 0
ReadsNaming (Some dealing) (Some naming) = Represents dealing naming.held × (dealing.is_partial ≡ naming.is_partial)
ReadsNaming (Some dealing) None = ⊥
ReadsNaming None (Some naming) = ⊥
ReadsNaming None None = Unit {0}
