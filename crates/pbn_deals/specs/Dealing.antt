-- The cards that the text of a Deal value names, in the order of the text.
use Rattle.std.specs.Prelude.{◌≡◌, ◌≢◌, ℕ, ◌<◌, ◌≤◌, ◌==◌, ◌↔◌, ◌⊎◌, List, Some, Contains, count_by}
use Rattle.cards.specs.declared.seats.Seat.{Seat}
use Rattle.cards.specs.declared.seats.Seat.TheVariants.{North}
use Rattle.cards.specs.declared.pack.Card.{Card}
use Rattle.cards.specs.Pack.{card_number}
use Rattle.cards.specs.Seats.{is_same_seat}
use Rattle.cards.specs.Deal.{Deal, holder_of, IsLayout}

-- a card that a hand of the text names, and whose hand it is
pub record Holding : Type 0 where
  pub seat : Seat
  pub card : Card

abbrev pub held_by : Seat → Card → Holding
held_by seat card = record { seat = seat; card = card }

-- how often the text names a card
abbrev pub times_named : List Holding → Card → ℕ
times_named held card = count_by (λ one. card_number one.card == card_number card) held

-- how many cards the text names in the seat's hand
abbrev pub cards_named : List Holding → Seat → ℕ
cards_named held seat = count_by (λ one. is_same_seat seat one.seat) held

-- no card is named twice
abbrev pub NamesOnce : List Holding → Type 0
NamesOnce held = (card : Card) → times_named held card ≤ 1

-- some card is named twice
abbrev pub NamesTwice : List Holding → Type 0
NamesTwice held = (card : Card) × (2 ≤ times_named held card)

-- the hands are of one size, 1 to 13
pub record AreSized (held : List Holding) : Type 0 where
  pub some_cards : 1 ≤ cards_named held North
  pub at_most_13 : cards_named held North ≤ 13
  pub equal : (seat : Seat) → cards_named held seat ≡ cards_named held North

-- a hand is empty, or of over 13 cards, or two are of unequal size
abbrev pub AreMissized : List Holding → Type 0
AreMissized held =
    (cards_named held North ≡ 0) ⊎
    ((13 < cards_named held North) ⊎
    ((seat : Seat) × (cards_named held seat ≢ cards_named held North)))

-- the deal in which each seat holds what the text names in its hand, and no other card
pub record IsDealOf (held : List Holding) (deal : Deal) : Type 0 where
  pub once : NamesOnce held
  pub sized : AreSized held
  pub holders : (card : Card) (seat : Seat) → (holder_of deal card ≡ Some seat) ↔ Contains held (held_by seat card)
  pub layout : IsLayout deal
