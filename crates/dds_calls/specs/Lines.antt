-- Groups of cards of one suit that lead to the same tricks.
use Rattle.std.specs.Prelude.{◌≡◌, ◌⊎◌, ◌↔◌, ℕ, ◌+◌, ◌<◌, ◌≤◌, nat_eq, nat_le, Bool, List, length, take, count_by}
use Rattle.std.specs.Prelude.{Some, All, Contains, slice_get}
use Rattle.std.specs.List.{AllPairs}
use Rattle.std.specs.Int.{bit_at}
use Rattle.cards.specs.declared.suits.Suit.{Suit}
use Rattle.cards.specs.declared.seats.Seat.{Seat}
use Rattle.cards.specs.declared.pack.Rank.{Rank}
use Rattle.cards.specs.declared.pack.Card.{Card}
use Rattle.cards.specs.Pack.{card_of, rank_number}
use Rattle.cards.specs.Deal.{Deal, holder_of}
use Rattle.play_rules.specs.Position.{AreInOrder, listed_place}
use Rattle.card_values.specs.declared.values.CardValue.{CardValue}
use Rattle.card_values.specs.CardValues.{cards_of}
use Rattle.dds_calls.specs.declared.lines.Line.{Line}

-- No card between these ranks is another seat's. The deal is that of the beginning of the trick, so the cards of the
-- trick still count.
abbrev pub IsClearBetween : Deal → Seat → Suit → Rank → Rank → Type 0
IsClearBetween deal player suit low high =
    (rank : Rank) → rank_number low < rank_number rank → rank_number rank < rank_number high
    → (seat : Seat) → holder_of deal (card_of suit rank) ≡ Some seat → seat ≡ player

-- the lower card is in the group of the higher one: they touch, and lead to the same tricks
pub record Joins (deal : Deal) (player : Seat) (high low : CardValue) : Type 0 where
  pub suit : high.card.suit ≡ low.card.suit
  pub below : rank_number low.card.rank < rank_number high.card.rank
  pub tricks : high.tricks ≡ low.tricks
  pub clear : IsClearBetween deal player high.card.suit low.card.rank high.card.rank

-- the card is the highest of its group
abbrev pub IsTop : Deal → Seat → List CardValue → CardValue → Type 0
IsTop deal player values value = (other : CardValue) → Contains values other → Joins deal player other value → ⊥

-- the bits are those of the lower cards of the group: bit 2 stands for the deuce
abbrev pub AreEquals : Deal → Seat → List CardValue → CardValue → ℕ → Type 0
AreEquals deal player values value equals =
    (i : ℕ) → (bit_at equals i ≡ 1)
    ↔ ((other : CardValue) × Contains values other × Joins deal player value other
    × (rank_number other.card.rank + 2 ≡ i))

-- the line is the group below a card
pub record IsLineOf (deal : Deal) (player : Seat) (values : List CardValue) (value : CardValue) (line : Line)
    : Type 0 where
  pub card : line.card ≡ value.card
  pub tricks : line.tricks ≡ value.tricks
  pub equals : AreEquals deal player values value line.equals

-- the line is the group of a highest card that leads to at least this many tricks
pub record IsLine (deal : Deal) (player : Seat) (values : List CardValue) (least : ℕ) (line : Line) : Type 0 where
  pub top : CardValue
  pub listed : Contains values top
  pub worth : least ≤ top.tricks
  pub is_top : IsTop deal player values top
  pub is_line : IsLineOf deal player values top line

-- the card is the line's, or one of the lower cards of its group
abbrev pub IsOfLine : Line → Card → Type 0
IsOfLine line card =
    (card ≡ line.card) ⊎ ((card.suit ≡ line.card.suit) × (bit_at line.equals (rank_number card.rank + 2) ≡ 1))

-- some line has the card, with these tricks
pub record HasItsLine (lines : List Line) (value : CardValue) : Type 0 where
  pub line : Line
  pub listed : Contains lines line
  pub of_line : IsOfLine line value.card
  pub tricks : line.tricks ≡ value.tricks

-- lines come with tricks falling, then by suit, then with ranks falling
abbrev pub IsBefore : Line → Line → Type 0
IsBefore one other =
    (other.tricks < one.tricks)
    ⊎ ((other.tricks ≡ one.tricks) × (listed_place one.card < listed_place other.card))

-- no card is in both lines
abbrev pub AreApart : Line → Line → Type 0
AreApart one other = (card : Card) → IsOfLine one card → IsOfLine other card → ⊥

-- The lines are groups that lead to at least this many tricks. Each value with that many tricks is in exactly one line.
pub record AreLines (deal : Deal) (player : Seat) (values : List CardValue) (least : ℕ) (lines : List Line)
    : Type 0 where
  pub each : All (IsLine deal player values least) lines
  pub whole : (value : CardValue) → Contains values value → least ≤ value.tricks → HasItsLine lines value
  pub apart : AllPairs AreApart lines
  pub in_order : AllPairs IsBefore lines
  pub few : length lines ≤ 13

-- ---- in between
-- the player holds the cards, they are in order, and there are no more than a hand has
pub record AreChoices (deal : Deal) (player : Seat) (values : List CardValue) : Type 0 where
  pub held : (value : CardValue) → Contains values value → holder_of deal value.card ≡ Some player
  pub in_order : AreInOrder (cards_of values)
  pub few : length values ≤ 13
  pub within : (value : CardValue) → Contains values value → value.tricks ≤ 13

-- the loops have passed the value: it has at least this many tricks, or one fewer and an earlier place
abbrev pub IsDone : ℕ → ℕ → ℕ → CardValue → Type 0
IsDone least place k value = (least ≤ value.tricks) ⊎ ((value.tricks + 1 ≡ least) × (k < place))

-- the line belongs to a value that the loops have passed
pub record IsLineFrom (deal : Deal) (player : Seat) (values : List CardValue) (least place : ℕ) (line : Line)
    : Type 0 where
  pub k : ℕ
  pub top : CardValue
  pub at : slice_get values k ≡ Some top
  pub done : IsDone least place k top
  pub is_top : IsTop deal player values top
  pub is_line : IsLineOf deal player values top line

-- the value has its line, or is in the group of a higher card
abbrev pub IsCovered : Deal → Seat → List CardValue → List Line → CardValue → Type 0
IsCovered deal player values lines value =
    ((line : Line) × Contains lines line × IsLineOf deal player values value line)
    ⊎ ((other : CardValue) × Contains values other × Joins deal player other value)

abbrev pub is_worth : ℕ → CardValue → Bool
is_worth least value = nat_le least value.tricks

abbrev pub is_one_less : ℕ → CardValue → Bool
is_one_less least value = nat_eq (value.tricks + 1) least

-- the lines of the values that the loops have passed
pub record HasLines (deal : Deal) (player : Seat) (values : List CardValue) (least place : ℕ) (lines : List Line)
    : Type 0 where
  pub each : All (IsLineFrom deal player values least place) lines
  pub covered :
      (k : ℕ) (value : CardValue) → slice_get values k ≡ Some value → IsDone least place k value
      → IsCovered deal player values lines value
  pub in_order : AllPairs IsBefore lines
  pub room :
      length lines ≤ count_by (is_worth least) values + count_by (is_one_less least) (take place values)
