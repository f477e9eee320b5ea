-- The cards of a layout and the cards of a pattern that it matches.
use Rattle.std.specs.Prelude.{◌≡◌, ◌≢◌, ℕ, ◌-◌, ◌<◌, ◌≤◌, List, length, take, None, Some, slice_index_or}
use Rattle.std.specs.List.{filter_map}
use Rattle.cards.specs.declared.pack.Rank.{Rank}
use Rattle.cards.specs.declared.pack.Rank.TheVariants.{Two}
use Rattle.cards.specs.declared.pack.Card.{Card}
use Rattle.cards.specs.declared.suits.Suit.{Suit}
use Rattle.cards.specs.declared.suits.Suit.TheVariants.{Spades}
use Rattle.cards.specs.declared.seats.Seat.{Seat}
use Rattle.cards.specs.Deal.{Deal, holder_of}
use Rattle.cards.specs.Pack.{card_of, rank_number}
use Rattle.cards.specs.Seats.{place_of}
use Rattle.patterns.specs.Shapes.{Shape, suit_of}
use Rattle.patterns.specs.Holders.{falling_ranks}
use Rattle.pattern_step.specs.declared.pat_cards.PatCard.{PatCard}
use Rattle.pattern_step.specs.declared.pat_cards.PatCard.TheVariants.{Top, Low}
use Rattle.pattern_step.specs.PatCards.{HasCard}
use Rattle.pattern_step.specs.Tricks.{played_by}

-- the ranks above this one, the ace first
abbrev pub ranks_above : Rank → List Rank
ranks_above rank = take (12 - rank_number rank) falling_ranks

-- how many higher cards of the suit are in the four hands
abbrev pub place_in_suit : Deal → Card → ℕ
place_in_suit deal card =
    length (filter_map (λ rank. holder_of deal (card_of card.suit rank)) (ranks_above card.rank))

-- A pattern card stands for a card of the layout: a top for the card of its suit in its place, and a low card for
-- each card of its suit in a place after the owners.
abbrev pub StandsFor : Shape → Deal → PatCard → Card → Type 0
StandsFor shape deal (Top suit place) card =
    (card.suit ≡ suit) × (place_in_suit deal card ≡ place) × (place < length (suit_of shape suit).owners)
StandsFor shape deal (Low suit) card =
    (card.suit ≡ suit) × (length (suit_of shape suit).owners ≤ place_in_suit deal card)

-- the card is exactly one pattern card, and the seat has that one
pub record IsOnePatCard (shape : Shape) (deal : Deal) (seat : Seat) (card : Card) : Type 0 where
  pub one : PatCard
  pub has : HasCard shape seat one
  pub stands : StandsFor shape deal one card
  pub alone : (other : PatCard) → StandsFor shape deal other card → other ≡ one

-- the seat holds a card that the pattern card stands for
pub record IsSomeCard (shape : Shape) (deal : Deal) (seat : Seat) (pat_card : PatCard) : Type 0 where
  pub card : Card
  pub held : holder_of deal card ≡ Some seat
  pub stands : StandsFor shape deal pat_card card

-- the seat holds a card of the suit
abbrev pub HoldsSuit : Deal → Suit → Seat → Type 0
HoldsSuit deal suit seat = (card : Card) × (holder_of deal card ≡ Some seat) × (card.suit ≡ suit)

-- a pattern card is below the top in this place: a top of a greater place, or a low card, of the same suit
abbrev pub IsBelowTop : Suit → ℕ → PatCard → Type 0
IsBelowTop suit place (Top of other) = (of ≡ suit) × (place < other)
IsBelowTop suit place (Low of) = of ≡ suit

-- the card of the layout that the seat played, of four that were played clockwise from the leader
abbrev pub real_by : Seat → List Card → Seat → Card
real_by leader real seat = slice_index_or real (place_of leader seat) (card_of Spades Two)

-- each seat played a card that it holds, and the pattern card that it played stands for that one
pub record ArePlayed (shape : Shape) (deal : Deal) (leader : Seat) (cards : List PatCard) (real : List Card)
    : Type 0 where
  pub held : (seat : Seat) → holder_of deal (real_by leader real seat) ≡ Some seat
  pub stands : (seat : Seat) → StandsFor shape deal (played_by leader cards seat) (real_by leader real seat)

-- the deal without those cards
pub record IsWithout (deal : Deal) (leader : Seat) (real : List Card) (left : Deal) : Type 0 where
  pub gone : (seat : Seat) → holder_of left (real_by leader real seat) ≡ None
  pub stays : (card : Card) → ((seat : Seat) → card ≢ real_by leader real seat)
      → holder_of left card ≡ holder_of deal card
