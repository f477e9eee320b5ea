-- What follows from the definitions, for all patterns and deals.
use Rattle.std.specs.Prelude.{◌≡◌, ℕ, ◌+◌, ◌<◌, ◌↔◌, List, length, Some}
use Rattle.cards.specs.declared.pack.Card.{Card}
use Rattle.cards.specs.declared.suits.Suit.{Suit}
use Rattle.cards.specs.declared.seats.Seat.{Seat}
use Rattle.cards.specs.Deal.{Deal, holder_of, count_of}
use Rattle.cards.specs.Pack.{rank_number}
use Rattle.patterns.specs.Shapes.{Shape, suit_of, len_of, hand_size, IsPattern, Covers}
use Rattle.patterns.specs.Holders.{Matches}
use Rattle.pattern_step.specs.declared.pat_cards.PatCard.{PatCard}
use Rattle.pattern_step.specs.declared.pat_cards.PatCard.TheVariants.{Top}
use Rattle.pattern_step.specs.PatCards.{suit_of_card, HasCard}
use Rattle.pattern_step.specs.Tricks.{AreLegalInTurn, IsLeft}
use Rattle.pattern_step.specs.LayoutCards.{StandsFor, IsOnePatCard, IsSomeCard}
use Rattle.pattern_step.specs.LayoutCards.{HoldsSuit, IsBelowTop, ArePlayed, IsWithout}

-- each card of a matching deal is exactly one pattern card, of the seat that holds it
abbrev pub EachCardIsOne : Type 0
EachCardIsOne =
    (shape : Shape) (deal : Deal) (seat : Seat) (card : Card)
    → Matches shape deal → holder_of deal card ≡ Some seat
    → IsOnePatCard shape deal seat card

-- each pattern card of a seat stands for some card that the seat holds, in every matching deal
abbrev pub EachPatCardIsSome : Type 0
EachPatCardIsSome =
    (shape : Shape) (deal : Deal) (seat : Seat) (card : PatCard)
    → Matches shape deal → HasCard shape seat card
    → IsSomeCard shape deal seat card

-- a top ranks above every card of a greater place and above every low card of its suit
abbrev pub TopsRankAbove : Type 0
TopsRankAbove =
    (shape : Shape) (deal : Deal) (suit : Suit) (place : ℕ) (below : PatCard) (higher lower : Card)
    → IsBelowTop suit place below → StandsFor shape deal (Top suit place) higher → StandsFor shape deal below lower
    → rank_number lower.rank < rank_number higher.rank

-- after a trick of which each card was stood for, the deal left matches every pattern that covers what is left
abbrev pub WhatIsLeftMatches : Type 0
WhatIsLeftMatches =
    (shape : Shape) (deal : Deal) (leader : Seat) (cards : List PatCard) (real : List Card)
    (rest : Shape) (left : Deal) (child : Shape)
    → length cards ≡ 4 → Matches shape deal → ArePlayed shape deal leader cards real
    → IsWithout deal leader real left → IsLeft shape leader cards rest → Covers child rest
    → Matches child left

-- what a pattern card stands for is of its suit
abbrev pub StandsForItsSuit : Type 0
StandsForItsSuit =
    (shape : Shape) (deal : Deal) (pat_card : PatCard) (card : Card) → StandsFor shape deal pat_card card
    → card.suit ≡ suit_of_card pat_card

-- a seat has a length above 0 just in the suits of which it holds a card
abbrev pub LengthsAreHeld : Type 0
LengthsAreHeld =
    (shape : Shape) (deal : Deal) (suit : Suit) (seat : Seat) → Matches shape deal
    → (0 < len_of (suit_of shape suit) seat) ↔ HoldsSuit deal suit seat

-- a pattern that a deal matches has hands of as many cards
abbrev pub HandsAreAsLarge : Type 0
HandsAreAsLarge =
    (shape : Shape) (deal : Deal) (seat : Seat) → length deal ≡ 52 → Matches shape deal
    → hand_size shape seat ≡ count_of deal seat

-- and so has a pattern that covers a rest
abbrev pub CoveredHandsAreAsLarge : Type 0
CoveredHandsAreAsLarge =
    (pattern rest : Shape) (seat : Seat) → Covers pattern rest → hand_size pattern seat ≡ hand_size rest seat

-- four cards leave one rest at most
abbrev pub OneIsLeft : Type 0
OneIsLeft =
    (shape : Shape) (leader : Seat) (cards : List PatCard) (one other : Shape)
    → IsLeft shape leader cards one → IsLeft shape leader cards other
    → one ≡ other

-- four cards that are legal in turn leave each hand one card less
abbrev pub EachHandHasOneLess : Type 0
EachHandHasOneLess =
    (shape : Shape) (leader : Seat) (cards : List PatCard) (left : Shape)
    → IsPattern shape → AreLegalInTurn shape leader cards → IsLeft shape leader cards left
    → (seat : Seat) → hand_size left seat + 1 ≡ hand_size shape seat
