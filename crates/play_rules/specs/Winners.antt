-- The winner of a trick, computed.
use Rattle.std.specs.Prelude.{ℕ, ◌+◌, max, Bool, ◌||◌, ◌==◌, if◌then◌else◌}
use Rattle.cards.specs.declared.suits.Suit.{Suit}
use Rattle.cards.specs.declared.suits.Trump.{Trump}
use Rattle.cards.specs.declared.suits.Trump.TheVariants as trump
use Rattle.cards.specs.declared.seats.Seat.{Seat}
use Rattle.cards.specs.declared.pack.Card.{Card}
use Rattle.cards.specs.Pack.{suit_number, rank_number}
use Rattle.cards.specs.Seats.{seat_in_place}
use Rattle.play_rules.specs.Tricks.{Trick}

-- whether a card is of the suit
abbrev pub is_of : Suit → Card → Bool
is_of suit card = suit_number card.suit == suit_number suit

-- the suit that decides a trick: trump if one was played, otherwise the suit led
abbrev pub deciding_suit : Trump → Trick → Suit
deciding_suit trump.Nt trick = trick.first.suit
deciding_suit (trump.Suit suit) trick =
    if is_of suit trick.first || (is_of suit trick.second || (is_of suit trick.third || is_of suit trick.fourth))
    then suit
    else trick.first.suit

-- how high a card is in the suit: 0 for a card of another suit
abbrev pub height : Suit → Card → ℕ
height suit card = if is_of suit card then rank_number card.rank + 1 else 0

-- the first place with the greatest height
abbrev pub highest_place : ℕ → ℕ → ℕ → ℕ → ℕ
highest_place a b c d =
    let greatest = max (max (max a b) c) d in
    if a == greatest then 0 else (if b == greatest then 1 else (if c == greatest then 2 else 3))

-- the place of the winner, counted from the leader
abbrev pub winning_place : Trump → Trick → ℕ
winning_place trump trick =
    let suit = deciding_suit trump trick in
    let high : Card → ℕ = height suit in
    highest_place (high trick.first) (high trick.second) (high trick.third) (high trick.fourth)

-- the seat that wins the trick
unfoldable pub winner_of : Trump → Seat → Trick → Seat
winner_of trump leader trick = seat_in_place leader (winning_place trump trick)
