-- The lengths that a trick takes from its players, as bits: sixteen for each suit, and in them four for each seat, as
-- the word of a suit has them.
use Rattle.std.specs.Prelude.{ℕ, ◌+◌, ◌*◌, ◌^◌, List, if◌then◌else◌}
use Rattle.cards.specs.declared.suits.Suit.{Suit}
use Rattle.cards.specs.declared.seats.Seat.{Seat}
use Rattle.cards.specs.declared.seats.Seat.TheVariants.{North, East, South, West}
use Rattle.cards.specs.Seats.{seat_number}
use Rattle.cards.specs.Pack.{suit_number}
use Rattle.pattern_step.specs.declared.pat_cards.PatCard.{PatCard}
use Rattle.pattern_step.specs.PatCards.{suit_of_card, is_of_suit}
use Rattle.pattern_step.specs.Tricks.{played_by}

-- the seat's card takes one from its length
abbrev pub card_lens : Seat → PatCard → ℕ
card_lens seat card = 2 ^ (16 * suit_number (suit_of_card card) + 4 * seat_number seat)

-- one, if the card is of the suit
abbrev pub one_of : Suit → PatCard → ℕ
one_of suit card = if is_of_suit suit card then 1 else 0

-- what the four cards take from the lengths of a suit
abbrev pub trick_lens : Seat → List PatCard → Suit → ℕ
trick_lens leader cards suit =
    one_of suit (played_by leader cards North) + 2 ^ 4 * one_of suit (played_by leader cards East)
    + 2 ^ 8 * one_of suit (played_by leader cards South) + 2 ^ 12 * one_of suit (played_by leader cards West)
