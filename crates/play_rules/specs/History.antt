-- A history of play: the cards in the order in which they were played. It is cut into fours from the front. The leader
-- leads the first four, and the winner of each four leads the next (Law 44G).
use Rattle.std.specs.Prelude.{ℕ, ◌+◌, List, [], ◌∷◌, length, Option, None, Some, if◌then◌else◌}
use Rattle.cards.specs.declared.suits.Suit.{Suit}
use Rattle.cards.specs.declared.suits.Trump.{Trump}
use Rattle.cards.specs.declared.seats.Seat.{Seat}
use Rattle.cards.specs.declared.seats.Side.{Side}
use Rattle.cards.specs.declared.pack.Card.{Card}
use Rattle.cards.specs.Seats.{seat_in_place, side_of, is_same_side}
use Rattle.cards.specs.Deal.{Deal}
use Rattle.play_rules.specs.Tricks.{Trick}
use Rattle.play_rules.specs.Winners.{winner_of}

-- the beginning of play: the layout, the seat that leads, and the trump
pub record Opening : Type 0 where
  pub deal : Deal
  pub leader : Seat
  pub trump : Trump

abbrev pub trick_made : Card → Card → Card → Card → Trick
trick_made a b c d = record { first = a; second = b; third = c; fourth = d }

-- the cards of the trick in progress: the rest after the fours are cut off
unfoldable pub trick_of : List Card → List Card
trick_of [] = []
trick_of (a ∷ []) = a ∷ []
trick_of (a ∷ b ∷ []) = a ∷ b ∷ []
trick_of (a ∷ b ∷ c ∷ []) = a ∷ b ∷ c ∷ []
trick_of (a ∷ b ∷ c ∷ d ∷ rest) = trick_of rest

-- the seat that leads the trick in progress
unfoldable pub leader_after : Trump → Seat → List Card → Seat
leader_after trump leader [] = leader
leader_after trump leader (a ∷ []) = leader
leader_after trump leader (a ∷ b ∷ []) = leader
leader_after trump leader (a ∷ b ∷ c ∷ []) = leader
leader_after trump leader (a ∷ b ∷ c ∷ d ∷ rest) =
    leader_after trump (winner_of trump leader (trick_made a b c d)) rest

-- the seat to play: from the leader of the trick in progress as many places clockwise as it has cards
abbrev pub turn_after : Trump → Seat → List Card → Seat
turn_after trump leader history = seat_in_place (leader_after trump leader history) (length (trick_of history))

-- how many of a history's fours a side has won
unfoldable pub tricks_of : Side → Trump → Seat → List Card → ℕ
tricks_of side trump leader [] = 0
tricks_of side trump leader (a ∷ []) = 0
tricks_of side trump leader (a ∷ b ∷ []) = 0
tricks_of side trump leader (a ∷ b ∷ c ∷ []) = 0
tricks_of side trump leader (a ∷ b ∷ c ∷ d ∷ rest) =
    let winner = winner_of trump leader (trick_made a b c d) in
    (if is_same_side (side_of winner) side then 1 else 0) + tricks_of side trump winner rest

-- the suit of the first card
abbrev pub suit_of_first : List Card → Option Suit
suit_of_first [] = None
suit_of_first (card ∷ cards) = Some card.suit

-- the suit led to the trick in progress
abbrev pub suit_led : List Card → Option Suit
suit_led history = suit_of_first (trick_of history)
