-- The entries of the tables and their order: by board, then declarer N, S, E, W, then denomination NT, S, H, D, C.
use Rattle.std.specs.Prelude.{ℕ, ◌+◌, ◌*◌, Bool, nat_eq}
use Rattle.cards.specs.declared.seats.Seat.{Seat}
use Rattle.cards.specs.declared.seats.Seat.TheVariants.{North, East, South, West}
use Rattle.cards.specs.declared.suits.Suit.TheVariants.{Spades, Hearts, Diamonds, Clubs}
use Rattle.cards.specs.declared.suits.Trump.{Trump}
use Rattle.cards.specs.declared.suits.Trump.TheVariants.{Nt, Suit}
use Rattle.lease_book.specs.declared.entries.Entry.{Entry}

-- the place of a declarer in a table
abbrev pub seat_place : Seat → ℕ
seat_place North = 0
seat_place South = 1
seat_place East = 2
seat_place West = 3

-- the place of a denomination among those of a declarer
abbrev pub trump_place : Trump → ℕ
trump_place Nt = 0
trump_place (Suit Spades) = 1
trump_place (Suit Hearts) = 2
trump_place (Suit Diamonds) = 3
trump_place (Suit Clubs) = 4

-- the place of a contract in the table of a board, 0 to 19
abbrev pub contract_place : Seat → Trump → ℕ
contract_place declarer trump = 5 * seat_place declarer + trump_place trump

-- The place of an entry among all entries. The order of entries is that of their places.
abbrev pub place_of : Entry → ℕ
place_of entry = 20 * entry.board + contract_place entry.declarer entry.trump

-- whether two are the same entry
abbrev pub is_same_entry : Entry → Entry → Bool
is_same_entry one other = nat_eq (place_of one) (place_of other)
