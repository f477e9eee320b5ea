-- The tricks of a board's twenty entries.
use Rattle.std.specs.Prelude.{ℕ, [], slice_index, slice_index_or}
use Rattle.cards.specs.declared.seats.Seat.{Seat}
use Rattle.cards.specs.declared.suits.Trump.{Trump}
use Rattle.cards.specs.Seats.{seat_number}
use Rattle.cards.specs.Orders.{trump_number}
use Rattle.par.specs.declared.boards.Tricks.{Tricks}

-- how many tricks this declarer takes in this denomination
abbrev pub tricks_in : Tricks → Seat → Trump → ℕ
tricks_in tricks declarer denomination =
    slice_index (slice_index_or tricks.rows (seat_number declarer) []) (trump_number denomination)
