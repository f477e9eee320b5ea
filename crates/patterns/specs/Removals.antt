-- Owners that are taken out of a suit by their places.
use Rattle.std.specs.Prelude.{ℕ, List, Bool, not, map, filter, ◌==◌}
use Rattle.std.specs.List.{enumerate_from}
use Rattle.std.specs.Int.{bit_at}
use Rattle.cards.specs.declared.seats.Seat.{Seat}

-- whether a place is among these, which have a bit each, that of place 0 lowest
abbrev pub is_among : ℕ → ℕ → Bool
is_among places place = bit_at places place == 1

-- the owners in all other places, in their order
abbrev pub owners_but : ℕ → List Seat → List Seat
owners_but places owners =
    map (λ entry. entry.1) (filter (λ entry. not (is_among places entry.0)) (enumerate_from 0 owners))
