-- The tricks of a board whose twenty results are known.
use Rattle.std.specs.Prelude.{◌≡◌, ℕ, ◌≤◌, List, Some, slice_index}
use Rattle.cards.specs.declared.seats.Seat.{Seat}
use Rattle.cards.specs.declared.suits.Trump.{Trump}
use Rattle.cards.specs.Orders.{trump_number}
use Rattle.tables.specs.TablesText.{Results}

abbrev pub AreAtMost13 : (Seat → Trump → ℕ) → Type 0
AreAtMost13 tricks = (declarer : Seat) (denomination : Trump) → tricks declarer denomination ≤ 13

-- the results are these
pub record HasTricks (results : Results) (tricks : Seat → Trump → ℕ) : Type 0 where
  pub are : (declarer : Seat) (denomination : Trump)
      → results declarer denomination ≡ Some (tricks declarer denomination)
  pub at_most : AreAtMost13 tricks

-- the row has those of a declarer
pub record IsRow (results : Results) (declarer : Seat) (row : List ℕ) : Type 0 where
  pub are :
      (denomination : Trump) → results declarer denomination ≡ Some (slice_index row (trump_number denomination))
  pub at_most : (denomination : Trump) → slice_index row (trump_number denomination) ≤ 13
