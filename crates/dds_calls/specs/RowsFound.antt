-- What was found for a row, before it is a row of numbers.
use Rattle.std.specs.Prelude.{◌≡◌, ℕ, ◌+◌, ◌-◌, ℤ, pos, Option, Some, slice_index_or}
use Rattle.certified_tricks.specs.Searches.{AreKnownBy}
use Rattle.certified_tricks.specs.declared.answers.FourTricks.{FourTricks}
use Rattle.dds_calls.specs.declared.finding.RowFound.{RowFound}
use Rattle.dds_calls.specs.declared.tables.TableDeal.{TableDeal}
use Rattle.dds_calls.specs.declared.tables.TableRow.{TableRow}
use Rattle.dds_calls.specs.Denominations.{denomination_number}
use Rattle.dds_calls.specs.Hands.{IsLayoutIn}

-- what was found is of the layout and the denomination that were asked for, and was shown
pub record IsFoundFor (deal : TableDeal) (strain : ℤ) (row : RowFound) : Type 0 where
  pub is_layout : IsLayoutIn deal.cards row.layout
  pub strain_is : denomination_number row.trump ≡ strain
  pub known : AreKnownBy row.layout row.trump row.found.bundle row.found.tricks

-- the number of a declarer whose tricks are known, if each hand has `size` cards
abbrev pub IsNumberOf : Option ℕ → ℕ → ℤ → Type 0
IsNumberOf known size number = (tricks : ℕ) × (known ≡ Some tricks) × (number ≡ pos (13 - size + tricks))

-- the row has the four numbers
pub record HasNumbers (four : FourTricks) (size : ℕ) (row : TableRow) : Type 0 where
  pub north : IsNumberOf four.north size (slice_index_or row.tricks 0 (pos 0))
  pub east : IsNumberOf four.east size (slice_index_or row.tricks 1 (pos 0))
  pub south : IsNumberOf four.south size (slice_index_or row.tricks 2 (pos 0))
  pub west : IsNumberOf four.west size (slice_index_or row.tricks 3 (pos 0))
