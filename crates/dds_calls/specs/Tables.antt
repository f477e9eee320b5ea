-- Rows of a table, and what a call answers.
use Rattle.std.specs.Prelude.{◌≡◌, ◌⊎◌, ℕ, ◌+◌, ◌-◌, ℤ, pos, negsuc, [], ◌∷◌, Err, slice_index_or}
use Rattle.cards.specs.declared.suits.Trump.{Trump}
use Rattle.cards.specs.declared.seats.Seat.{Seat}
use Rattle.cards.specs.Seats.{seat_number}
use Rattle.cards.specs.Deal.{Deal, size_of}
use Rattle.strategies.specs.Values.{IsValue}
use Rattle.dds_calls.specs.declared.hands.HandsFault.{HandsFault}
use Rattle.dds_calls.specs.declared.hands.HandsFault.TheVariants.{StrayBit, NoCards, TooManyCards, Unequal, CardTwice}
use Rattle.dds_calls.specs.declared.finding.RowFault.{RowFault}
use Rattle.dds_calls.specs.declared.finding.RowFault.TheVariants.{NoDenomination, Hands, Unknown}
use Rattle.dds_calls.specs.declared.tables.TableDeal.{TableDeal}
use Rattle.dds_calls.specs.declared.tables.TableRow.{TableRow}
use Rattle.dds_calls.specs.Denominations.{IsNoDenomination, denomination_number}
use Rattle.dds_calls.specs.Hands.{IsLayoutIn, MeetsHands}

-- the number of a declarer in a row
abbrev pub entry_of : TableRow → Seat → ℤ
entry_of row seat = slice_index_or row.tricks (seat_number seat) (pos 0)

-- A number of a table is a double-dummy value. If hands have fewer than 13 cards, DDS adds the number of cards that one
-- lacks: it counts the tricks that the defenders don't take, of 13.
abbrev pub IsEntry : Deal → Seat → Trump → ℤ → Type 0
IsEntry deal seat trump number =
    (tricks : ℕ) × IsValue deal seat trump tricks × (number ≡ pos (13 - size_of deal + tricks))

-- each number of the row is that of its declarer, in the layout and the denomination that were asked for
pub record IsRowOf (deal : TableDeal) (strain : ℤ) (row : TableRow) : Type 0 where
  pub layout : Deal
  pub trump : Trump
  pub is_layout : IsLayoutIn deal.cards layout
  pub strain_is : denomination_number trump ≡ strain
  pub entries : (seat : Seat) → IsEntry layout seat trump (entry_of row seat)

-- The call has this fault. It lacks steps or memory only if it was asked for a layout and a denomination.
abbrev pub IsRowFault : TableDeal → ℤ → RowFault → Type 0
IsRowFault deal strain NoDenomination = IsNoDenomination strain
IsRowFault deal strain (Hands fault) = (IsNoDenomination strain → ⊥) × MeetsHands deal.cards (Err fault)
IsRowFault deal strain Unknown = (IsNoDenomination strain → ⊥) × (layout : Deal) × IsLayoutIn deal.cards layout

-- DDS's codes
abbrev pub hands_code : HandsFault → ℤ
hands_code StrayBit = negsuc 11
hands_code NoCards = negsuc 1
hands_code TooManyCards = negsuc 9
hands_code Unequal = negsuc 13
hands_code CardTwice = negsuc 3

abbrev pub row_code : RowFault → ℤ
row_code NoDenomination = negsuc 17
row_code (Hands fault) = hands_code fault
row_code Unknown = negsuc 0

-- a row of zeros
abbrev pub no_row : TableRow
no_row = record { tricks = pos 0 ∷ pos 0 ∷ pos 0 ∷ pos 0 ∷ [] }

-- what a call answers: 1 and the row, or the code of the fault and zeros
abbrev pub AnswersRow : TableDeal → ℤ → TableRow → ℤ → Type 0
AnswersRow deal strain row code =
    ((code ≡ pos 1) × IsRowOf deal strain row)
    ⊎ ((fault : RowFault) × (code ≡ row_code fault) × IsRowFault deal strain fault × (row ≡ no_row))
