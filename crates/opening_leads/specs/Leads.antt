-- The opening leads of the contracts of a board.
use Rattle.std.specs.Prelude.{ℕ, List, [], Bool, true, false, Option, None, Some, Result, Ok, Err, slice_get}
use Rattle.cards.specs.declared.seats.Seat.{Seat}
use Rattle.cards.specs.declared.suits.Trump.{Trump}
use Rattle.cards.specs.Deal.{Deal}
use Rattle.pbn_deals.specs.declared.boards.Board.{Board}
use Rattle.play_rules.specs.Position.{Position}
use Rattle.strategies.specs.Values.{opening_of}
use Rattle.card_values.specs.declared.values.CardValue.{CardValue}
use Rattle.opening_leads.specs.declared.rows.Counted.{Counted}
use Rattle.opening_leads.specs.declared.rows.Counted.TheVariants.{Known, Steps, Memory, Refused}
use Rattle.opening_leads.specs.declared.rows.Lack.{Lack}
use Rattle.opening_leads.specs.declared.rows.Lack.TheVariants as lack

-- the leads against a contract, each with the tricks that the defenders take after it, or why they are not known
abbrev pub LeadRow : Type 0
LeadRow = Result (List CardValue) Lack

-- the leads of a board, by declarer and denomination
abbrev pub Leads : Type 0
Leads = Seat → Trump → LeadRow

-- the row, if this is the list of the values that are known
abbrev pub with_values : {V : Type 0} → (V → List CardValue) → Result V Lack → LeadRow
with_values items (Ok values) = Ok (items values)
with_values items (Err lack) = Err lack

-- ---- counts
-- the leads are known
abbrev pub is_known : LeadRow → Bool
is_known (Ok values) = true
is_known (Err lack) = false

-- they are not, since steps ran out, memory ran out, or the answer was refused
abbrev pub lacks_steps : Lack → Bool
lacks_steps lack.Steps = true
lacks_steps _ = false

abbrev pub lacks_memory : Lack → Bool
lacks_memory lack.Memory = true
lacks_memory _ = false

abbrev pub is_refused : Lack → Bool
is_refused lack.Refused = true
is_refused _ = false

abbrev pub lacks_so : (Lack → Bool) → LeadRow → Bool
lacks_so so (Ok values) = false
lacks_so so (Err lack) = so lack

abbrev pub is_counted : Counted → LeadRow → Bool
is_counted Known row = is_known row
is_counted Steps row = lacks_so lacks_steps row
is_counted Memory row = lacks_so lacks_memory row
is_counted Refused row = lacks_so is_refused row

-- a contract before its opening lead, which the seat at declarer's left makes (Law 41A)
abbrev pub before_lead : Deal → Seat → Trump → Position
before_lead deal declarer trump = record { opening = opening_of deal declarer trump; history = [] }

-- the deal of a board, by its place from 0, if the board is there and has one
abbrev pub deal_of : Option Board → Option Deal
deal_of None = None
deal_of (Some board) = board.deal

abbrev pub deal_at : List Board → ℕ → Option Deal
deal_at boards place = deal_of (slice_get boards place)
