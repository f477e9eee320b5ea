-- The search as tasks, which several threads work on: one for each board and denomination.
use Rattle.std.specs.Prelude.{◌≡◌, ℕ, ◌+◌, ◌*◌, ◌⊎◌, List, All, Contains, Option, None, Some, IfSome}
use Rattle.std.specs.Prelude.{Result, Err, IfOk, slice_index_or}
use Rattle.std.specs.declared.alloc.AllocError.{AllocError}
use Rattle.std.proofs.Common.{Vec, Global}
use Rattle.cards.specs.declared.seats.Seat.{Seat}
use Rattle.cards.specs.declared.seats.Seat.TheVariants.{North, East, South, West}
use Rattle.cards.specs.declared.suits.Trump.{Trump}
use Rattle.cards.specs.Orders.{trump_number}
use Rattle.certificate_graph.specs.Solvers.{MayFindCards}
use Rattle.pbn_deals.specs.declared.boards.Board.{Board}
use Rattle.opening_leads.specs.declared.rows.DeclarerRows.{DeclarerRows}
use Rattle.opening_leads.specs.declared.rows.Lack.{Lack}
use Rattle.opening_leads.specs.declared.rows.Lack.TheVariants as lack
use Rattle.opening_leads.specs.Leads.{LeadRow, Leads, deal_at, with_values}
use Rattle.opening_leads.specs.Answers.{AreFoundLeads}

-- no row is known, for this reason
abbrev pub lacking_rows : Lack → DeclarerRows
lacking_rows why = record { north = Err why; east = Err why; south = Err why; west = Err why }

-- the row of a declarer
abbrev pub row_in : DeclarerRows → Seat → LeadRow
row_in rows North = with_values (λ values. values.items) rows.north
row_in rows East = with_values (λ values. values.items) rows.east
row_in rows South = with_values (λ values. values.items) rows.south
row_in rows West = with_values (λ values. values.items) rows.west

-- the number of a task
abbrev pub task_of : ℕ → Trump → ℕ
task_of board trump = 5 * board + trump_number trump

-- the row of a declarer, if the task was done
abbrev pub row_if : Option DeclarerRows → Seat → LeadRow
row_if None declarer = Err lack.Deal
row_if (Some rows) declarer = row_in rows declarer

-- what was found, by the numbers of the tasks, as the leads of boards
abbrev pub leads_in : List (Option DeclarerRows) → ℕ → Leads
leads_in found board declarer trump = row_if (slice_index_or found (task_of board trump) None) declarer

-- the rows that a task found, if its board has a deal
abbrev pub IsDone : MayFindCards → ℕ → List Board → ℕ → DeclarerRows → Type 0
IsDone may_find budget boards task rows =
    (board : ℕ) (trump : Trump) → task ≡ task_of board trump
    → IfSome (deal_at boards board) (λ deal. AreFoundLeads may_find budget deal trump (row_in rows))

-- tasks that are done, with their numbers
abbrev pub AreDone : MayFindCards → ℕ → List Board → List (ℕ × DeclarerRows) → Type 0
AreDone may_find budget boards done = All (λ one. IsDone may_find budget boards one.0 one.1) done

-- the tasks that a thread has taken, if its memory sufficed
abbrev pub IsShare : MayFindCards → ℕ → List Board → Result (Vec (ℕ × DeclarerRows) Global) AllocError → Type 0
IsShare may_find budget boards share = IfOk share (λ done. AreDone may_find budget boards done.items)

-- what was noted of tasks is what they found
abbrev pub AreNoted : MayFindCards → ℕ → List Board → List (Option DeclarerRows) → Type 0
AreNoted may_find budget boards noted =
    (task : ℕ) → IfSome (slice_index_or noted task None) (IsDone may_find budget boards task)

-- a note is an old one, or of one of these tasks
abbrev pub NotesDone : List (Option DeclarerRows) → List (Option DeclarerRows) → List (ℕ × DeclarerRows) → Type 0
NotesDone old new done =
    (task : ℕ) (rows : DeclarerRows) → slice_index_or new task None ≡ Some rows
    → (slice_index_or old task None ≡ Some rows) ⊎ Contains done (task, rows)
