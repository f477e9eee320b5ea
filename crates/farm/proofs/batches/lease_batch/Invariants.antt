use Rattle.std.proofs.Common.{◌≤◌, ℕ, length}
use Rattle.lease_desk.specs.Desks.{receipts_in}
use Rattle.farm.specs.Working.{StaysOnDuty}
use Rattle.farm.specs.Requests.{AreGiven, Continues}
use Rattle.farm.specs.Flows.{Moves, of_task, of_tasks}
use Rattle.farm.proofs.batches.lease_batch.Given as goal

abbrev pub invariant-loop-more : goal.invariant-loop-more
invariant-loop-more g l =
    StaysOnDuty g.C.Clock.may_tell l.crew l.initial.chair l.chair
    × (length l.batch.items ≤ l._more)
    × ((weight : ℕ → ℕ) → Moves weight (receipts_in l.initial.chair) (receipts_in l.chair) (of_task weight l.fn.first) (of_tasks weight l.batch.items))
    × AreGiven (receipts_in l.chair) l.batch.items
    × Continues (receipts_in l.initial.chair) (receipts_in l.chair)
