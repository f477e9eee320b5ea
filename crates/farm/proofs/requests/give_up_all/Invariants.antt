use Rattle.std.proofs.Common.{ℕ, take}
use Rattle.lease_desk.specs.Desks.{receipts_in}
use Rattle.farm.specs.Working.{StaysOnDuty}
use Rattle.farm.specs.Flows.{GaveUp, of_tasks}
use Rattle.farm.proofs.requests.give_up_all.Given as goal

abbrev pub invariant-loop-task : goal.invariant-loop-task
invariant-loop-task g l =
    StaysOnDuty g.C.Clock.may_tell l.crew l.initial.chair l.chair
    × ((weight : ℕ → ℕ) → GaveUp weight (receipts_in l.initial.chair) (receipts_in l.chair) (of_tasks weight (take l.task-index l.tasks)))
