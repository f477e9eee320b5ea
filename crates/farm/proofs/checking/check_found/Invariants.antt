use Rattle.std.proofs.Common.{ℕ, ◌+◌, ◌≤◌, take}
use Rattle.farm_relay.specs.Relays.{PutsAtSame, put_by}
use Rattle.farm.specs.Flows.{all_claimed, of_tasks}
use Rattle.farm.proofs.Findings.{HasPut}
use Rattle.farm.proofs.checking.check_found.Given as goal

abbrev pub invariant-loop-task-2 : goal.invariant-loop-task-2
invariant-loop-task-2 g l =
    PutsAtSame l.initial.claims l.claims
    × ((weight : ℕ → ℕ) → all_claimed weight (put_by l.claims) ≤ all_claimed weight (put_by l.initial.claims) + of_tasks weight (take l.task-index l.task-items))
    × HasPut l.bundle l.pair (take l.task-index l.task-items) (put_by l.initial.claims) (put_by l.claims)
