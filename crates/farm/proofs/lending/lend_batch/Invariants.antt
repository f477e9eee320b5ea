use Rattle.std.proofs.Common.{◌≡◌, ℕ, ◌+◌, ◌≤◌, ◌-◌, List, All, length}
use Rattle.lease_desk.specs.declared.receipts.Receipt.{Receipt}
use Rattle.farm_relay.specs.Relays.{put_by, PutsAtSame}
use Rattle.farm.specs.Findings.{IsLentUnder}
use Rattle.farm.specs.Requests.{AreGiven}
use Rattle.farm.specs.Flows.{of_tasks, all_lent}
use Rattle.farm.proofs.lending.lend_batch.Given as goal

abbrev pub invariant-loop-group : goal.invariant-loop-group
invariant-loop-group g l =
    PutsAtSame l.initial.groups l.groups
    × (length l.rest.items ≤ length l.fn.batch.items - l._group)
    × (
    (weight : ℕ → ℕ) → all_lent weight (put_by l.groups) + of_tasks weight l.rest.items
    ≡ all_lent weight (put_by l.initial.groups) + of_tasks weight l.fn.batch.items
    )
    × (
    (receipts : List Receipt) → AreGiven receipts l.fn.batch.items → All (IsLentUnder receipts) (put_by l.initial.groups)
    → AreGiven receipts l.rest.items × All (IsLentUnder receipts) (put_by l.groups)
    )
