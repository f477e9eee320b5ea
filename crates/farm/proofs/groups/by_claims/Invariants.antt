use Rattle.std.proofs.Common.{◌≡◌, ◌+◌, not, filter, take, length}
use Rattle.farm.specs.Groups.{is_claimed}
use Rattle.farm.proofs.groups.by_claims.Given as goal

abbrev pub invariant-loop-task : goal.invariant-loop-task
invariant-loop-task l =
    (l.claimed.items ≡ filter (is_claimed l.bundle) (take l.task-index l.tasks))
    × (l.others.items ≡ filter (λ task. not (is_claimed l.bundle task)) (take l.task-index l.tasks))
    × (length l.claimed.items + length l.others.items ≡ l.task-index)
