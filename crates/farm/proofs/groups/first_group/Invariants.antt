use Rattle.std.proofs.Common.{◌≡◌, ◌+◌, not, filter, take, length}
use Rattle.farm.specs.Groups.{is_with}
use Rattle.farm.proofs.groups.first_group.Given as goal

abbrev pub invariant-loop-task : goal.invariant-loop-task
invariant-loop-task l =
    (l.group.items ≡ filter (is_with l.first) (take l.task-index l.tasks))
    × (l.others.items ≡ filter (λ task. not (is_with l.first task)) (take l.task-index l.tasks))
    × (length l.group.items + length l.others.items ≡ l.task-index)
