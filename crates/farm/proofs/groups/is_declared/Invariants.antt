-- None of the first leases is for the declarer.
use Rattle.std.proofs.Common.{◌≡◌, false, take}
use Rattle.farm.specs.Groups.{is_declared_in}
use Rattle.farm.proofs.groups.is_declared.Given as goal

abbrev pub invariant-loop-task : goal.invariant-loop-task
invariant-loop-task l = is_declared_in (take l.task-index l.tasks) l.declarer ≡ false
