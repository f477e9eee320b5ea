use Rattle.std.proofs.Common.{◌≡◌, ◌≤◌, filter, take, length}
use Rattle.farm.specs.Groups.{is_declared_in}
use Rattle.farm.proofs.groups.declarers_of.Given as goal

abbrev pub invariant-loop-declarer : goal.invariant-loop-declarer
invariant-loop-declarer l =
    (l.declarers.items ≡ filter (is_declared_in l.group.items) (take l.declarer-index l.declarer-items))
    × (length l.declarers.items ≤ l.declarer-index)
