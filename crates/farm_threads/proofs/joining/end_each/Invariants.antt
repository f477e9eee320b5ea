use Rattle.std.proofs.Common.{◌≡◌, ◌++◌, All}
use Rattle.farm_threads.specs.Promises.{HasEnded}
use Rattle.farm_threads.proofs.joining.end_each.Given as goal

abbrev pub invariant-loop-thread : goal.invariant-loop-thread
invariant-loop-thread g l =
    All (HasEnded g.P.Promise.kept_by) l.yielded × (l.yielded ++ l.thread-iterator.rest.items ≡ l.fn.threads.items)
