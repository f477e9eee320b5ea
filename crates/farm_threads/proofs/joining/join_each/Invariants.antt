use Rattle.std.proofs.Common.{◌≡◌, ◌++◌}
use Rattle.farm_threads.specs.Beside.{AreBeside}
use Rattle.farm_threads.proofs.joining.join_each.Given as goal

abbrev pub invariant-loop-thread : goal.invariant-loop-thread
invariant-loop-thread g l =
    AreBeside (λ thread post. g.W.Work.ends thread.promise.work.value thread.promise.post.value post) l.yielded l.ended.items
    × (l.yielded ++ l.thread-iterator.rest.items ≡ l.fn.threads.items)
