use Rattle.std.proofs.Common.{◌≡◌, ◌++◌}
use Rattle.farm_threads.specs.Posts.{AreThreadsOf}
use Rattle.farm_threads.proofs.starting.start_each.Given as goal

abbrev pub invariant-loop-post : goal.invariant-loop-post
invariant-loop-post g l =
    AreThreadsOf l.work l.yielded l.threads.items
    × (l.yielded ++ l.post-iterator.rest.items ≡ l.fn.posts.items)
