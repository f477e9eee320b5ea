-- The counts of the posts so far are summed up.
use Rattle.std.proofs.Common.{◌≡◌, sum_by, take}
use Rattle.farm.specs.Asks.{as_counted}
use Rattle.farm.proofs.posts.steps_at.Given as goal

abbrev pub invariant-loop-post : goal.invariant-loop-post
invariant-loop-post l = l.steps ≡ as_counted (sum_by (λ post. post.steps) (take l.post-index l.solvers))
