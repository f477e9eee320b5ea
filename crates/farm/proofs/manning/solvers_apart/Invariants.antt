use Rattle.std.proofs.Common.{◌≡◌, ◌++◌, map}
use Rattle.farm.proofs.manning.solvers_apart.Given as goal

abbrev pub invariant-loop-post : goal.invariant-loop-post
invariant-loop-post l =
    (l.chairs.items ≡ map (λ post. post.chair) l.yielded)
    × (l.groups.items ≡ map (λ post. post.groups) l.yielded)
    × (l.finds.items ≡ map (λ post. post.found) l.yielded)
    × (l.yielded ++ l.post-iterator.rest.items ≡ l.fn.posts.items)
