use Rattle.std.proofs.Common.{◌≡◌, ◌++◌, All, map}
use Rattle.farm.proofs.manning.solver_posts.Given as goal

abbrev pub invariant-loop-found : goal.invariant-loop-found
invariant-loop-found l =
    (l.initial.chairs.items ≡ map (λ post. post.chair) l.posts.items ++ l.chairs.items)
    × (l.fn.groups.items ≡ map (λ post. post.groups) l.posts.items ++ l.groups.items)
    × (map (λ post. post.found) l.posts.items ≡ l.yielded)
    × All (λ post. post.steps ≡ 0) l.posts.items
    × (l.yielded ++ l.found-iterator.rest.items ≡ l.fn.finds.items)
