use Rattle.std.proofs.Common.{◌≡◌, ◌++◌, map}
use Rattle.farm.proofs.manning.clerks_apart.Given as goal

abbrev pub invariant-loop-post : goal.invariant-loop-post
invariant-loop-post l =
    (l.chairs.items ≡ map (λ post. post.chair) l.yielded)
    × (l.heard.items ≡ map (λ post. post.claims) l.yielded)
    × (l.yielded ++ l.post-iterator.rest.items ≡ l.fn.posts.items)
