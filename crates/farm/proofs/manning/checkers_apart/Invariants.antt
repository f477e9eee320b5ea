use Rattle.std.proofs.Common.{◌≡◌, ◌++◌, map}
use Rattle.farm.proofs.manning.checkers_apart.Given as goal

abbrev pub invariant-loop-post : goal.invariant-loop-post
invariant-loop-post l =
    (l.found.items ≡ map (λ post. post.found) l.yielded)
    × (l.claims.items ≡ map (λ post. post.claims) l.yielded)
    × (l.yielded ++ l.post-iterator.rest.items ≡ l.fn.posts.items)
