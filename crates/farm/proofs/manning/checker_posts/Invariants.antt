use Rattle.std.proofs.Common.{◌≡◌, ◌++◌, map}
use Rattle.farm.proofs.manning.checker_posts.Given as goal

abbrev pub invariant-loop-taker : goal.invariant-loop-taker
invariant-loop-taker l =
    (l.fn.claims.items ≡ map (λ post. post.claims) l.posts.items ++ l.claims.items)
    × (map (λ post. post.found) l.posts.items ≡ l.yielded)
    × (l.yielded ++ l.taker-iterator.rest.items ≡ l.fn.found.items)
