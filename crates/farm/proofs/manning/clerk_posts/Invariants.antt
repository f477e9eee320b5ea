use Rattle.std.proofs.Common.{◌≡◌, ◌++◌, map}
use Rattle.farm.proofs.manning.clerk_posts.Given as goal

abbrev pub invariant-loop-claims : goal.invariant-loop-claims
invariant-loop-claims l =
    (l.fn.chairs.items ≡ map (λ post. post.chair) l.posts.items ++ l.chairs.items)
    × (map (λ post. post.claims) l.posts.items ≡ l.yielded)
    × (l.yielded ++ l.claims-iterator.rest.items ≡ l.fn.heard.items)
