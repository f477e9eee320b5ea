use Rattle.std.proofs.Common.{◌≡◌, ℕ}
use Rattle.farm_relay.specs.Relays.{marks_of}
use Rattle.farm.specs.Posts.{StaysChecker, ClaimsTaken}
use Rattle.farm.specs.Flows.{ClaimsOwn}
use Rattle.farm.proofs.checking.check_all.Given as goal

abbrev pub invariant-loop : goal.invariant-loop
invariant-loop g l =
    StaysChecker l.initial.post l.post
    × (marks_of l.post.found ≡ marks_of l.initial.post.found)
    × ((weight : ℕ → ℕ) → ClaimsOwn weight l.post)
    × ClaimsTaken l.post
