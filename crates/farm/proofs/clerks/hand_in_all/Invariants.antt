use Rattle.std.proofs.Common.{◌≡◌, ℕ}
use Rattle.lease_desk.specs.Desks.{terms_of}
use Rattle.farm_relay.specs.Relays.{marks_of}
use Rattle.farm.specs.Posts.{StaysClerk, HandsInTaken}
use Rattle.farm.specs.Flows.{SettlesClaims}
use Rattle.farm.proofs.clerks.hand_in_all.Given as goal

abbrev pub invariant-loop : goal.invariant-loop
invariant-loop g l =
    StaysClerk g.C.Clock.may_tell l.crew l.initial.post l.post
    × (marks_of l.post.claims ≡ marks_of l.initial.post.claims)
    × ((weight : ℕ → ℕ) → SettlesClaims weight l.post)
    × HandsInTaken (terms_of l.crew.desk.now) l.initial.post l.post
