use Rattle.std.proofs.Common.{ℕ}
use Rattle.farm.specs.Posts.{StaysLender, LendsOwn}
use Rattle.farm.specs.Flows.{LendsAll}
use Rattle.farm.proofs.lending.lend_all.Given as goal

abbrev pub invariant-loop-batch : goal.invariant-loop-batch
invariant-loop-batch g l =
    StaysLender g.C.Clock.may_tell l.crew l.initial.post l.post
    × ((weight : ℕ → ℕ) → LendsAll weight l.post)
    × LendsOwn l.post
