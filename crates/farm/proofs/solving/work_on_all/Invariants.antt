use Rattle.std.proofs.Common.{◌≡◌}
use Rattle.farm_relay.specs.Relays.{marks_of}
use Rattle.farm.specs.Posts.{StaysSolver, AsksTaken}
use Rattle.farm.proofs.solving.work_on_all.Given as goal

abbrev pub invariant-loop : goal.invariant-loop
invariant-loop g l =
    StaysSolver g.C.Clock.may_tell l.crew l.initial.post l.post
    × (marks_of l.post.groups ≡ marks_of l.initial.post.groups)
    × AsksTaken g.S.Solver.may_find l.crew l.post
