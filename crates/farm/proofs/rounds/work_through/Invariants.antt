use Rattle.farm.specs.Asks.{IsAsked}
use Rattle.farm.specs.Rounds.{GoesRound}
use Rattle.farm.proofs.rounds.work_through.Given as goal

abbrev pub invariant-loop-round : goal.invariant-loop-round
invariant-loop-round g l = GoesRound (g.C.Clock.may_tell l.means.clock.now) (IsAsked (g.S.Solver.may_find l.means.solver.now) l.deals l.settings.budget) l.fn.book l.book l.steps
