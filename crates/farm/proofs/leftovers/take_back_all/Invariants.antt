use Rattle.farm.specs.Rounds.{TakesBack}
use Rattle.farm.proofs.leftovers.take_back_all.Given as goal

abbrev pub invariant-loop-place : goal.invariant-loop-place
invariant-loop-place l = TakesBack l.fn.book l.book
