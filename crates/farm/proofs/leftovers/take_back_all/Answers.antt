use Rattle.farm.proofs.RoundLaws.{back_then}
use Rattle.farm.proofs.leftovers.take_back_all.Goals as goal

pub loop-place-preserved : goal.loop-place-preserved
loop-place-preserved c = back_then _ _ _ c.loop-place.invariant c.in_ok-take_back.ensures
