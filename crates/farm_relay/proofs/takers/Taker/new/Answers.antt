use Rattle.farm_relay.proofs.Moves.{shares}
use Rattle.farm_relay.proofs.takers.Taker.new.Goals as goal

pub another-requires-clause-rule : goal.another-requires-clause-rule
another-requires-clause-rule g c = shares _ _ c.requires.share
