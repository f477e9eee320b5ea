use Rattle.std.proofs.Common.{◌<◌, sym, subst}
use Rattle.farm_relay.specs.declared.tallies.Tally.{Tally}
use Rattle.farm_relay.proofs.Moves.{takes, sees}
use Rattle.farm_relay.proofs.receiving.receive.Goals as goal

pub recv_as-requires-clause-rule : goal.recv_as-requires-clause-rule
recv_as-requires-clause-rule g c =
    let has = subst (λ (v : Tally g.row.T.Denot). 0 < v.shares) (sym c.loop.invariant.1) c.requires.share in
    (takes _ _ has, sees _ _)
