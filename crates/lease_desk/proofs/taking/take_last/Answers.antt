use Rattle.std.proofs.Common.{true, subst, sym}
use Rattle.lease_desk.specs.declared.views.View.{View}
use Rattle.lease_desk.specs.declared.views.Custody.TheVariants.{Before}
use Rattle.std.proofs.Common.{◌≡◌}
use Rattle.lease_desk.proofs.Moves.{takes, silent}
use Rattle.lease_desk.proofs.taking.take_last.Goals as goal

pub recv_as-requires-clause-rule : goal.recv_as-requires-clause-rule
recv_as-requires-clause-rule g c =
    (takes true _ _ (subst (λ (v : View). v.custody ≡ Before → ⊥) (sym c.loop.invariant.1) c.requires.knows), silent _ _)
