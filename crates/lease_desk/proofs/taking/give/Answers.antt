use Rattle.lease_desk.proofs.Moves.{may_give_as, silent}
use Rattle.lease_desk.proofs.taking.give.Goals as goal

pub send_as-requires-clause-rule : goal.send_as-requires-clause-rule
send_as-requires-clause-rule g c =
    let i = c.loop.invariant in
    (may_give_as _ _ _ _ _ c.args.message i.1 i.2 c.requires.may, silent _ _)
