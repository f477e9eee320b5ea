use Rattle.std.proofs.Common.{◌∙◌}
use Rattle.lease_desk.proofs.Moves.{opens_as, silent}
use Rattle.lease_desk.proofs.taking.begin.Goals as goal

pub send_as-requires-clause-rule : goal.send_as-requires-clause-rule
send_as-requires-clause-rule g c =
    let i = c.loop.invariant in
    (opens_as _ _ _ _ c.args.message (i.1 ∙ c.requires.view) i.2 c.requires.makers, silent _ _)
