use Rattle.std.proofs.Common.{sym}
use Rattle.evidence_solvers.proofs.ClaimLaws.{noted}
use Rattle.evidence_solvers.proofs.claims.note_claim.Goals as goal

pub returns-in-Ok : goal.returns-in-Ok
returns-in-Ok c = λ sections has all.
    noted c.args.layout.now c.args.trump c.args.bundle.now c.args.declarer c.in-Some.claim _ _ sections (sym c.in-Some.ensures) c.in-Ok.ensures.items has all
