use Rattle.evidence_solvers.proofs.ClaimLaws.{undenied}
use Rattle.evidence_solvers.proofs.claims.is_claim_for.Goals as goal

pub returns : goal.returns
returns c =
    let says = c.equals_are_one.ensures in
    λ yes. record {
      layout = (says.layouts _ _).0 (undenied _ c.if-ne-3.ensures);
      declarer = (says.seats _ _).0 (undenied _ c.if-ne.ensures);
      trump = (says.trumps _ _).0 (undenied _ c.if-ne-2.ensures);
      tricks = c.if-claim-k.false;
    }
