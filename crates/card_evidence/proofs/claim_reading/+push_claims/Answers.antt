use Rattle.std.proofs.Common.{arith}
use Rattle.card_evidence.proofs.ClaimLemmas.{no_claims, claims_read, unless_err}
use Rattle.card_evidence.proofs.claim_reading.+push_claims.Goals as goal

pub returns-in_default : goal.returns-in_default
returns-in_default t c = no_claims c.args.count c.args.text.now (omega (arith, c.if-count-eq0.false)) (rw c.in_default.is at c.in_ok-claim.ensures)

pub returns : goal.returns
returns t c =
    let read = rw c.in-Some.is at c.in_ok-claim.ensures in
    unless_err c.push_claims.result
    (λ rest adds. claims_read c.args.count c.args.text.now c.in-Some.rest.now c.in-Some.claim (omega (arith, c.if-count-eq0.false)) read _ _ _ rest c.in_ok-push.ensures.items adds)
    c.push_claims.ensures
