use Rattle.std.proofs.Common.{length, codes, sym, ◌∙◌, arith}
use Rattle.card_evidence.proofs.LineLemmas.{one_number_line}
use Rattle.card_evidence.proofs.ClaimLemmas.{some_claims}
use Rattle.card_evidence.proofs.claim_reading.read_claims.Goals as goal

pub returns-then-count-eq0 : goal.returns-then-count-eq0
returns-then-count-eq0 c = λ claims rest are e.
    let count = one_number_line (codes "claims ") c.in-Some.count (length claims) _ _ c.in-Some.ensures.0 are.few (sym c.in-Some.ensures.1 ∙ e) in
    omega (arith, count.0, c.if-count-eq0.true, some_claims claims are.some)

pub returns-in_default-2 : goal.returns-in_default-2
returns-in_default-2 c = λ claims rest are e.
    let count = one_number_line (codes "claims ") c.in-Some.count (length claims) _ _ c.in-Some.ensures.0 are.few (sym c.in-Some.ensures.1 ∙ e) in
    let none = rw c.in_default-2.is at c.in_ok-rest.ensures in
    none claims rest (sym count.0) are.each count.1
