use Rattle.std.proofs.Common.{◌++◌, length, sym, ◌∙◌, ap}
use Rattle.play_evidence.proofs.claim_finding.find_claims.Goals as goal

pub returns-in_default : goal.returns-in_default
returns-in_default c = λ claims rest are e. c.in_default.ensures (length claims) _ are.few e

pub returns-in_default-2 : goal.returns-in_default-2
returns-in_default-2 c = λ claims rest are e.
    let count = c.in-Some.ensures (length claims) _ are.few e in
    let none = rw c.in_default-2.is at c.in_ok-rest.ensures in
    none claims rest (sym count.0) are.each count.1

pub returns : goal.returns
returns c = λ claims rest are e.
    let count = c.in-Some.ensures (length claims) _ are.few e in
    let adds = rw c.in-Some-2.is at c.in_ok-rest.ensures in
    let more = adds claims rest (sym count.0) are.each count.1 in
    (more.0 ∙ ap (λ l. l ++ claims) c.new-claims.ensures.items, more.1)
