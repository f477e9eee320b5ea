use Rattle.std.proofs.Common.{◌≡◌, arith}
use Rattle.play_evidence.proofs.ClaimLemmas.{same_claim}
use Rattle.play_evidence.proofs.claim_finding.claim_of.Goals as goal

pub returns-in_default : goal.returns-in_default
returns-in_default c = λ claim is words.
    let few = is.few in
    let told = c.in_default.ensures claim.tricks (omega arith) words.tricks in cc

pub returns-in_default-root_of : goal.returns-in_default-root_of
returns-in_default-root_of c = λ claim is words. c.in_default-root_of.ensures claim.ns is.ns words.ns

pub returns-in_default-root_of-2 : goal.returns-in_default-root_of-2
returns-in_default-root_of-2 c = λ claim is words. c.in_default-root_of-2.ensures claim.ew is.ew words.ew

pub returns : goal.returns
returns c = λ claim is words.
    let few = is.few in
    let told = c.in-Some.ensures claim.tricks (omega arith) words.tricks in
    let tricks : c.in-Some.tricks ≡ claim.tricks = cc in
    same_claim _ claim tricks (c.in-Some-root_of.ensures claim.ns is.ns words.ns) (c.in-Some-root_of-2.ensures claim.ew is.ew words.ew)
