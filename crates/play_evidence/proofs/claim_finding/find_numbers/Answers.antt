use Rattle.play_evidence.proofs.claim_finding.find_numbers.Goals as goal

pub returns-in_default : goal.returns-in_default
returns-in_default c = λ claim rest is e. c.in_default.ensures claim rest is e

pub returns-in_default-claim_of : goal.returns-in_default-claim_of
returns-in_default-claim_of c = λ claim rest is e.
    let words = c.in-Some.ensures claim rest is e in
    c.in_default-claim_of.ensures claim is words.0

pub returns : goal.returns
returns c = λ claim rest is e.
    let words = c.in-Some.ensures claim rest is e in
    (c.in-Some-claim_of.ensures claim is words.0, words.1)
