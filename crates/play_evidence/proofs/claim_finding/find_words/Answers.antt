use Rattle.evidence.proofs.HeadLemmas.{no_byte}
use Rattle.play_evidence.proofs.ClaimLemmas.{first_word, second_word, third_word}
use Rattle.play_evidence.proofs.claim_finding.find_words.Goals as goal

pub returns-in_default : goal.returns-in_default
returns-in_default c = λ claim rest is e. no_byte 32 c.args.text.now _ _ c.in_default.ensures e

pub returns-in_default-cut_at : goal.returns-in_default-cut_at
returns-in_default-cut_at c = λ claim rest is e.
    let first = first_word claim rest is c.args.text.now c.in-Some.tricks.now c.in-Some.rest.now e c.in-Some.ensures in
    no_byte 32 c.in-Some.rest.now _ _ c.in_default-cut_at.ensures first.1

pub returns-in_default-cut_at-2 : goal.returns-in_default-cut_at-2
returns-in_default-cut_at-2 c = λ claim rest is e.
    let first = first_word claim rest is c.args.text.now c.in-Some.tricks.now c.in-Some.rest.now e c.in-Some.ensures in
    let second = second_word claim rest is c.in-Some.rest.now c.in-Some-cut_at.ns.now c.in-Some-cut_at.rest.now first.1 c.in-Some-cut_at.ensures in
    no_byte 10 c.in-Some-cut_at.rest.now _ _ c.in_default-cut_at-2.ensures second.1

pub returns : goal.returns
returns c = λ claim rest is e.
    let first = first_word claim rest is c.args.text.now c.in-Some.tricks.now c.in-Some.rest.now e c.in-Some.ensures in
    let second = second_word claim rest is c.in-Some.rest.now c.in-Some-cut_at.ns.now c.in-Some-cut_at.rest.now first.1 c.in-Some-cut_at.ensures in
    let third = third_word claim rest is c.in-Some-cut_at.rest.now c.in-Some-cut_at-2.ew.now c.in-Some-cut_at-2.rest.now second.1 c.in-Some-cut_at-2.ensures in
    (record { tricks = first.0; ns = second.0; ew = third.0 }, third.1)
