use Rattle.std.proofs.Common.{codes, refl, sym, ◌∙◌, ap, Some, None}
use Rattle.std.proofs.lemmas.List.{append_cancel_left}
use Rattle.play_evidence.proofs.ClaimLemmas.{not_dashed}
use Rattle.play_evidence.proofs.claim_finding.find_claim.Goals as goal

pub returns-in-Some : goal.returns-in-Some
returns-in-Some c None rest is e = (refl, append_cancel_left (codes "-\n") _ _ (sym c.in-Some.ensures ∙ e))
returns-in-Some c (Some claim) rest is e = absurd (not_dashed claim rest _ is (sym c.in-Some.ensures ∙ e))

pub returns-in-Some-find_numbers : goal.returns-in-Some-find_numbers
returns-in-Some-find_numbers c None rest is e = absurd (c.in_default.ensures rest e)
returns-in-Some-find_numbers c (Some claim) rest is e =
    let found = c.in-Some-find_numbers.ensures claim rest is e in (ap Some found.0, found.1)

pub returns-in-None : goal.returns-in-None
returns-in-None c None rest is e = c.in_default.ensures rest e
returns-in-None c (Some claim) rest is e = c.in-None.ensures claim rest is e
