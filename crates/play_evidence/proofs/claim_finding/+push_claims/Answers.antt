use Rattle.std.proofs.Common.{refl, arith}
use Rattle.card_evidence.proofs.ClaimLemmas.{unless_err}
use Rattle.play_evidence.specs.Sections.{IsKeptClaim}
use Rattle.play_evidence.specs.SectionTexts.{claim_text, claims_text}
use Rattle.play_evidence.proofs.ClaimLemmas.{none_added, first_lacks, first_added}
use Rattle.play_evidence.proofs.claim_finding.+push_claims.Goals as goal

pub returns-then-count-eq0 : goal.returns-then-count-eq0
returns-then-count-eq0 t c =
    none_added IsKeptClaim claims_text claim_text (λ rest. refl) (λ x more rest. refl) c.args.count c.args.text.now c.args.claims.now.items c.args.text c.if-count-eq0.true refl

pub returns-in_default : goal.returns-in_default
returns-in_default t c =
    first_lacks IsKeptClaim claims_text claim_text (λ rest. refl) (λ x more rest. refl) c.args.count c.args.text.now c.args.claims.now.items c.args.claims.now.items (omega (arith, c.if-count-eq0.false)) c.in_default.ensures

pub returns : goal.returns
returns t c =
    unless_err c.push_claims.result
    (λ r adds. first_added IsKeptClaim claims_text claim_text (λ rest. refl) (λ x more rest. refl) c.args.count c.args.text.now c.in-Some.rest.now _ _ _ c.in-Some.claim r
    (omega (arith, c.if-count-eq0.false)) c.in_ok-push.ensures.items c.in-Some.ensures adds)
    c.push_claims.ensures
