use Rattle.std.proofs.Common.{◌≡◌, ◌+◌, List, [], ◌∷◌, ◌++◌, take, cond, true, sym, ◌∙◌, ap, subst, arith}
use Rattle.std.specs.Result.{is_ok}
use Rattle.std.proofs.lemmas.List.{take_more, take_all}
use Rattle.certificate_graph.specs.declared.bundles.Claim.{Claim}
use Rattle.checker.specs.declared.entries.Shown.{Shown}
use Rattle.evidence.specs.Sections.{SectionShape}
use Rattle.audits.specs.Firsts.{AreShownBy}
use Rattle.audits.proofs.ShownLaws.{section_of, same_section, proof_added, none_added}
use Rattle.audits.proofs.judging.proofs_of.Goals as goal

pub loop-claim-preserved-in_default-check_claim : goal.loop-claim-preserved-in_default-check_claim
loop-claim-preserved-in_default-check_claim g c =
    let items = c.deref-claim-items.result.now in
    let index = c.loop-claim.claim-index in
    subst (λ (claims : List Claim). AreShownBy (section_of c.layout.result.now c.trump-trump.result c.in-Ok.pair claims) c.loop-claim.proofs.items)
    (sym (take_more items index _ (omega (arith, c.loop-claim-test.true))))
    (none_added c.graphs_have_one_answer.ensures _ _ c.in-Ok.pair (take index items) _ c.in-Ok-claimed.claimed c.in-Ok-claimed.ensures c.loop-claim.proofs.items c.loop-claim.invariant
    c.in_default-check_claim.field-0 c.in_default-check_claim.ensures)

pub loop-claim-preserved : goal.loop-claim-preserved
loop-claim-preserved g c =
    let items = c.deref-claim-items.result.now in
    let index = c.loop-claim.claim-index in
    let old = c.loop-claim.proofs.items in
    let value = c.in-Ok-check_claim.proven in
    let ok : is_ok c.push.result ≡ true = c.if-is_err.ensures.negation in
    let pushed : c.push.new.self.items ≡ old ++ value ∷ [] = c.push.ensures.items ∙ ap (λ b. cond b (old ++ value ∷ []) old) ok in
    subst (λ (all : List Shown). AreShownBy (section_of c.layout.result.now c.trump-trump.result c.in-Ok.pair (take (index + 1) items)) all) (sym pushed)
    (subst (λ (claims : List Claim). AreShownBy (section_of c.layout.result.now c.trump-trump.result c.in-Ok.pair claims) (old ++ value ∷ []))
    (sym (take_more items index _ (omega (arith, c.loop-claim-test.true))))
    (proof_added c.graphs_have_one_answer.ensures _ _ c.in-Ok.pair (take index items) _ c.in-Ok-claimed.claimed c.in-Ok-claimed.ensures old c.loop-claim.invariant value c.in-Ok-check_claim.ensures))

pub returns : goal.returns
returns g c =
    let items = c.deref-claim-items.result.now in
    let pair = c.in-Ok.ensures in
    let bundle = c.into_bundle-bundle.ensures in
    let all = take_all c.loop-claim.claim-index items (omega (arith, c.loop-claim-test.false)) ∙ c.deref-claim-items.ensures.0 ∙ bundle.claims in
    let same = same_section c.args.section _ _ c.in-Ok.pair _ c.layout.ensures c.trump-trump.ensures all (pair.ns ∙ bundle.ns) (pair.ew ∙ bundle.ew) in
    subst (λ (section : SectionShape). AreShownBy section c.loop-claim.proofs.items) same c.loop-claim.invariant
