-- A text is that of one section at most.
use Rattle.std.proofs.Common.{◌≡◌, Option, None, Some, refl, sym, ◌∙◌, ap}
use Rattle.evidence.specs.SectionTexts.{graphs_text}
use Rattle.evidence.proofs.GraphLines.{one_graphs}
use Rattle.card_evidence.specs.Sections.{CardSectionShape}
use Rattle.card_evidence.specs.SectionTexts.{card_section_text}
use Rattle.card_evidence.specs.Readings.{SaysCardSection}
use Rattle.evidence_laws.specs.CardLaws.{NoTextHasTwoSections, SectionsAreReadBack}
use Rattle.card_evidence.proofs.ClaimLemmas.{one_counted}
use Rattle.card_evidence.proofs.SectionLemmas.{from_claims, one_trick, same_section}

pub one_section : NoTextHasTwoSections
one_section text a b (p, is) (q, is') =
    let trick = one_trick a.position b.position (from_claims a) (from_claims b) p.progress q.progress (sym is ∙ is') in
    let claims = one_counted a.claims b.claims (graphs_text a.ns a.ew) (graphs_text b.ns b.ew) p.claims_are q.claims_are trick.1 in
    let graphs = one_graphs a.ns a.ew b.ns b.ew p.ns_is.graph p.ew_is.graph q.ns_is.graph q.ew_is.graph claims.1 in
    same_section a b trick.0 claims.0 graphs.0 graphs.1

pub read_back : SectionsAreReadBack
read_back section is = ((is, refl), λ said says. one_answer said says)
  where
    one_answer : (said : Option CardSectionShape) → SaysCardSection (card_section_text section) said → said ≡ Some section
    one_answer None none = absurd (none section (is, refl))
    one_answer (Some other) of = ap Some (one_section (card_section_text section) other section of (is, refl))
