-- A text is that of one section at most.
use Rattle.std.proofs.Common.{◌≡◌, ◌++◌, length, Option, None, Some, codes, refl, sym, ◌∙◌, ap, arith}
use Rattle.std.proofs.lemmas.List.{append_cancel_left}
use Rattle.cards.specs.declared.suits.Trump.TheVariants as trump
use Rattle.cards.specs.Pack.{trump_letters}
use Rattle.pbn_deals.specs.DealText.{deal_text}
use Rattle.pbn_deals.proofs.DealWords.{deal-one_line}
use Rattle.evidence.specs.Sections.{SectionShape}
use Rattle.evidence.specs.SectionTexts.{title, graphs_text, section_text}
use Rattle.evidence_laws.specs.Laws.{NoTextHasTwoSections, SectionsAreReadBack}
use Rattle.evidence.specs.Readings.{SaysSection}
use Rattle.evidence.proofs.WordLemmas.{trump-lacks}
use Rattle.evidence.proofs.GraphLines.{one_graphs}
use Rattle.evidence.proofs.HeadLemmas.{count_front, count-cut, count-lacks, one_deal, AllClaims-from}
use Rattle.evidence_laws.proofs.HeadLemmas.{one_count, one_claims}
use Rattle.evidence.proofs.SectionLemmas.{count_word, deal_word, few_claims, from_claims, from_count, from_trump, one_trump, same_section, trump_word}

pub one_section : NoTextHasTwoSections
one_section text a b (p, is) (q, is') =
    let e : section_text a ≡ section_text b = sym is ∙ is' in
    let deal = deal_word b q (deal_text a.deal) (from_trump a) (deal-one_line a.deal) (append_cancel_left (title ++ codes "deal ") _ _ e) in
    let name = trump_word b q (trump_letters a.trump) (from_count a) (trump-lacks a.trump) (append_cancel_left (codes "trump ") _ _ deal.1) in
    let few = few_claims a p in
    let few' = few_claims b q in
    let count = count_word b q (count_front (length a.claims)) (from_claims a) (count-lacks (length a.claims) (omega arith)) (sym (count-cut (length a.claims) (from_claims a)) ∙ name.1) in
    let many : length a.claims ≡ length b.claims = one_count (length a.claims) (length b.claims) (omega arith) (omega arith) count.0 in
    let claims = one_claims a.claims b.claims (graphs_text a.ns a.ew) (graphs_text b.ns b.ew) (AllClaims-from 0 a.claims p.claims_are) (AllClaims-from 0 b.claims q.claims_are) many count.1 in
    let graphs = one_graphs a.ns a.ew b.ns b.ew p.ns_is.graph p.ew_is.graph q.ns_is.graph q.ew_is.graph claims.1 in
    same_section a b (one_deal a.deal b.deal p.layout q.layout deal.0) (one_trump a.trump b.trump name.0) claims.0 graphs.0 graphs.1

pub read_back : SectionsAreReadBack
read_back section is = ((is, refl), λ said says. one_answer said says)
  where
    one_answer : (said : Option SectionShape) → SaysSection (section_text section) said → said ≡ Some section
    one_answer None none = absurd (none section (is, refl))
    one_answer (Some other) of = ap Some (one_section (section_text section) other section of (is, refl))
