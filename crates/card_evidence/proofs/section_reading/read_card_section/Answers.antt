use Rattle.std.proofs.Common.{sym, ◌∙◌, subst}
use Rattle.evidence.specs.SectionTexts.{graphs_text}
use Rattle.evidence.proofs.GraphLines.{one_graphs}
use Rattle.card_evidence.specs.Sections.{IsCardSection, shape_of}
use Rattle.card_evidence.proofs.ClaimLemmas.{one_counted}
use Rattle.card_evidence.proofs.SectionLemmas.{from_claims, one_trick, same_section}
use Rattle.card_evidence.proofs.section_reading.read_card_section.Goals as goal

pub returns-in-Ok-None : goal.returns-in-Ok-None
returns-in-Ok-None c = λ section of.
    let none = rw c.in-Ok-None.field-0-is at c.in-Ok-None.ensures in
    none section.position (from_claims section) of.0.progress of.1

pub returns-in_default : goal.returns-in_default
returns-in_default c = λ section of.
    let read = c.in-Ok-Some.read in
    let trick = rw c.in-Ok-Some.field-0-is at c.in-Ok-Some.ensures in
    let position = one_trick read.0 section.position read.1.now (from_claims section) trick.0 of.0.progress (sym trick.1 ∙ of.1) in
    let none = rw c.in_default.is at c.in_ok-claims.ensures in
    none section.claims (graphs_text section.ns section.ew) of.0.claims_are position.1

pub returns-in_default-2 : goal.returns-in_default-2
returns-in_default-2 c = λ section of.
    let read = c.in-Ok-Some.read in
    let trick = rw c.in-Ok-Some.field-0-is at c.in-Ok-Some.ensures in
    let position = one_trick read.0 section.position read.1.now (from_claims section) trick.0 of.0.progress (sym trick.1 ∙ of.1) in
    let counted = rw c.in-Some.is at c.in_ok-claims.ensures in
    let claims = one_counted c.in-Some.claims.items section.claims c.in-Some.rest.now (graphs_text section.ns section.ew) counted.0 of.0.claims_are (sym counted.1 ∙ position.1) in
    let none = rw c.in_default-2.is at c.in_ok-ns.ensures in
    none section.ns section.ew of.0.ns_is.graph of.0.ew_is.graph claims.1

pub returns : goal.returns
returns c = λ section of.
    let read = c.in-Ok-Some.read in
    let trick = rw c.in-Ok-Some.field-0-is at c.in-Ok-Some.ensures in
    let position = one_trick read.0 section.position read.1.now (from_claims section) trick.0 of.0.progress (sym trick.1 ∙ of.1) in
    let counted = rw c.in-Some.is at c.in_ok-claims.ensures in
    let claims = one_counted c.in-Some.claims.items section.claims c.in-Some.rest.now (graphs_text section.ns section.ew) counted.0 of.0.claims_are (sym counted.1 ∙ position.1) in
    let both = rw c.in-Some-2.is at c.in_ok-ns.ensures in
    let graphs = one_graphs c.in-Some-2.ns.value c.in-Some-2.ew.value section.ns section.ew both.0 both.1 of.0.ns_is.graph of.0.ew_is.graph (sym both.2 ∙ claims.1) in
    let same = same_section section (shape_of read.0 (record { ns = c.in-Some-2.ns; ew = c.in-Some-2.ew; claims = c.in-Some.claims }))
    (sym position.0) (sym claims.0) (sym graphs.0) (sym graphs.1) in
    c.in-Err-new.ensures.1 (subst IsCardSection same of.0)
