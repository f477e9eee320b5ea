use Rattle.std.proofs.Common.{sym, ◌∙◌, ap, subst}
use Rattle.evidence.specs.Sections.{IsSection}
use Rattle.evidence.specs.SectionTexts.{graphs_text, section_text}
use Rattle.evidence.proofs.SectionLemmas.{head_lines, behind_head, text_is, what_was_read}
use Rattle.evidence.proofs.section_reading.read_section.Goals as goal

pub returns-in_default-after_prefix : goal.returns-in_default-after_prefix
returns-in_default-after_prefix c = λ section of.
    let lines = c.as_slice-2.ensures.value ∙ c.in_ok-lines.ensures in
    c.in_default-after_prefix.ensures (graphs_text section.ns section.ew)
    (of.1 ∙ head_lines section c.in-Some.head _ _ (c.in-Some.ensures section of) c.as_slice.ensures.value lines)

pub returns-in_default-2 : goal.returns-in_default-2
returns-in_default-2 c = λ section of.
    let lines = c.as_slice-2.ensures.value ∙ c.in_ok-lines.ensures in
    let parts = head_lines section c.in-Some.head _ _ (c.in-Some.ensures section of) c.as_slice.ensures.value lines in
    let none = rw c.in_default-2.is at c.in_ok-ns.ensures in
    none section.ns section.ew of.0.ns_is.graph of.0.ew_is.graph
    (behind_head c.args.text.now _ _ section of.1 parts c.in-Some-after_prefix.ensures)

pub returns-in-Ok : goal.returns-in-Ok
returns-in-Ok c =
    let lines = c.as_slice-2.ensures.value ∙ c.in_ok-lines.ensures in
    let graphs = rw c.in-Some-2.is at c.in_ok-ns.ensures in
    let made = c.in-Ok.ensures in (
      made.1,
      text_is c.in-Some.head _ c.in-Some-2.ns.value c.in-Some-2.ew.value c.args.text.now _ _ c.as_slice.ensures.value lines c.in-Some-after_prefix.ensures graphs.2
          ∙ ap section_text (sym made.0),
    )

pub returns : goal.returns
returns c = λ section of.
    let head = c.in-Some.head in
    let lines = c.as_slice-2.ensures.value ∙ c.in_ok-lines.ensures in
    let parts = head_lines section head _ _ (c.in-Some.ensures section of) c.as_slice.ensures.value lines in
    let behind = behind_head c.args.text.now _ _ section of.1 parts c.in-Some-after_prefix.ensures in
    let graphs = rw c.in-Some-2.is at c.in_ok-ns.ensures in
    let same = what_was_read section head c.in-Some-2.ns.value c.in-Some-2.ew.value of.0 (c.in-Some.ensures section of) graphs.0 graphs.1 (sym graphs.2 ∙ behind) in
    c.in-Err.ensures.1 (subst IsSection same of.0)
