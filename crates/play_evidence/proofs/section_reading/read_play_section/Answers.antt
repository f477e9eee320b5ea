use Rattle.std.proofs.Common.{sym, ◌∙◌, ap}
use Rattle.play_evidence.specs.SectionTexts.{play_section_text}
use Rattle.play_evidence.proofs.section_reading.read_play_section.Goals as goal

pub returns-in_default : goal.returns-in_default
returns-in_default c = λ section of. (rw c.in_default.is at c.in_ok-section.ensures) section of

pub returns-then-not-is_same : goal.returns-then-not-is_same
returns-then-not-is_same c = λ section of.
    let found = (rw c.in-Some.is at c.in_ok-section.ensures) section of in
    let parts = c.contents.ensures in
    let yes = c.if-not-is_same.ensures.1
    (of.1 ∙ (ap play_section_text (sym found) ∙ (ap play_section_text (sym parts) ∙ (sym c.in-Ok.ensures ∙ sym c.as_slice.ensures.value)))) in cc

pub returns : goal.returns
returns c =
    let same = c.if-not-is_same.ensures.0 cc in
    (c.invariant.ensures, same ∙ (c.as_slice.ensures.value ∙ (c.in-Ok.ensures ∙ ap play_section_text c.contents.ensures)))
