use Rattle.std.proofs.Common.{◌∙◌, ap, subst}
use Rattle.card_evidence.specs.Sections.{CardSectionShape}
use Rattle.card_evidence.specs.SectionTexts.{IsTextOf}
use Rattle.certified_cards.proofs.BundleLemmas.{shown_by_same}
use Rattle.deal_subcommands.proofs.card_tricks.kept.find_section.Goals as goal

pub returns-in-Ok-Ok : goal.returns-in-Ok-Ok
returns-in-Ok-Ok g c =
    let parts = c.into_parts-trick.ensures in
    let section_is = c.in-Ok-new.ensures.0 in
    record {
      bundle = c.in-Ok.bundle;
      answer = c.in-Ok.ensures;
      shown = shown_by_same c.in-Ok.bundle c.into_parts-trick.result.1 c.args.trick c.into_parts-trick.result.0 c.in-Ok-Ok.values
          (parts.ns ∙ ap (λ (s : CardSectionShape). s.ns) section_is)
          (parts.ew ∙ ap (λ (s : CardSectionShape). s.ew) section_is)
          (parts.claims ∙ ap (λ (s : CardSectionShape). s.claims) section_is)
          (parts.trick ∙ ap (λ (s : CardSectionShape). s.position) section_is)
          (rw c.in-Ok-Ok.field-0-is at c.in-Ok-Ok.ensures);
      text = subst (λ (s : CardSectionShape). IsTextOf c.in-Ok-text_of.text.items s) section_is c.in-Ok-text_of.ensures;
    }
