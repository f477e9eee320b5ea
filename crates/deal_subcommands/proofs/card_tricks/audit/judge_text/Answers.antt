use Rattle.std.proofs.Common.{◌∙◌, refl, sym}
use Rattle.deal_subcommands.proofs.CardAuditLemmas.{has_bundle}
use Rattle.deal_subcommands.proofs.card_tricks.audit.judge_text.Goals as goal

pub returns-in-Ok : goal.returns-in-Ok
returns-in-Ok c =
    let parts = c.into_parts-kept.ensures in
    let same = c.if-not-is_same_trick.ensures.0 refl in (
      c.into_parts-kept.result.1,
      has_bundle c.args.text.now c.in-Some.section c.args.trick c.into_parts-kept.result.1
          (rw c.in-Some.is at c.in_ok-section.ensures) (sym parts.trick ∙ same) parts.claims parts.ns parts.ew,
      rw c.in-Ok.is at c.in_ok-values.ensures,
    )

pub returns : goal.returns
returns c =
    let parts = c.into_parts-kept.ensures in
    let same = c.if-not-is_same_trick.ensures.0 refl in (
      c.into_parts-kept.result.1,
      has_bundle c.args.text.now c.in-Some.section c.args.trick c.into_parts-kept.result.1
          (rw c.in-Some.is at c.in_ok-section.ensures) (sym parts.trick ∙ same) parts.claims parts.ns parts.ew,
      rw c.in-Err.is at c.in_ok-values.ensures,
    )
