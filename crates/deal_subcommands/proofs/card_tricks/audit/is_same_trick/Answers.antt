use Rattle.std.proofs.Common.{◌∙◌, sym, ap}
use Rattle.std.proofs.lemmas.Slice.Eq.{slice_eq-Decides}
use Rattle.play_rules.specs.Position.{Position}
use Rattle.deal_subcommands.proofs.CardAuditLemmas.{same_position, undenied}
use Rattle.deal_subcommands.proofs.card_tricks.audit.is_same_trick.Goals as goal

pub returns : goal.returns
returns c =
    let says = c.equals_are_one.ensures in
    let leader = (says.seats c.leader.result c.leader-2.result).0 (undenied _ c.if-ne.ensures) in
    let trump = (says.trumps c.trump.result c.trump-else-ne.result).0 (undenied _ c.if-ne-2.ensures) in
    let deal = (says.layouts c.layout.result.now c.layout-2.result.now).0 (undenied _ c.if-ne-3.ensures) in
    let history = slice_eq-Decides says.cards c.played.result.now c.played-2.result.now c.eq.result c.eq.ensures in (
      λ same. same_position c.args.one.now c.args.other.now
          (sym c.layout.ensures ∙ (deal ∙ c.layout-2.ensures))
          (sym c.leader.ensures ∙ (leader ∙ c.leader-2.ensures))
          (sym c.trump.ensures ∙ (trump ∙ c.trump-else-ne.ensures))
          (sym c.played.ensures.played ∙ (history.0 same ∙ c.played-2.ensures.played)),
      λ same. history.1 (c.played.ensures.played ∙ (ap (λ (p : Position). p.history) same ∙ sym c.played-2.ensures.played)),
    )
