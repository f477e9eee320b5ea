use Rattle.std.proofs.Common.{◌∙◌, sym, subst}
use Rattle.play_rules.specs.Position.{IsReached}
use Rattle.certified_plays.specs.Values.{ShownPlay}
use Rattle.certified_plays.proofs.LossLaws.{loss_is}
use Rattle.certified_plays.proofs.values.PlayValues.lost.Goals as goal

pub returns : goal.returns
returns c =
    loss_is c.args.self.now c.args.place c.in-Some.before c.in-Some-value.after c.abs_diff.result c.invariant-2.ensures
    (subst (λ (shown : ShownPlay). IsReached shown.play.position) c.self.view_is c.invariant.ensures) c.requires (sym c.value.ensures ∙ c.in-Some.is) (sym c.value-2.ensures ∙ c.in-Some-value.is) c.abs_diff.ensures
