use Rattle.std.proofs.Common.{refl, arith}
use Rattle.cards.proofs.WriteLemmas.{Adds-piece, AddsBeginning-piece, Writes-err, pieces-all}
use Rattle.card_values.specs.Texts.{falling_counts, group_if_any, groups_text}
use Rattle.card_values.proofs.texts.write_groups.Goals as goal

pub returns-in_err-write_group_if_any : goal.returns-in_err-write_group_if_any
unfolding groups_text
returns-in_err-write_group_if_any g c =
    Writes-err c.from_residual.result _ c.from_residual.ensures.1
    (AddsBeginning-piece (group_if_any c.args.values.now) falling_counts c.loop-tricks.tricks-index 0 (omega arith) c.loop-tricks.invariant.wrote c.in_err-write_group_if_any.ensures)

pub loop-tricks-preserved : goal.loop-tricks-preserved
loop-tricks-preserved g c = record {
  items = refl;
  wrote = Adds-piece (group_if_any c.args.values.now) falling_counts c.loop-tricks.tricks-index 0 (omega arith) c.loop-tricks.invariant.wrote c.in_ok-write_group_if_any.ensures;
}

pub returns : goal.returns
unfolding groups_text
returns g c = rw (pieces-all (group_if_any c.args.values.now) falling_counts c.loop-tricks.tricks-index (omega arith)) at c.loop-tricks.invariant.wrote
