use Rattle.std.proofs.Common.{refl, arith}
use Rattle.cards.proofs.WriteLemmas.{Adds-piece, AddsBeginning-piece, Writes-err, pieces-all}
use Rattle.card_values.specs.Texts.{falling_counts, line_if_any, lines_text}
use Rattle.card_values.proofs.texts.write_lines.Goals as goal

pub returns-in_err-write_line_if_any : goal.returns-in_err-write_line_if_any
unfolding lines_text
returns-in_err-write_line_if_any g c =
    Writes-err c.from_residual.result _ c.from_residual.ensures.1
    (AddsBeginning-piece (line_if_any c.args.values.now) falling_counts c.loop-tricks.tricks-index 0 (omega arith) c.loop-tricks.invariant.wrote c.in_err-write_line_if_any.ensures)

pub loop-tricks-preserved : goal.loop-tricks-preserved
loop-tricks-preserved g c = record {
  items = refl;
  wrote = Adds-piece (line_if_any c.args.values.now) falling_counts c.loop-tricks.tricks-index 0 (omega arith) c.loop-tricks.invariant.wrote c.in_ok-write_line_if_any.ensures;
}

pub returns : goal.returns
unfolding lines_text
returns g c = rw (pieces-all (line_if_any c.args.values.now) falling_counts c.loop-tricks.tricks-index (omega arith)) at c.loop-tricks.invariant.wrote
