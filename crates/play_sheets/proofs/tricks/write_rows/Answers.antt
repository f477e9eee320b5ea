use Rattle.std.proofs.Common.{◌≡◌, ◌+◌, ◌∙◌, ap, arith}
use Rattle.std.specs.List.{range_with_len}
use Rattle.std.proofs.lemmas.List.FromFn.{length-range_with_len, get_or-range_with_len}
use Rattle.cards.proofs.WriteLemmas.{AddsBeginning-piece, Adds-none, Adds-piece, Writes-err, pieces-all}
use Rattle.play_sheets.specs.Tricks.{trick_count, row_at, rows_text}
use Rattle.play_sheets.proofs.tricks.write_rows.Goals as goal

pub loop-place-init : goal.loop-place-init
loop-place-init g c = record { wrote = Adds-none (g.S.Sink.state c.args.sink.now) }

pub returns-in_err-write_row_at : goal.returns-in_err-write_row_at
unfolding rows_text
returns-in_err-write_row_at g c =
    let tricks = trick_count c.args.lines.now in
    let row = row_at c.args.trump c.args.end c.args.lines.now in
    let place = c.loop-place.place in
    let zero : 0 + place ≡ place = omega arith in
    let at = ap row (get_or-range_with_len 0 tricks place 0 (omega arith) ∙ zero) in
    Writes-err c.from_residual.result _ c.from_residual.ensures.1
    (AddsBeginning-piece row (range_with_len 0 tricks) place 0 (omega (arith, length-range_with_len 0 tricks)) c.loop-place.invariant.wrote
    (rw at c.in_err-write_row_at.ensures))

pub loop-place-preserved : goal.loop-place-preserved
loop-place-preserved g c =
    let tricks = trick_count c.args.lines.now in
    let row = row_at c.args.trump c.args.end c.args.lines.now in
    let place = c.loop-place.place in
    let zero : 0 + place ≡ place = omega arith in
    let at = ap row (get_or-range_with_len 0 tricks place 0 (omega arith) ∙ zero) in
    record {
      wrote = Adds-piece row (range_with_len 0 tricks) place 0 (omega (arith, length-range_with_len 0 tricks)) c.loop-place.invariant.wrote
          (rw at c.in_ok-write_row_at.ensures);
    }

pub returns : goal.returns
unfolding rows_text
returns g c =
    let tricks = trick_count c.args.lines.now in
    let row = row_at c.args.trump c.args.end c.args.lines.now in
    rw (pieces-all row (range_with_len 0 tricks) c.loop-place.place (omega (arith, length-range_with_len 0 tricks))) at c.loop-place.invariant.wrote
