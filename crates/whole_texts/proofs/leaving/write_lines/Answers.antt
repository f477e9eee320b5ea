use Rattle.whole_texts.proofs.Gone.{stops}
use Rattle.pbn_deals.proofs.RowsInTurn.{rest_shorter}
use Rattle.whole_texts.proofs.LinesGo.{first, fault_in_line, one_line_more, lines_begin, lines_gone}
use Rattle.whole_texts.proofs.leaving.write_lines.Goals as goal

pub loop-row-init : goal.loop-row-init
loop-row-init g c = λ those is_open h. lines_begin c.args.renews (g.S.Sink.state c.args.sink.now) c.args.drops_counts c.args.before those is_open c.args.lines.now h

pub returns-in_err-before : goal.returns-in_err-before
returns-in_err-before g c = λ those is_open h.
    let after = c.in-Some.after.now in
    let rows = c.in-Some.ensures.rows in
    let go = c.loop-row.invariant those is_open h in
    let line = first c.args.renews after go rows in
    stops c.from_residual.result _ _ c.from_residual.ensures.1 (fault_in_line c.args.renews after go rows (c.in_err-before.ensures line.kind line.behind line.is).0)

pub loop-row-smaller : goal.loop-row-smaller
loop-row-smaller g c = rest_shorter c.loop-row.rest.now c.in-Some.after.now _ c.in-Some.ensures.rows c.in-Some.ensures.whole

pub loop-row-preserved : goal.loop-row-preserved
loop-row-preserved g c = λ those is_open h.
    let after = c.in-Some.after.now in
    let rows = c.in-Some.ensures.rows in
    let go = c.loop-row.invariant those is_open h in
    let line = first c.args.renews after go rows in
    let written = c.in_ok-before.ensures line.kind line.behind line.is in
    one_line_more c.args.renews after go rows c.in_ok-before.before written.0 written.1

pub returns : goal.returns
returns g c = λ those is_open h. lines_gone c.args.renews (c.loop-row.invariant those is_open h) c.in_default.ensures
