use Rattle.std.proofs.Common.{sym, arith}
use Rattle.cards.proofs.WriteLemmas.{AddsBeginning-stop, Writes-then, Writes-err}
use Rattle.tables.specs.TablesText.{rows_text, table_tag}
use Rattle.tables.proofs.TableLemmas.{table_text-short, table_text-full}
use Rattle.tables.proofs.tables.write_table.Goals as goal

pub returns-then-published-lt20 : goal.returns-then-published-lt20
returns-then-published-lt20 g c =
    let results = (g.T.Results.printed_of c.args.results.now c.args.board).results in
    rw (table_text-short c.args.end.now results c.count_results-published.result c.count_results-published.ensures.count (omega arith)) at c.write_incomplete.ensures

pub returns-in_err-write_line : goal.returns-in_err-write_line
unfolding table_tag
returns-in_err-write_line g c =
    let results = (g.T.Results.printed_of c.args.results.now c.args.board).results in
    let full = table_text-full c.args.end.now results c.count_results-published.result c.count_results-published.ensures.count (omega arith) in
    rw (sym full) (Writes-err c.from_residual.result _ c.from_residual.ensures.1 (AddsBeginning-stop (rows_text c.args.end.now results) c.in_err-write_line.ensures))

pub returns : goal.returns
unfolding table_tag
returns g c =
    let results = (g.T.Results.printed_of c.args.results.now c.args.board).results in
    let full = table_text-full c.args.end.now results c.count_results-published.result c.count_results-published.ensures.count (omega arith) in
    rw (sym full) (Writes-then c.write_rows.result _ _ c.in_ok-write_line.ensures c.write_rows.ensures)
