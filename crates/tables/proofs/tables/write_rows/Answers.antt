use Rattle.std.proofs.Common.{refl, arith}
use Rattle.cards.specs.declared.seats.Seat.TheVariants.{North}
use Rattle.cards.proofs.WriteLemmas.{Adds-piece, AddsBeginning-piece, Writes-err, pieces-all}
use Rattle.tables.specs.TablesText.{declarers}
use Rattle.tables.proofs.TableLemmas.{declarer_rows, rows_text-by_declarer}
use Rattle.tables.proofs.tables.write_rows.Goals as goal

pub returns-in_err-write_declarer_rows : goal.returns-in_err-write_declarer_rows
returns-in_err-write_declarer_rows g c =
    let results = (g.T.Results.printed_of c.args.results.now c.args.board).results in
    Writes-err c.from_residual.result _ c.from_residual.ensures.1
    (rw (rows_text-by_declarer c.args.end.now results) at
    (AddsBeginning-piece (declarer_rows c.args.end.now results) declarers c.loop-declarer.declarer-index North (omega arith) c.loop-declarer.invariant.wrote c.in_err-write_declarer_rows.ensures))

pub loop-declarer-preserved : goal.loop-declarer-preserved
loop-declarer-preserved g c =
    let results = (g.T.Results.printed_of c.args.results.now c.args.board).results in
    record {
      items = refl;
      wrote = Adds-piece (declarer_rows c.args.end.now results) declarers c.loop-declarer.declarer-index North (omega arith) c.loop-declarer.invariant.wrote c.in_ok-write_declarer_rows.ensures;
    }

pub returns : goal.returns
returns g c =
    let results = (g.T.Results.printed_of c.args.results.now c.args.board).results in
    rw (pieces-all (declarer_rows c.args.end.now results) declarers c.loop-declarer.declarer-index (omega arith), rows_text-by_declarer c.args.end.now results) at c.loop-declarer.invariant.wrote
