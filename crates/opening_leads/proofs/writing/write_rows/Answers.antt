use Rattle.std.proofs.Common.{refl, arith}
use Rattle.cards.specs.declared.seats.Seat.TheVariants.{North}
use Rattle.cards.proofs.WriteLemmas.{Adds-piece, AddsBeginning-piece, Writes-err, pieces-all}
use Rattle.tables.specs.TablesText.{declarers}
use Rattle.opening_leads.specs.Tasks.{leads_in}
use Rattle.opening_leads.specs.Texts.{declarer_rows, rows_text}
use Rattle.opening_leads.proofs.writing.write_rows.Goals as goal

pub returns-in_err-write_declarer_rows : goal.returns-in_err-write_declarer_rows
unfolding rows_text
returns-in_err-write_declarer_rows g c =
    Writes-err c.from_residual.result _ c.from_residual.ensures.1
    (AddsBeginning-piece (declarer_rows (leads_in c.args.table.now c.args.board)) declarers c.loop-declarer.declarer-index North (omega arith) c.loop-declarer.invariant.wrote c.in_err-write_declarer_rows.ensures)

pub loop-declarer-preserved : goal.loop-declarer-preserved
loop-declarer-preserved g c = record {
  items = refl;
  wrote = Adds-piece (declarer_rows (leads_in c.args.table.now c.args.board)) declarers c.loop-declarer.declarer-index North (omega arith) c.loop-declarer.invariant.wrote c.in_ok-write_declarer_rows.ensures;
}

pub returns : goal.returns
unfolding rows_text
returns g c =
    rw (pieces-all (declarer_rows (leads_in c.args.table.now c.args.board)) declarers c.loop-declarer.declarer-index (omega arith)) at c.loop-declarer.invariant.wrote
