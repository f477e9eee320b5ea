use Rattle.std.proofs.Common.{refl, arith}
use Rattle.cards.specs.declared.suits.Trump.TheVariants.{Nt}
use Rattle.cards.proofs.WriteLemmas.{Adds-piece, AddsBeginning-piece, Writes-err, pieces-all}
use Rattle.tables.specs.TablesText.{denominations}
use Rattle.opening_leads.specs.Tasks.{leads_in}
use Rattle.opening_leads.specs.Texts.{row_of, declarer_rows}
use Rattle.opening_leads.proofs.writing.write_declarer_rows.Goals as goal

pub returns-in_err-write_known_row : goal.returns-in_err-write_known_row
unfolding declarer_rows
returns-in_err-write_known_row g c =
    let row = rw c.row.ensures at c.in_err-write_known_row.ensures in
    Writes-err c.from_residual.result _ c.from_residual.ensures.1
    (AddsBeginning-piece (row_of (leads_in c.args.table.now c.args.board) c.args.declarer) denominations c.loop-trump.trump-index Nt (omega arith) c.loop-trump.invariant.wrote row)

pub loop-trump-preserved : goal.loop-trump-preserved
loop-trump-preserved g c =
    let row = rw c.row.ensures at c.in_ok-write_known_row.ensures in
    record {
      items = refl;
      wrote = Adds-piece (row_of (leads_in c.args.table.now c.args.board) c.args.declarer) denominations c.loop-trump.trump-index Nt (omega arith) c.loop-trump.invariant.wrote row;
    }

pub returns : goal.returns
unfolding declarer_rows
returns g c =
    rw (pieces-all (row_of (leads_in c.args.table.now c.args.board) c.args.declarer) denominations c.loop-trump.trump-index (omega arith)) at c.loop-trump.invariant.wrote
