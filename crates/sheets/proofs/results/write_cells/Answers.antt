use Rattle.std.proofs.Common.{arith}
use Rattle.cards.specs.declared.suits.Trump.TheVariants.{Nt}
use Rattle.cards.proofs.WriteLemmas.{AddsBeginning-piece, Writes-err, pieces-all}
use Rattle.sheets.specs.Results.{columns, entry_text, cells_text}
use Rattle.sheets.proofs.results.write_cells.Goals as goal

pub returns-in_err-write_cell : goal.returns-in_err-write_cell
unfolding cells_text
returns-in_err-write_cell g c =
    let results = (g.T.Results.printed_of c.args.results.now c.args.board).results in
    Writes-err c.from_residual.result _ c.from_residual.ensures.1
    (AddsBeginning-piece (entry_text results c.args.declarer) columns c.loop-trump.trump-index Nt (omega arith) c.loop-trump.invariant.wrote
    (rw (← c.in-Some.ensures.value) c.in_err-write_cell.ensures))

pub returns : goal.returns
unfolding cells_text
returns g c =
    let results = (g.T.Results.printed_of c.args.results.now c.args.board).results in
    rw (pieces-all (entry_text results c.args.declarer) columns c.loop-trump.trump-index (omega arith)) at c.loop-trump.invariant.wrote
