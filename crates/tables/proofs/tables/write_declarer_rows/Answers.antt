use Rattle.std.proofs.Common.{arith}
use Rattle.cards.specs.declared.suits.Trump.{Trump}
use Rattle.cards.specs.declared.suits.Trump.TheVariants.{Nt}
use Rattle.cards.proofs.WriteLemmas.{AddsBeginning-piece, Writes-err}
use Rattle.tables.specs.TablesText.{denominations, entry_row}
use Rattle.tables.proofs.tables.write_declarer_rows.Goals as goal

pub returns-in_err-write_row : goal.returns-in_err-write_row
returns-in_err-write_row g c =
    let results = (g.T.Results.printed_of c.args.results.now c.args.board).results in
    Writes-err c.from_residual.result _ c.from_residual.ensures.1
    (AddsBeginning-piece (λ (denomination : Trump). entry_row c.args.end.now results (c.args.declarer, denomination)) denominations c.loop-trump.trump-index Nt (omega arith) c.loop-trump.invariant.wrote
    (rw (← c.in-Some.ensures.value) c.in_err-write_row.ensures))
