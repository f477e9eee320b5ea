use Rattle.std.proofs.Common.{◌++◌}
use Rattle.cards.proofs.WriteLemmas.{AddsBeginning-stop, AddsBeginning-then, Writes-then, Writes-err}
use Rattle.sheets.specs.Results.{cells_text, row_text}
use Rattle.sheets.specs.declared.templates.TheConstants.{ROW_END}
use Rattle.sheets.proofs.results.write_row.Goals as goal

pub returns-in_err-write_with_seat : goal.returns-in_err-write_with_seat
unfolding row_text
returns-in_err-write_with_seat g c =
    let results = (g.T.Results.printed_of c.args.results.now c.args.board).results in
    let declarer = c.args.declarer in
    Writes-err c.from_residual.result _ c.from_residual.ensures.1
    (AddsBeginning-stop (cells_text results declarer ++ (ROW_END.now)) c.in_err-write_with_seat.ensures)

pub returns-in_err-write_cells : goal.returns-in_err-write_cells
unfolding row_text
returns-in_err-write_cells g c =
    let results = (g.T.Results.printed_of c.args.results.now c.args.board).results in
    let declarer = c.args.declarer in
    Writes-err c.from_residual-in_err-write_cells.result _ c.from_residual-in_err-write_cells.ensures.1
    (AddsBeginning-then c.in_ok-write_with_seat.ensures
    (AddsBeginning-stop (ROW_END.now) c.in_err-write_cells.ensures))

pub returns : goal.returns
unfolding row_text
returns g c =
    let results = (g.T.Results.printed_of c.args.results.now c.args.board).results in
    let declarer = c.args.declarer in
    Writes-then c.write_all.result _ _ c.in_ok-write_with_seat.ensures
    (Writes-then c.write_all.result _ _ c.in_ok-write_cells.ensures
    (c.write_all.ensures))
