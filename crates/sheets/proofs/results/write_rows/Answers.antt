use Rattle.std.proofs.Common.{◌++◌}
use Rattle.cards.proofs.WriteLemmas.{AddsBeginning-stop, AddsBeginning-then, Writes-then, Writes-err}
use Rattle.sheets.specs.Results.{row_text, rows_text}
use Rattle.cards.specs.declared.seats.Seat.TheVariants.{West, East, South}
use Rattle.sheets.proofs.results.write_rows.Goals as goal

pub returns-in_err-write_row : goal.returns-in_err-write_row
unfolding rows_text
returns-in_err-write_row g c =
    let results = (g.T.Results.printed_of c.args.results.now c.args.board).results in
    Writes-err c.from_residual.result _ c.from_residual.ensures.1
    (AddsBeginning-stop (row_text results South ++ (row_text results East ++ (row_text results West))) c.in_err-write_row.ensures)

pub returns-in_err-write_row-2 : goal.returns-in_err-write_row-2
unfolding rows_text
returns-in_err-write_row-2 g c =
    let results = (g.T.Results.printed_of c.args.results.now c.args.board).results in
    Writes-err c.from_residual-in_err-write_row-2.result _ c.from_residual-in_err-write_row-2.ensures.1
    (AddsBeginning-then c.in_ok-write_row.ensures
    (AddsBeginning-stop (row_text results East ++ (row_text results West)) c.in_err-write_row-2.ensures))

pub returns-in_err-write_row-3 : goal.returns-in_err-write_row-3
unfolding rows_text
returns-in_err-write_row-3 g c =
    let results = (g.T.Results.printed_of c.args.results.now c.args.board).results in
    Writes-err c.from_residual-in_err-write_row-3.result _ c.from_residual-in_err-write_row-3.ensures.1
    (AddsBeginning-then c.in_ok-write_row.ensures
    (AddsBeginning-then c.in_ok-write_row-2.ensures
    (AddsBeginning-stop (row_text results West) c.in_err-write_row-3.ensures)))

pub returns : goal.returns
unfolding rows_text
returns g c =
    let results = (g.T.Results.printed_of c.args.results.now c.args.board).results in
    Writes-then c.write_row-4.result _ _ c.in_ok-write_row.ensures
    (Writes-then c.write_row-4.result _ _ c.in_ok-write_row-2.ensures
    (Writes-then c.write_row-4.result _ _ c.in_ok-write_row-3.ensures
    (c.write_row-4.ensures)))
