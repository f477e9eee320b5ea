use Rattle.std.proofs.Common.{◌++◌}
use Rattle.cards.proofs.WriteLemmas.{AddsBeginning-stop, AddsBeginning-then, Writes-then, Writes-err}
use Rattle.sheets.specs.Results.{rows_text, complete_text}
use Rattle.sheets.specs.declared.templates.TheConstants.{TABLE_END}
use Rattle.sheets.proofs.results.write_complete.Goals as goal

pub returns-in_err-write_all : goal.returns-in_err-write_all
unfolding complete_text
returns-in_err-write_all g c =
    let results = (g.T.Results.printed_of c.args.results.now c.args.board).results in
    Writes-err c.from_residual.result _ c.from_residual.ensures.1
    (AddsBeginning-stop (rows_text results ++ (TABLE_END.now)) c.in_err-write_all.ensures)

pub returns-in_err-write_rows : goal.returns-in_err-write_rows
unfolding complete_text
returns-in_err-write_rows g c =
    let results = (g.T.Results.printed_of c.args.results.now c.args.board).results in
    Writes-err c.from_residual-in_err-write_rows.result _ c.from_residual-in_err-write_rows.ensures.1
    (AddsBeginning-then c.in_ok-write_all.ensures
    (AddsBeginning-stop (TABLE_END.now) c.in_err-write_rows.ensures))

pub returns : goal.returns
unfolding complete_text
returns g c =
    let results = (g.T.Results.printed_of c.args.results.now c.args.board).results in
    Writes-then c.write_all-2.result _ _ c.in_ok-write_all.ensures
    (Writes-then c.write_all-2.result _ _ c.in_ok-write_rows.ensures
    (c.write_all-2.ensures))
