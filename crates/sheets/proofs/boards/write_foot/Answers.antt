use Rattle.std.proofs.Common.{◌++◌}
use Rattle.cards.proofs.WriteLemmas.{AddsBeginning-stop, AddsBeginning-then, Writes-then, Writes-err}
use Rattle.sheets.specs.Results.{results_text}
use Rattle.sheets.specs.ParShown.{par_shown}
use Rattle.sheets.specs.Boards.{foot_text}
use Rattle.sheets.specs.declared.templates.TheConstants.{FOOT_END}
use Rattle.sheets.proofs.boards.write_foot.Goals as goal

pub returns-in_err-write_all : goal.returns-in_err-write_all
unfolding foot_text
returns-in_err-write_all g c =
    let printed = g.T.Results.printed_of c.args.results.now c.args.place in
    Writes-err c.from_residual.result _ c.from_residual.ensures.1
    (AddsBeginning-stop (results_text printed.results ++ (par_shown printed.par ++ (FOOT_END.now))) c.in_err-write_all.ensures)

pub returns-in_err-write_results : goal.returns-in_err-write_results
unfolding foot_text
returns-in_err-write_results g c =
    let printed = g.T.Results.printed_of c.args.results.now c.args.place in
    Writes-err c.from_residual-in_err-write_results.result _ c.from_residual-in_err-write_results.ensures.1
    (AddsBeginning-then c.in_ok-write_all.ensures
    (AddsBeginning-stop (par_shown printed.par ++ (FOOT_END.now)) c.in_err-write_results.ensures))

pub returns-in_err-write_its_par : goal.returns-in_err-write_its_par
unfolding foot_text
returns-in_err-write_its_par g c =
    let printed = g.T.Results.printed_of c.args.results.now c.args.place in
    Writes-err c.from_residual-in_err-write_its_par.result _ c.from_residual-in_err-write_its_par.ensures.1
    (AddsBeginning-then c.in_ok-write_all.ensures
    (AddsBeginning-then c.in_ok-write_results.ensures
    (AddsBeginning-stop (FOOT_END.now) c.in_err-write_its_par.ensures)))

pub returns : goal.returns
unfolding foot_text
returns g c =
    let printed = g.T.Results.printed_of c.args.results.now c.args.place in
    Writes-then c.write_all-2.result _ _ c.in_ok-write_all.ensures
    (Writes-then c.write_all-2.result _ _ c.in_ok-write_results.ensures
    (Writes-then c.write_all-2.result _ _ c.in_ok-write_its_par.ensures
    (c.write_all-2.ensures)))
