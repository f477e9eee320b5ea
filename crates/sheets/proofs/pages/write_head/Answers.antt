use Rattle.std.proofs.Common.{◌++◌}
use Rattle.cards.proofs.WriteLemmas.{AddsBeginning-stop, AddsBeginning-then, Writes-then, Writes-err}
use Rattle.board_conditions.specs.Titles.{titles_said}
use Rattle.html.specs.Templates.{filled}
use Rattle.sheets.specs.Headings.{title_value}
use Rattle.sheets.specs.Pages.{head_text}
use Rattle.sheets.specs.declared.templates.TheConstants.{STYLE, BODY}
use Rattle.sheets.proofs.pages.write_head.Goals as goal

pub returns-in_err-write_titles : goal.returns-in_err-write_titles
unfolding head_text
returns-in_err-write_titles g c =
    let head = titles_said c.args.head in
    Writes-err c.from_residual.result _ c.from_residual.ensures.1
    (AddsBeginning-stop (STYLE.now ++ (filled (title_value head) BODY.now)) c.in_err-write_titles.ensures)

pub returns-in_err-write_all : goal.returns-in_err-write_all
unfolding head_text
returns-in_err-write_all g c =
    let head = titles_said c.args.head in
    Writes-err c.from_residual-in_err-write_all.result _ c.from_residual-in_err-write_all.ensures.1
    (AddsBeginning-then c.in_ok-write_titles.ensures
    (AddsBeginning-stop (filled (title_value head) BODY.now) c.in_err-write_all.ensures))

pub returns : goal.returns
unfolding head_text
returns g c =
    let head = titles_said c.args.head in
    Writes-then c.write_titles-2.result _ _ c.in_ok-write_titles.ensures
    (Writes-then c.write_titles-2.result _ _ c.in_ok-write_all.ensures
    (c.write_titles-2.ensures))
