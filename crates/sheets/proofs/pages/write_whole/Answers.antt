use Rattle.std.proofs.Common.{◌++◌}
use Rattle.cards.proofs.WriteLemmas.{AddsBeginning-stop, AddsBeginning-then, Writes-then, Writes-err}
use Rattle.std.proofs.Common.{map}
use Rattle.board_conditions.specs.Titles.{titles_said}
use Rattle.sheets.specs.Pages.{boards_text, without_section, sheet_text}
use Rattle.sheets.specs.declared.templates.TheConstants.{END}
use Rattle.sheets.proofs.pages.write_whole.Goals as goal

pub returns-in_err-write_head : goal.returns-in_err-write_head
unfolding sheet_text
returns-in_err-write_head g c =
    let head = titles_said c.args.head in
    let titles = map titles_said c.args.titles.now in
    let conditions = c.args.conditions.now in
    let printed = g.T.Results.printed_of c.args.results.now in
    let boards = g.T.Results.boards_of c.args.results.now in
    Writes-err c.from_residual.result _ c.from_residual.ensures.1
    (AddsBeginning-stop (boards_text titles conditions printed (without_section head) 0 boards ++ (END.now)) c.in_err-write_head.ensures)

pub returns-in_err-write_all_boards : goal.returns-in_err-write_all_boards
unfolding sheet_text
returns-in_err-write_all_boards g c =
    let head = titles_said c.args.head in
    let titles = map titles_said c.args.titles.now in
    let conditions = c.args.conditions.now in
    let printed = g.T.Results.printed_of c.args.results.now in
    let boards = g.T.Results.boards_of c.args.results.now in
    Writes-err c.from_residual-in_err-write_all_boards.result _ c.from_residual-in_err-write_all_boards.ensures.1
    (AddsBeginning-then c.in_ok-write_head.ensures
    (AddsBeginning-stop (END.now) c.in_err-write_all_boards.ensures))

pub returns : goal.returns
unfolding sheet_text
returns g c =
    let head = titles_said c.args.head in
    let titles = map titles_said c.args.titles.now in
    let conditions = c.args.conditions.now in
    let printed = g.T.Results.printed_of c.args.results.now in
    let boards = g.T.Results.boards_of c.args.results.now in
    Writes-then c.write_all.result _ _ c.in_ok-write_head.ensures
    (Writes-then c.write_all.result _ _ c.in_ok-write_all_boards.ensures
    (c.write_all.ensures))
