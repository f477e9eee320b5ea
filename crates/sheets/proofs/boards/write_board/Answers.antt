use Rattle.std.proofs.Common.{◌++◌}
use Rattle.cards.proofs.WriteLemmas.{AddsBeginning-stop, AddsBeginning-then, Writes-then, Writes-err}
use Rattle.sheets.specs.Boards.{dealt_or_nothing, board_text}
use Rattle.sheets.specs.declared.templates.TheConstants.{BOARD_END}
use Rattle.sheets.proofs.boards.write_board.Goals as goal

pub returns-in_err-write_name : goal.returns-in_err-write_name
unfolding board_text
returns-in_err-write_name g c =
    let printed = g.T.Results.printed_of c.args.results.now c.args.place in
    let board = c.args.board.now in
    let conditions = c.args.conditions in
    Writes-err c.from_residual.result _ c.from_residual.ensures.1
    (AddsBeginning-stop (dealt_or_nothing board.deal conditions printed ++ (BOARD_END.now)) c.in_err-write_name.ensures)

pub returns-in_err-write_deal : goal.returns-in_err-write_deal
unfolding board_text
returns-in_err-write_deal g c =
    let printed = g.T.Results.printed_of c.args.results.now c.args.place in
    let board = c.args.board.now in
    let conditions = c.args.conditions in
    Writes-err c.from_residual-in_err-write_deal.result _ c.from_residual-in_err-write_deal.ensures.1
    (AddsBeginning-then c.in_ok-write_name.ensures
    (AddsBeginning-stop (BOARD_END.now) c.in_err-write_deal.ensures))

pub returns : goal.returns
unfolding board_text
returns g c =
    let printed = g.T.Results.printed_of c.args.results.now c.args.place in
    let board = c.args.board.now in
    let conditions = c.args.conditions in
    Writes-then c.write_all.result _ _ c.in_ok-write_name.ensures
    (Writes-then c.write_all.result _ _ c.in_ok-write_deal.ensures
    (c.write_all.ensures))
