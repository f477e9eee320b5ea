use Rattle.cards.proofs.WriteLemmas.{AddsBeginning-stop, AddsBeginning-then, Writes-then, Writes-err}
use Rattle.play_sheets.specs.Pages.{plays_sheet}
use Rattle.play_sheets.proofs.pages.write_sheet.Goals as goal

pub returns-in_err-write_head : goal.returns-in_err-write_head
unfolding plays_sheet
returns-in_err-write_head g c =
    Writes-err c.from_residual.result _ c.from_residual.ensures.1
    (AddsBeginning-stop _ c.in_err-write_head.ensures)

pub returns-in_err-write_games : goal.returns-in_err-write_games
unfolding plays_sheet
returns-in_err-write_games g c =
    Writes-err c.from_residual-in_err-write_games.result _ c.from_residual-in_err-write_games.ensures.1
    (AddsBeginning-then c.in_ok-write_head.ensures (AddsBeginning-stop _ c.in_err-write_games.ensures))

pub returns : goal.returns
unfolding plays_sheet
returns g c =
    let last = c.write_all.result in
    Writes-then last _ _ c.in_ok-write_head.ensures (Writes-then last _ _ c.in_ok-write_games.ensures c.write_all.ensures)
