use Rattle.cards.proofs.WriteLemmas.{AddsBeginning-stop, AddsBeginning-then, Writes-then, Writes-err}
use Rattle.play_sheets.specs.Games.{holds_text}
use Rattle.play_sheets.proofs.games.write_holds.Goals as goal

pub returns-in_err-write_all : goal.returns-in_err-write_all
unfolding holds_text
returns-in_err-write_all g c =
    Writes-err c.from_residual.result _ c.from_residual.ensures.1
    (AddsBeginning-stop _ c.in_err-write_all.ensures)

pub returns-in_err-write_with : goal.returns-in_err-write_with
unfolding holds_text
returns-in_err-write_with g c =
    Writes-err c.from_residual-in_err-write_with.result _ c.from_residual-in_err-write_with.ensures.1
    (AddsBeginning-then c.in_ok-write_all.ensures (AddsBeginning-stop _ (rw c.suit_template.ensures at c.in_err-write_with.ensures)))

pub returns : goal.returns
unfolding holds_text
returns g c =
    let last = c.write_all-2.result in
    Writes-then last _ _ c.in_ok-write_all.ensures (Writes-then last _ _ (rw c.suit_template.ensures at c.in_ok-write_with.ensures) c.write_all-2.ensures)
