use Rattle.cards.proofs.WriteLemmas.{AddsBeginning-stop, Writes-then, Writes-err}
use Rattle.play_sheets.specs.Games.{words_text}
use Rattle.play_sheets.proofs.games.write_words.Goals as goal

pub returns-in_err-write_with_seat : goal.returns-in_err-write_with_seat
unfolding words_text
returns-in_err-write_with_seat g c =
    Writes-err c.from_residual.result _ c.from_residual.ensures.1
    (AddsBeginning-stop _ c.in_err-write_with_seat.ensures)

pub returns : goal.returns
unfolding words_text
returns g c =
    let last = c.write_with.result in
    Writes-then last _ _ c.in_ok-write_with_seat.ensures c.write_with.ensures
