use Rattle.std.proofs.Common.{◌∷◌, []}
use Rattle.cards.proofs.WriteLemmas.{AddsBeginning-stop, AddsBeginning-then, Writes-then, Writes-err}
use Rattle.play_dialogues.specs.PlayText.{play_trick_line}
use Rattle.play_dialogues.proofs.tricks.write_trick.Goals as goal

pub returns-in_err-write_number : goal.returns-in_err-write_number
unfolding play_trick_line
returns-in_err-write_number g c =
    Writes-err c.from_residual.result _ c.from_residual.ensures.1 (AddsBeginning-stop _ c.in_err-write_number.ensures)

pub returns-in_err-write_seat : goal.returns-in_err-write_seat
unfolding play_trick_line
returns-in_err-write_seat g c =
    Writes-err c.from_residual-in_err-write_seat.result _ c.from_residual-in_err-write_seat.ensures.1
    (AddsBeginning-then c.in_ok-write_number.ensures (AddsBeginning-stop _ c.in_err-write_seat.ensures))

pub returns-in_err-write_all : goal.returns-in_err-write_all
unfolding play_trick_line
returns-in_err-write_all g c =
    Writes-err c.from_residual-in_err-write_all.result _ c.from_residual-in_err-write_all.ensures.1
    (AddsBeginning-then c.in_ok-write_number.ensures (AddsBeginning-then c.in_ok-write_seat.ensures
    (AddsBeginning-stop _ c.in_err-write_all.ensures)))

pub returns-in_err-write_cards : goal.returns-in_err-write_cards
unfolding play_trick_line
returns-in_err-write_cards g c =
    Writes-err c.from_residual-in_err-write_cards.result _ c.from_residual-in_err-write_cards.ensures.1
    (AddsBeginning-then c.in_ok-write_number.ensures (AddsBeginning-then c.in_ok-write_seat.ensures
    (AddsBeginning-then c.in_ok-write_all.ensures (AddsBeginning-stop _ c.in_err-write_cards.ensures))))

pub returns-in_err-write_winner : goal.returns-in_err-write_winner
unfolding play_trick_line
returns-in_err-write_winner g c =
    Writes-err c.from_residual-in_err-write_winner.result _ c.from_residual-in_err-write_winner.ensures.1
    (AddsBeginning-then c.in_ok-write_number.ensures (AddsBeginning-then c.in_ok-write_seat.ensures
    (AddsBeginning-then c.in_ok-write_all.ensures (AddsBeginning-then c.in_ok-write_cards.ensures
    (AddsBeginning-stop (10 ∷ []) c.in_err-write_winner.ensures)))))

pub returns : goal.returns
unfolding play_trick_line
returns g c =
    let last = c.write_all-2.result in
    Writes-then last _ _ c.in_ok-write_number.ensures
    (Writes-then last _ _ c.in_ok-write_seat.ensures
    (Writes-then last _ _ c.in_ok-write_all.ensures
    (Writes-then last _ _ c.in_ok-write_cards.ensures
    (Writes-then last _ _ c.in_ok-write_winner.ensures c.write_all-2.ensures))))
