use Rattle.std.proofs.Common.{◌∷◌, []}
use Rattle.cards.proofs.WriteLemmas.{AddsBeginning-stop, AddsBeginning-then, Writes-then, Writes-err}
use Rattle.play_dialogues.specs.PlayText.{play_score_line}
use Rattle.play_dialogues.proofs.scores.write_score.Goals as goal

pub returns-in_err-write_all : goal.returns-in_err-write_all
unfolding play_score_line
returns-in_err-write_all g c =
    Writes-err c.from_residual.result _ c.from_residual.ensures.1 (AddsBeginning-stop _ c.in_err-write_all.ensures)

pub returns-in_err-write_number : goal.returns-in_err-write_number
unfolding play_score_line
returns-in_err-write_number g c =
    let won = rw c.next-leader.ensures at (rw c.side-side.ensures at (rw c.count_tricks.ensures at c.in_err-write_number.ensures)) in
    Writes-err c.from_residual-in_err-write_number.result _ c.from_residual-in_err-write_number.ensures.1
    (AddsBeginning-then c.in_ok-write_all.ensures (AddsBeginning-stop _ won))

pub returns-in_err-write_all-2 : goal.returns-in_err-write_all-2
unfolding play_score_line
returns-in_err-write_all-2 g c =
    let won = rw c.next-leader.ensures at (rw c.side-side.ensures at (rw c.count_tricks.ensures at c.in_ok-write_number.ensures)) in
    Writes-err c.from_residual-in_err-write_all-2.result _ c.from_residual-in_err-write_all-2.ensures.1
    (AddsBeginning-then c.in_ok-write_all.ensures (AddsBeginning-then won (AddsBeginning-stop _ c.in_err-write_all-2.ensures)))

pub returns-in_err-write_number-2 : goal.returns-in_err-write_number-2
unfolding play_score_line
returns-in_err-write_number-2 g c =
    let won = rw c.next-leader.ensures at (rw c.side-side.ensures at (rw c.count_tricks.ensures at c.in_ok-write_number.ensures)) in
    let others = rw c.next-leader.ensures at (rw c.side-side.ensures at (rw c.other.ensures at (rw c.count_tricks-2.ensures at c.in_err-write_number-2.ensures))) in
    Writes-err c.from_residual-in_err-write_number-2.result _ c.from_residual-in_err-write_number-2.ensures.1
    (AddsBeginning-then c.in_ok-write_all.ensures (AddsBeginning-then won
    (AddsBeginning-then c.in_ok-write_all-2.ensures (AddsBeginning-stop (10 ∷ []) others))))

pub returns : goal.returns
unfolding play_score_line
returns g c =
    let last = c.write_all-3.result in
    let won = rw c.next-leader.ensures at (rw c.side-side.ensures at (rw c.count_tricks.ensures at c.in_ok-write_number.ensures)) in
    let others = rw c.next-leader.ensures at (rw c.side-side.ensures at (rw c.other.ensures at (rw c.count_tricks-2.ensures at c.in_ok-write_number-2.ensures))) in
    Writes-then last _ _ c.in_ok-write_all.ensures
    (Writes-then last _ _ won
    (Writes-then last _ _ c.in_ok-write_all-2.ensures
    (Writes-then last _ _ others c.write_all-3.ensures)))
