use Rattle.std.proofs.Common.{◌++◌}
use Rattle.cards.proofs.WriteLemmas.{AddsBeginning-stop, AddsBeginning-then, Writes-then, Writes-err}
use Rattle.sheets.specs.Boards.{hand_text, hands_text}
use Rattle.cards.specs.declared.seats.Seat.TheVariants.{West, East, South}
use Rattle.sheets.proofs.boards.write_hands.Goals as goal

pub returns-in_err-write_hand : goal.returns-in_err-write_hand
unfolding hands_text
returns-in_err-write_hand g c =
    let deal = c.args.layout.now in
    Writes-err c.from_residual.result _ c.from_residual.ensures.1
    (AddsBeginning-stop (hand_text deal East ++ (hand_text deal South ++ (hand_text deal West))) c.in_err-write_hand.ensures)

pub returns-in_err-write_hand-2 : goal.returns-in_err-write_hand-2
unfolding hands_text
returns-in_err-write_hand-2 g c =
    let deal = c.args.layout.now in
    Writes-err c.from_residual-in_err-write_hand-2.result _ c.from_residual-in_err-write_hand-2.ensures.1
    (AddsBeginning-then c.in_ok-write_hand.ensures
    (AddsBeginning-stop (hand_text deal South ++ (hand_text deal West)) c.in_err-write_hand-2.ensures))

pub returns-in_err-write_hand-3 : goal.returns-in_err-write_hand-3
unfolding hands_text
returns-in_err-write_hand-3 g c =
    let deal = c.args.layout.now in
    Writes-err c.from_residual-in_err-write_hand-3.result _ c.from_residual-in_err-write_hand-3.ensures.1
    (AddsBeginning-then c.in_ok-write_hand.ensures
    (AddsBeginning-then c.in_ok-write_hand-2.ensures
    (AddsBeginning-stop (hand_text deal West) c.in_err-write_hand-3.ensures)))

pub returns : goal.returns
unfolding hands_text
returns g c =
    let deal = c.args.layout.now in
    Writes-then c.write_hand-4.result _ _ c.in_ok-write_hand.ensures
    (Writes-then c.write_hand-4.result _ _ c.in_ok-write_hand-2.ensures
    (Writes-then c.write_hand-4.result _ _ c.in_ok-write_hand-3.ensures
    (c.write_hand-4.ensures)))
