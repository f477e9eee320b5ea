use Rattle.cards.proofs.WriteLemmas.{AddsBeginning-stop, AddsBeginning-then, Writes-then, Writes-err}
use Rattle.card_values.specs.Texts.{lines_text, values_text}
use Rattle.card_values.proofs.texts.write_values.Goals as goal

pub returns-in_err-write_all-2 : goal.returns-in_err-write_all-2
unfolding values_text
returns-in_err-write_all-2 g c =
    let seat = rw (c.as_bytes.ensures.value, c.letter.ensures, c.turn.ensures, c.trick.ensures) at c.in_ok-write_all.ensures in
    Writes-err c.from_residual-in_err-write_all-2.result _ c.from_residual-in_err-write_all-2.ensures.1
    (AddsBeginning-then seat (AddsBeginning-stop (lines_text c.args.shown.now.values) c.in_err-write_all-2.ensures))

pub returns : goal.returns
unfolding values_text
returns g c =
    let seat = rw (c.as_bytes.ensures.value, c.letter.ensures, c.turn.ensures, c.trick.ensures) at c.in_ok-write_all.ensures in
    let lines = rw c.values.ensures at c.write_lines.ensures in
    Writes-then c.write_lines.result _ _ seat (Writes-then c.write_lines.result _ _ c.in_ok-write_all-2.ensures lines)
