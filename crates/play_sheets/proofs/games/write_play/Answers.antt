use Rattle.cards.proofs.WriteLemmas.{AddsBeginning-stop, AddsBeginning-then, Writes-then, Writes-err}
use Rattle.play_sheets.specs.Games.{play_text}
use Rattle.play_sheets.proofs.games.write_play.Goals as goal

pub returns-in_err-write_facts : goal.returns-in_err-write_facts
unfolding play_text
returns-in_err-write_facts g c =
    Writes-err c.from_residual.result _ c.from_residual.ensures.1
    (AddsBeginning-stop _ c.in_err-write_facts.ensures)

pub returns-in_err-write_hands : goal.returns-in_err-write_hands
unfolding play_text
returns-in_err-write_hands g c =
    Writes-err c.from_residual-in_err-write_hands.result _ c.from_residual-in_err-write_hands.ensures.1
    (AddsBeginning-then c.in_ok-write_facts.ensures (AddsBeginning-stop _ c.in_err-write_hands.ensures))

pub returns-in_err-write_table : goal.returns-in_err-write_table
unfolding play_text
returns-in_err-write_table g c =
    Writes-err c.from_residual-in_err-write_table.result _ c.from_residual-in_err-write_table.ensures.1
    (AddsBeginning-then c.in_ok-write_facts.ensures (AddsBeginning-then c.in_ok-write_hands.ensures (AddsBeginning-stop _ c.in_err-write_table.ensures)))

pub returns : goal.returns
unfolding play_text
returns g c =
    let last = c.write_end.result in
    Writes-then last _ _ c.in_ok-write_facts.ensures (Writes-then last _ _ c.in_ok-write_hands.ensures (Writes-then last _ _ c.in_ok-write_table.ensures c.write_end.ensures))
