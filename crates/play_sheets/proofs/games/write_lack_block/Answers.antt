use Rattle.cards.proofs.WriteLemmas.{AddsBeginning-stop, AddsBeginning-then, Writes-then, Writes-err}
use Rattle.play_sheets.specs.Games.{block_text}
use Rattle.play_sheets.proofs.games.write_lack_block.Goals as goal

pub returns-in_err-write_with : goal.returns-in_err-write_with
unfolding block_text
returns-in_err-write_with g c =
    Writes-err c.from_residual.result _ c.from_residual.ensures.1
    (AddsBeginning-stop _ c.in_err-write_with.ensures)

pub returns-in_err-write_with-2 : goal.returns-in_err-write_with-2
unfolding block_text
returns-in_err-write_with-2 g c =
    Writes-err c.from_residual-in_err-write_with-2.result _ c.from_residual-in_err-write_with-2.ensures.1
    (AddsBeginning-then c.in_ok-write_with.ensures (AddsBeginning-stop _ c.in_err-write_with-2.ensures))

pub returns : goal.returns
unfolding block_text
returns g c =
    let last = c.write_all.result in
    Writes-then last _ _ c.in_ok-write_with.ensures (Writes-then last _ _ c.in_ok-write_with-2.ensures c.write_all.ensures)
