use Rattle.cards.proofs.WriteLemmas.{AddsBeginning-stop, AddsBeginning-then, Writes-then, Writes-err}
use Rattle.play_pages.specs.Texts.{block_text}
use Rattle.play_pages.proofs.pages.write_block.Goals as goal

pub returns-in_err-write_board : goal.returns-in_err-write_board
unfolding block_text
returns-in_err-write_board g c =
    Writes-err c.from_residual.result _ c.from_residual.ensures.1
    (AddsBeginning-stop _ c.in_err-write_board.ensures)

pub returns-in_err-write_play : goal.returns-in_err-write_play
unfolding block_text
returns-in_err-write_play g c =
    Writes-err c.from_residual-in_err-write_play.result _ c.from_residual-in_err-write_play.ensures.1
    (AddsBeginning-then c.in_ok-write_board.ensures (AddsBeginning-stop _ c.in_err-write_play.ensures))

pub returns : goal.returns
unfolding block_text
returns g c =
    let last = c.write_all.result in
    Writes-then last _ _ c.in_ok-write_board.ensures (Writes-then last _ _ c.in_ok-write_play.ensures c.write_all.ensures)
