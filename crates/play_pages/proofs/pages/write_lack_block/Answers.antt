use Rattle.cards.proofs.WriteLemmas.{AddsBeginning-stop, AddsBeginning-then, Writes-then, Writes-err}
use Rattle.play_pages.specs.Texts.{block_text}
use Rattle.play_pages.proofs.pages.write_lack_block.Goals as goal

pub returns-in_err-write_board : goal.returns-in_err-write_board
unfolding block_text
returns-in_err-write_board g c =
    Writes-err c.from_residual.result _ c.from_residual.ensures.1
    (AddsBeginning-stop _ c.in_err-write_board.ensures)

pub returns-in_err-write_all : goal.returns-in_err-write_all
unfolding block_text
returns-in_err-write_all g c =
    Writes-err c.from_residual-in_err-write_all.result _ c.from_residual-in_err-write_all.ensures.1
    (AddsBeginning-then c.in_ok-write_board.ensures (AddsBeginning-stop _ c.in_err-write_all.ensures))

pub returns : goal.returns
unfolding block_text
returns g c =
    let last = c.write_all-2.result in
    Writes-then last _ _ c.in_ok-write_board.ensures (Writes-then last _ _ c.in_ok-write_all.ensures c.write_all-2.ensures)
