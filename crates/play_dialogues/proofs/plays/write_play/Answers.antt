use Rattle.cards.proofs.WriteLemmas.{AddsBeginning-stop, Writes-then, Writes-err}
use Rattle.play_dialogues.specs.PlayText.{play_score_line, play_text}
use Rattle.play_dialogues.proofs.plays.write_play.Goals as goal

pub returns-in_err-write_tricks : goal.returns-in_err-write_tricks
unfolding play_text
returns-in_err-write_tricks g c =
    let tricks = rw c.next.ensures at c.in_err-write_tricks.ensures in
    Writes-err c.from_residual.result _ c.from_residual.ensures.1
    (AddsBeginning-stop (play_score_line c.args.declarer c.args.trump c.args.cards.now) tricks)

pub returns : goal.returns
unfolding play_text
returns g c =
    let tricks = rw c.next.ensures at c.in_ok-write_tricks.ensures in
    Writes-then c.write_score.result _ _ tricks c.write_score.ensures
