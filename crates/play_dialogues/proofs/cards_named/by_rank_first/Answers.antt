use Rattle.play_dialogues.proofs.WordLaws.{no_rank_before}
use Rattle.play_dialogues.proofs.cards_named.by_rank_first.Goals as goal

pub returns-in_err-rank : goal.returns-in_err-rank
returns-in_err-rank c =
    rw c.from_residual-in_err-rank.ensures
    (no_rank_before c.args.letters.now c.in_ok-last.last.now c.in_ok-last.rest.now c.in_ok-last.ensures.cases.0 c.in_err-rank.ensures)
