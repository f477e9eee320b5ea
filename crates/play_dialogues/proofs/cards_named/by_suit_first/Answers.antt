use Rattle.play_dialogues.proofs.WordLaws.{no_rank_behind}
use Rattle.play_dialogues.proofs.cards_named.by_suit_first.Goals as goal

pub returns-in_err-rank : goal.returns-in_err-rank
returns-in_err-rank c =
    rw c.from_residual-in_err-rank.ensures
    (no_rank_behind c.args.letters.now c.in_ok-first.first.now c.in_ok-first.rest.now c.in_ok-first.ensures.cases.0 c.in_err-rank.ensures)
