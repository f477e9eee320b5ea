use Rattle.std.proofs.Common.{◌≡◌, length, ◌∙◌, sym, arith}
use Rattle.play_rules.proofs.HistoryLaws.{leader_after-short}
use Rattle.play_dialogues.proofs.TrickLemmas.{leader_after-four}
use Rattle.play_dialogues.proofs.tricks.leads_next.Goals as goal

pub returns-in-len4 : goal.returns-in-len4
returns-in-len4 c =
    let four : length c.args.cards.now ≡ 4 = omega arith in
    c.winner.ensures.winner ∙ sym (leader_after-four c.args.trump c.args.leader c.args.cards.now _ four)

pub returns-in_default : goal.returns-in_default
returns-in_default c = sym (leader_after-short c.args.trump c.args.leader c.args.cards.now (omega arith))
