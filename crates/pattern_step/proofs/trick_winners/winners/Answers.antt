use Rattle.std.proofs.Common.{sym, ◌∙◌}
use Rattle.pattern_step.proofs.TrickLemmas.{wins_by_top, wins_by_low}
use Rattle.pattern_step.proofs.trick_winners.winners.Goals as goal

pub returns-in-Some : goal.returns-in-Some
returns-in-Some c = λ seat.
    let least = rw c.in-Some.is at c.highest.ensures in
    let wins = wins_by_top c.args.pattern.now c.args.trump c.args.leader c.args.cards.now c.winning_suit-suit.result c.in-Some.place seat c.winning_suit-suit.ensures least in (
      λ h. wins.0 (sym c.owner.ensures ∙ (c.alone.ensures seat).0 h),
      λ w. (c.alone.ensures seat).1 (c.owner.ensures ∙ wins.1 w),
    )

pub returns-in-None : goal.returns-in-None
returns-in-None c = λ seat.
    let none = rw c.in-None.is at c.highest.ensures in
    let wins = wins_by_low c.args.pattern.now c.args.trump c.args.leader c.args.cards.now c.winning_suit-suit.result seat c.winning_suit-suit.ensures none in (
      λ h. wins.0 ((c.low_players.ensures seat).0 h),
      λ w. (c.low_players.ensures seat).1 (wins.1 w),
    )
