use Rattle.std.proofs.Common.{arith}
use Rattle.pattern_step.proofs.TrickLemmas.{no_top_met, top_met, all_met}
use Rattle.pattern_step.proofs.trick_winners.highest.Goals as goal
use Rattle.pattern_step.proofs.trick_winners.highest.Goals.{in-Some, in_default}

pub loop-card-preserved : goal.loop-card-preserved
loop-card-preserved c = elim c.match-top_of.branch [
  | in-Some w ↦
      (let is = rw w.in-Some.is at c.top_of.ensures in
      rw (w.least-is, w.lesser.ensures) (top_met c.args.cards.now c.loop-card.card-index _ c.args.suit c.loop-card.least w.in-Some.place (omega (arith, c.told-cards)) is c.loop-card.invariant))
  | in_default w ↦
      (let none = rw w.in_default.is at c.top_of.ensures in
      rw w.least-is (no_top_met c.args.cards.now c.loop-card.card-index _ c.args.suit c.loop-card.least (omega (arith, c.told-cards)) none c.loop-card.invariant))
]

pub returns : goal.returns
returns c = all_met c.args.cards.now c.loop-card.card-index c.args.suit c.loop-card.least (omega (arith, c.told-cards)) c.loop-card.invariant
