use Rattle.std.proofs.Common.{take}
use Rattle.pattern_step.specs.HighestTops.{IsHighestTop}
use Rattle.pattern_step.proofs.trick_winners.highest.Given as goal

-- the highest top so far
abbrev pub invariant-loop-card : goal.invariant-loop-card
invariant-loop-card l = IsHighestTop (take l.card-index l.cards) l.suit l.least
