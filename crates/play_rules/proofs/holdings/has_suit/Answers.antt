use Rattle.std.proofs.Common.{arith}
use Rattle.play_rules.proofs.HoldingLaws.{no_suit_held}
use Rattle.play_rules.proofs.holdings.has_suit.Goals as goal

pub returns : goal.returns
returns c = no_suit_held c.args.left.now c.args.player c.args.suit (λ k h. c.loop-number.invariant k (omega arith))
