use Rattle.std.proofs.Common.{rules}
use Rattle.cards.proofs.HandLaws.{IsTrue_held}
use Rattle.cards.proofs.layouts.Layout.holds.Goals as goal

pub returns : goal.returns
returns c = IsTrue_held _ _ _ _ c.has_bit.result c.self.invariant c.self.view_is (search rules)
