use Rattle.cards.proofs.HandLaws.{IsLayout-from_words}
use Rattle.cards.proofs.layouts.Layout.invariant.Goals as goal

pub returns : goal.returns
returns c = rw c.self.view_is at (IsLayout-from_words _ c.self.invariant)
