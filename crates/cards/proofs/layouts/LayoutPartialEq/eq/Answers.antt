use Rattle.std.proofs.Common.{◌∙◌}
use Rattle.cards.specs.SameDeal.{same_from_words}
use Rattle.cards.proofs.layouts.LayoutPartialEq.eq.Goals as goal

pub returns : goal.returns
returns c = rw (← c.self.view_is, ← c.other.view_is) (c.eq.ensures ∙ same_from_words _ _ c.self.invariant c.other.invariant)
