use Rattle.cards.proofs.HandLaws.{bits_of_holding}
use Rattle.cards.proofs.layouts.Layout.holding.Goals as goal

pub returns-clause-bits : goal.returns-clause-bits
returns-clause-bits c = rw (c.number.ensures.place, c.number-2.ensures.place) (bits_of_holding c.args.self.now c.self.inside.hands c.args.seat c.args.suit c.self.invariant c.self.view_is)
