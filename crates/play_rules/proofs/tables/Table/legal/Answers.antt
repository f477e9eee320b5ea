use Rattle.play_rules.proofs.PositionLaws.{AreLegalCards-from_left, hand-le}
use Rattle.play_rules.proofs.tables.Table.legal.Goals as goal

pub legal_cards-requires : goal.legal_cards-requires
legal_cards-requires c = hand-le _ _ c.self.invariant

pub returns : goal.returns
returns c = record { legal = rw c.self.view_is at (AreLegalCards-from_left _ _ _ c.self.invariant (rw c.as_slice.ensures.value at c.legal_cards.ensures)) }
