use Rattle.std.proofs.Common.{sym, ap, ◌∙◌}
use Rattle.cards.specs.declared.seats.Seat.TheVariants.{North}
use Rattle.cards.specs.Deal.{size_of}
use Rattle.cards.specs.SameDeal.{count_of-deal_of_words}
use Rattle.cards.proofs.HandLaws.{IsLayout-from_words}
use Rattle.cards.proofs.layouts.Layout.len.Goals as goal

pub returns-clause-size : goal.returns-clause-size
returns-clause-size c = sym (count_of-deal_of_words _ c.self.invariant North) ∙ ap size_of c.self.view_is

pub returns-clause-layout : goal.returns-clause-layout
returns-clause-layout c = rw c.self.view_is at (IsLayout-from_words _ c.self.invariant)
