use Rattle.std.proofs.Common.{refl}
use Rattle.cards.proofs.orders.lists_are_in_order.Goals as goal

pub returns-clause-seats : goal.returns-clause-seats
returns-clause-seats c = refl
