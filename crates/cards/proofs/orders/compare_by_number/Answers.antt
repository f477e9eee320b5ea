use Rattle.std.proofs.Common.{rules}
use Rattle.cards.proofs.orders.compare_by_number.Goals as goal

pub returns-clause-sides : goal.returns-clause-sides
returns-clause-sides c = search rules
