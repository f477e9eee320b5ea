use Rattle.cards.specs.SameDeal.{is_same_deal-Decides}
use Rattle.cards.proofs.orders.equals_are_one.Goals as goal

pub returns-clause-layouts : goal.returns-clause-layouts
returns-clause-layouts c = is_same_deal-Decides
