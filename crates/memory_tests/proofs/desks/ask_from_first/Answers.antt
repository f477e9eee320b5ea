use Rattle.memory_tests.proofs.Chairs.{one_changes}
use Rattle.memory_tests.proofs.desks.ask_from_first.Goals as goal

pub returns : goal.returns
returns g c = one_changes _ _ _ _ c.index-chairs-0.result c.ask_all.ensures.chair c.ask_all.ensures.number c.requires.chairs
