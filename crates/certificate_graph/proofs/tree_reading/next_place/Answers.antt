use Rattle.std.proofs.Common.{rules}
use Rattle.certificate_graph.proofs.tree_reading.next_place.Goals as goal

pub returns : goal.returns
returns c = search rules
