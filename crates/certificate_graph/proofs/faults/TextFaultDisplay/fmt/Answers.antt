use Rattle.std.proofs.Common.{rules}
use Rattle.certificate_graph.proofs.faults.TextFaultDisplay.fmt.Goals as goal

pub returns-clause-writes : goal.returns-clause-writes
returns-clause-writes g c = search rules
