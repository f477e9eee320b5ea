use Rattle.std.proofs.Common.{rules}
use Rattle.certificate_graph.proofs.scanning.is_number.Goals as goal

pub returns-in-len1-up : goal.returns-in-len1-up
returns-in-len1-up c = search rules
