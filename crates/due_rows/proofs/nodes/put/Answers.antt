use Rattle.std.proofs.Common.{rules}
use Rattle.due_rows.proofs.nodes.put.Goals as goal

pub returns-clause-joined : goal.returns-clause-joined
returns-clause-joined c = search rules
