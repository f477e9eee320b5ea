use Rattle.std.proofs.Common.{rules}
use Rattle.due_rows.proofs.nodes.is_due.Goals as goal

pub returns-in-Some : goal.returns-in-Some
returns-in-Some c = search rules
