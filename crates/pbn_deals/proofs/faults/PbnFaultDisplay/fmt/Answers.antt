use Rattle.std.proofs.Common.{rules}
use Rattle.pbn_deals.proofs.faults.PbnFaultDisplay.fmt.Goals as goal

pub returns-clause-writes : goal.returns-clause-writes
returns-clause-writes g c = search rules
