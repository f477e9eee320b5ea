use Rattle.std.proofs.Common.{rules}
use Rattle.lease_desk.proofs.verdicts.verdict_on.Goals as goal

pub returns-in-Ok-clause-verdict : goal.returns-in-Ok-clause-verdict
returns-in-Ok-clause-verdict c = search rules

pub returns-in_default-clause-verdict : goal.returns-in_default-clause-verdict
returns-in_default-clause-verdict c = search rules
