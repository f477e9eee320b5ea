use Rattle.std.proofs.Common.{rules}
use Rattle.cards.proofs.memory.BytesSource.read.Goals as goal

pub returns-in-Some-eq0-clause-supply : goal.returns-in-Some-eq0-clause-supply
returns-in-Some-eq0-clause-supply c = search rules

pub returns-in-Some-eq0-clause-device : goal.returns-in-Some-eq0-clause-device
returns-in-Some-eq0-clause-device c = search rules
