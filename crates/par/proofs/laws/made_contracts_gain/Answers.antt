use Rattle.par.proofs.ScoreLaws.{made, failing}
use Rattle.par.proofs.laws.made_contracts_gain.Goals as goal

pub returns-clause-made : goal.returns-clause-made
returns-clause-made c = made

pub returns-clause-failing : goal.returns-clause-failing
returns-clause-failing c = failing
