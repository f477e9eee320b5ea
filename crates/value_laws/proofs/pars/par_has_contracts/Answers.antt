use Rattle.par.proofs.Lowest.{none_at_zero}
use Rattle.value_laws.proofs.Lowest.{has_par_contract}
use Rattle.value_laws.proofs.pars.par_has_contracts.Goals as goal

pub returns-clause-some : goal.returns-clause-some
returns-clause-some c = has_par_contract

pub returns-clause-none : goal.returns-clause-none
returns-clause-none c = none_at_zero
