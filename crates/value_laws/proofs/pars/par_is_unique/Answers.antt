use Rattle.value_laws.proofs.PlayedOut.{one_par}
use Rattle.value_laws.proofs.pars.par_is_unique.Goals as goal

pub returns : goal.returns
returns c = one_par
