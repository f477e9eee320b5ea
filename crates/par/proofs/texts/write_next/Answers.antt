use Rattle.cards.proofs.WriteLemmas.{Writes-then}
use Rattle.par.proofs.texts.write_next.Goals as goal

pub returns : goal.returns
returns g c = Writes-then c.write_contract.result _ _ c.in_ok-write_all.ensures c.write_contract.ensures
