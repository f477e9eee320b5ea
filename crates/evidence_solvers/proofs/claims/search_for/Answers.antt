use Rattle.std.proofs.Common.{sym}
use Rattle.evidence_solvers.proofs.claims.search_for.Goals as goal

pub returns-in-None : goal.returns-in-None
returns-in-None c = rw (sym c.in-None.ensures) tt

pub returns-in-None-number_by : goal.returns-in-None-number_by
returns-in-None-number_by c = rw (sym c.in-Some.ensures, sym c.in-None-number_by.ensures) tt

pub returns-in-Some-place_of : goal.returns-in-Some-place_of
returns-in-Some-place_of c = rw (sym c.in-Some.ensures, sym c.in-Some-number_by.ensures) c.in-Some-place_of.ensures
