-- What the events so far published is among the claims.
use Rattle.std.proofs.Common.{take}
use Rattle.evidence_solvers.specs.Claims.{AreClaimed}
use Rattle.evidence_solvers.proofs.claims.claim_all.Given as goal

abbrev pub invariant-loop-event : goal.invariant-loop-event
invariant-loop-event l = AreClaimed l.claims (take l.event-index l.events)
