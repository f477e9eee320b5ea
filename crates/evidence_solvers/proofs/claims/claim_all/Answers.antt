use Rattle.std.proofs.Common.{List, subst, arith}
use Rattle.std.proofs.lemmas.List.{take_all}
use Rattle.std.proofs.lemmas.List.Elements.{All-more}
use Rattle.lease_book.specs.declared.events.Event.{Event}
use Rattle.evidence_solvers.specs.Claims.{AreClaimed, IsClaimed}
use Rattle.evidence_solvers.proofs.claims.claim_all.Goals as goal

pub loop-event-preserved : goal.loop-event-preserved
loop-event-preserved c =
    All-more (IsClaimed c.args.claims.now) c.args.events.now c.loop-event.event-index c.event-item.result c.loop-event-test.true c.loop-event.invariant
    (subst (IsClaimed c.args.claims.now) c.event-item.is c.in-Some.ensures)

pub returns : goal.returns
returns c = λ yes. subst (λ (events : List Event). AreClaimed c.args.claims.now events) (take_all c.loop-event.event-index c.args.events.now (omega (arith, c.loop-event-test.false))) c.loop-event.invariant
