use Rattle.std.proofs.Common.{subst}
use Rattle.certificate_play.specs.Promises.{Promise, after_card, IsSidesTurn}
use Rattle.certificate_play.specs.Steps.{IsKeptIn}
use Rattle.certificate_play.proofs.PromiseLaws.{can_in_step, turn_in_play, kept_on, won_stays, on_course_after}
use Rattle.certificate_play.proofs.playing.Playing.take.Goals as goal
use Rattle.certificate_play.proofs.playing.Playing.take.Goals.{in-Some, in-None}

pub after_reply-step-requires-clause-can : goal.after_reply-step-requires-clause-can
after_reply-step-requires-clause-can c =
    let promise : Promise = record { position = c.self.inside.table; side = c.self.inside.side; tricks = c.self.inside.promised } in
    can_in_step promise c.in-Some.step c.args.card (rw c.in-Some.is at c.self.invariant.kept) c.in_ok-play.ensures.cases.1

pub after_reply-step-requires-clause-turn : goal.after_reply-step-requires-clause-turn
after_reply-step-requires-clause-turn c =
    let promise : Promise = record { position = c.self.inside.table; side = c.self.inside.side; tricks = c.self.inside.promised } in
    λ turn. c.requires (subst IsSidesTurn c.self.view_is (turn_in_play promise c.in-Some.step (rw c.in-Some.is at c.self.invariant.kept) turn))

pub invariant_of-self-2 : goal.invariant_of-self-2
invariant_of-self-2 c =
    let promise : Promise = record { position = c.self.inside.table; side = c.self.inside.side; tricks = c.self.inside.promised } in
    let card = c.args.card in
    let kept : IsKeptIn (after_card promise card) c.match-self.step = elim c.match-self.branch [
      | in-Some w ↦ rw w.step-is (kept_on promise w.in-Some.step card w.after_reply-step.result (rw w.in-Some.is at c.self.invariant.kept) w.after_reply-step.ensures)
      | in-None w ↦ rw w.step-is (won_stays promise card (rw w.in-None.is at c.self.invariant.kept))
    ] in
    rw c.in_ok-play.ensures.ok
    (on_course_after promise c.self.inside.layout c.self.inside.history.items c.push.new.self.items card c.self.inside.step c.match-self.step c.self.invariant c.in_ok-play.ensures.cases.0 c.in_ok-play.ensures.cases.1 c.push.ensures.items kept)
