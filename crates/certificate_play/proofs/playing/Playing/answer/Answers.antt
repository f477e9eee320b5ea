use Rattle.std.proofs.Common.{sym, subst}
use Rattle.certificate_play.specs.Promises.{Promise, GoesOn}
use Rattle.certificate_play.proofs.PromiseLaws.{on_course_after}
use Rattle.certificate_play.proofs.playing.Playing.answer.Goals as goal

pub invariant_of-self : goal.invariant_of-self
invariant_of-self c =
    let promise : Promise = record { position = c.self.inside.table; side = c.self.inside.side; tricks = c.self.inside.promised } in
    let goes = subst GoesOn (sym c.self.view_is) c.requires.goes_on in
    rw c.after-self-inside.ensures
    (on_course_after promise c.self.inside.layout c.self.inside.history.items c.push.new.self.items c.choose-step.result.0 c.self.inside.step c.choose-step.result.1 c.self.invariant goes c.choose-step.ensures.legal c.push.ensures.items c.choose-step.ensures.kept)
