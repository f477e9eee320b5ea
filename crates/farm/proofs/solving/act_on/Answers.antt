use Rattle.std.proofs.Common.{Option, None, Result, Ok, Err, refl, sym, ap, ◌∙◌, subst, arith}
use Rattle.std.specs.declared.alloc.AllocError.{AllocError}
use Rattle.certificate_graph.specs.declared.bundles.Bundle.{Bundle}
use Rattle.farm.specs.declared.posts.SolverPost.{SolverPost}
use Rattle.farm.specs.Posts.{Answers}
use Rattle.farm.proofs.Asks.{answers_vain, counted_is}
use Rattle.farm.proofs.solving.act_on.Goals as goal

pub returns-in_ok-act_on_claims-in-Ok-Some-clause-answers : goal.returns-in_ok-act_on_claims-in-Ok-Some-clause-answers
returns-in_ok-act_on_claims-in-Ok-Some-clause-answers g c =
    let is = c.in-Ok-Some.is ∙ ap (λ (f : Option Bundle). Ok f) c.in-Ok-Some.field-0-is in
    subst (λ (a : Result (Option Bundle) AllocError). Answers (record { tasks = c.args.group.now.items; answer = a }) c.args.post.now c.act_on_claims.new.post) (sym is) c.in_ok-act_on_claims-in-Ok-Some.ensures.answers

pub returns-in_ok-give_up_counted-in-Ok-None-clause-answers : goal.returns-in_ok-give_up_counted-in-Ok-None-clause-answers
returns-in_ok-give_up_counted-in-Ok-None-clause-answers g c =
    let old = c.args.post.now in
    let new : SolverPost = record { chair = c.give_up_counted.new.chair; groups = old.groups; found = old.found; steps = c.give_up_counted.new.steps } in
    let is = c.in-Ok-None.is ∙ ap (λ (f : Option Bundle). Ok f) c.in-Ok-None.field-0-is in
    let gave = c.in_ok-give_up_counted-in-Ok-None.ensures in
    subst (λ (a : Result (Option Bundle) AllocError). Answers (record { tasks = c.args.group.now.items; answer = a }) old new) (sym is)
    (answers_vain c.args.group.now.items (Ok None) old new refl refl gave.leases (counted_is _ _ gave.steps))

pub returns-in_ok-give_up_all-in-Err-clause-answers : goal.returns-in_ok-give_up_all-in-Err-clause-answers
returns-in_ok-give_up_all-in-Err-clause-answers g c =
    let old = c.args.post.now in
    let new : SolverPost = record { chair = c.give_up_all.new.chair; groups = old.groups; found = old.found; steps = old.steps } in
    subst (λ (a : Result (Option Bundle) AllocError). Answers (record { tasks = c.args.group.now.items; answer = a }) old new) (sym c.in-Err.is)
    (answers_vain c.args.group.now.items (Err _) old new refl refl c.in_ok-give_up_all-in-Err.ensures.leases (omega arith))
