use Rattle.farm.specs.declared.posts.SolverPost.{SolverPost}
use Rattle.farm.proofs.Asks.{answers_found}
use Rattle.farm.proofs.solving.act_on_claims.Goals as goal

pub returns-clause-answers : goal.returns-clause-answers
returns-clause-answers g c =
    let old = c.args.post.now in
    let new : SolverPost = record { chair = c.give_up_counted.new.chair; groups = old.groups; found = c.put_found.new.found; steps = c.give_up_counted.new.steps } in
    let parts = c.by_claims-tasks.ensures in
    let gave = c.in_ok-give_up_counted.ensures in
    answers_found c.args.group.now.items c.by_claims-tasks.result.0.items c.by_claims-tasks.result.1.items c.args.bundle old new parts.claimed parts.others gave.leases gave.steps c.in_ok-put_found.ensures.puts
