use Rattle.std.proofs.Common.{arith, ◌≡◌, refl}
use Rattle.std.proofs.lemmas.Grind.{common_steps}
use Rattle.std.proofs.lemmas.List.Elements.{All-same, All-push}
use Rattle.farm.specs.declared.posts.SolverPost.{SolverPost}
use Rattle.farm.proofs.manning.solver_posts.Goals as goal

pub loop-found-preserved : goal.loop-found-preserved
loop-found-preserved c =
    let NoSteps : SolverPost → Type 0 = λ post. post.steps ≡ 0 in
    let i = c.loop-found.invariant in
    let post : SolverPost = record { chair = c.in-Some-pop_front.chair; groups = c.in-Some-pop_front-2.taker; found = c.in-Some.found; steps = 0 } in (
      grind (arith, common_steps),
      grind (arith, common_steps),
      grind (arith, common_steps),
      All-same NoSteps _ _ c.in_ok-push.ensures.items (All-push NoSteps c.loop-found.posts.items post i.3 refl),
      grind (arith, common_steps),
    )
