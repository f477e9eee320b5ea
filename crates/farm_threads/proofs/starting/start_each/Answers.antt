use Rattle.std.proofs.Common.{◌≡◌}
use Rattle.std.specs.declared.thread.PromisedHandle.{PromisedHandle}
use Rattle.farm_threads.specs.declared.promises.Keeps.{Keeps}
use Rattle.farm_threads.specs.declared.works.Ended.{Ended}
use Rattle.farm_threads.proofs.Lists.{taken_more, map_more, All-more}
use Rattle.farm_threads.proofs.starting.start_each.Goals as goal

pub loop-post-preserved : goal.loop-post-preserved
loop-post-preserved g c =
    let i = c.loop-post.invariant in
    let pushed = c.in_ok-push.ensures.items in
    let thread = c.in-Some-start.ensures in
    let had = c.loop-post.threads.items in
    let has = c.push.new.self.items in
    let T : Type 0 = PromisedHandle (Ended g.row.P.Denot g.row.F.Denot) (Keeps g.row.P.Denot g.row.W.Denot) in (
      record {
        work_is = All-more (λ (t : T). t.promise.work.value ≡ c.args.work.now) had has c.in-Some-start.thread pushed i.0.work_is thread.work_is;
        posts_are = map_more (λ (t : T). t.promise.post.value) had has c.loop-post.yielded c.in-Some-start.thread c.in-Some.post pushed i.0.posts_are thread.post_is;
      },
      taken_more _ _ _ _ _ c.in-Some.ensures.steps.0 i.1,
    )
