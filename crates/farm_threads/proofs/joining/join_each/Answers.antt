use Rattle.std.proofs.Common.{List, subst, arith}
use Rattle.std.specs.declared.thread.PromisedHandle.{PromisedHandle}
use Rattle.farm_threads.specs.declared.promises.Keeps.{Keeps}
use Rattle.farm_threads.specs.declared.works.Ended.{Ended}
use Rattle.farm_threads.specs.Beside.{AreBeside}
use Rattle.farm_threads.proofs.Lists.{taken_more, all_taken, beside_more, kept}
use Rattle.farm_threads.proofs.joining.join_each.Goals as goal

pub loop-thread-preserved : goal.loop-thread-preserved
loop-thread-preserved g c =
    let i = c.loop-thread.invariant in
    let ended = c.loop-thread.ended.items in
    let T : Type 0 = PromisedHandle (Ended g.row.P.Denot g.row.F.Denot) (Keeps g.row.P.Denot g.row.W.Denot) in (
      beside_more (λ (t : T) post. g.W.Work.ends t.promise.work.value t.promise.post.value post) c.loop-thread.yielded ended c.push.new.self.items c.in-Some.thread c.in_ok-post.post c.in_ok-push.ensures.items i.0 c.in_ok-post.ensures,
      taken_more _ _ _ _ _ c.in-Some.ensures.steps.0 i.1,
    )

pub returns : goal.returns
returns g c posts are =
    let T : Type 0 = PromisedHandle (Ended g.row.P.Denot g.row.F.Denot) (Keeps g.row.P.Denot g.row.W.Denot) in
    let i = c.loop-thread.invariant in
    let rest = c.loop-thread.thread-iterator.rest in
    let all = all_taken _ rest.items _ (omega (arith, c.in-None.ensures.steps.0, rest.ok.0)) i.1 in
    kept g.W.Work.ends c.args._work.now posts c.args.threads.items c.loop-thread.ended.items are
    (subst (λ (l : List T). AreBeside (λ (t : T) post. g.W.Work.ends t.promise.work.value t.promise.post.value post) l c.loop-thread.ended.items) all i.0)
