use Rattle.std.proofs.Common.{List, All, subst, arith}
use Rattle.std.proofs.lemmas.List.Elements.{All-push}
use Rattle.std.specs.declared.thread.PromisedHandle.{PromisedHandle}
use Rattle.farm_threads.specs.Promises.{HasEnded}
use Rattle.farm_threads.proofs.Lists.{taken_more, all_taken}
use Rattle.farm_threads.proofs.joining.end_each.Goals as goal

pub loop-thread-preserved : goal.loop-thread-preserved
loop-thread-preserved g c =
    let i = c.loop-thread.invariant in
    let P : PromisedHandle g.row.T.Denot g.row.P.Denot → Type 0 = HasEnded g.P.Promise.kept_by in
    (All-push P c.loop-thread.yielded c.in-Some.thread i.0 (c.join.result, c.join.ensures), taken_more _ _ _ _ _ c.in-Some.ensures.steps.0 i.1)

pub returns : goal.returns
returns g c =
    let i = c.loop-thread.invariant in
    let rest = c.loop-thread.thread-iterator.rest in
    let all = all_taken _ rest.items _ (omega (arith, c.in-None.ensures.steps.0, rest.ok.0)) i.1 in
    subst (λ (l : List (PromisedHandle g.row.T.Denot g.row.P.Denot)). All (HasEnded g.P.Promise.kept_by) l) all i.0
