use Rattle.std.proofs.Common.{sym, ◌∙◌, true≢false, arith}
use Rattle.std.proofs.lemmas.List.{take_all}
use Rattle.pattern_store.specs.Stores.{Serves}
use Rattle.pattern_store.proofs.Firsts.{none_more, first_at}
use Rattle.pattern_store.proofs.stores.first_served.Goals as goal
use Rattle.pattern_store.proofs.stores.first_served.Goals.{else-added-need-via-then-added-need+else-matches, else-added-need-via-else-added-need}

pub returns-then-matches : goal.returns-then-matches
returns-then-matches c =
    let serves : Serves c.args.layout.now c.args.need c.added-item.result = record {
      enough = c.if-added-need.true;
      matches = c.matches.ensures.0 c.if-matches.true;
    } in
    rw c.added-item.is (first_at c.args.layout.now c.args.need c.args.adds.now c.loop-added.added-index c.added-item.result (omega arith) c.loop-added.invariant
    (rw c.added-item.is at serves))

pub loop-added-preserved : goal.loop-added-preserved
loop-added-preserved c =
    none_more c.args.layout.now c.args.need c.args.adds.now c.loop-added.added-index c.added-item.result (omega arith) c.loop-added.invariant
    (λ serves.
    let here : Serves c.args.layout.now c.args.need c.added-item.result = rw (← c.added-item.is) at serves in
    elim c.else-added-need.branch [
      | else-added-need-via-then-added-need+else-matches w ↦ true≢false (sym (w.matches.ensures.1 here.matches) ∙ w.if-matches.false)
      | else-added-need-via-else-added-need w ↦ omega (arith, w.if-added-need.false, here.enough)
    ])

pub returns : goal.returns
returns c = rw (take_all c.loop-added.added-index c.args.adds.now (omega arith)) at c.loop-added.invariant
