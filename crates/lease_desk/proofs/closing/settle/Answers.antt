use Rattle.std.proofs.Common.{◌<◌, length, arith, sym, ap, ◌∙◌, subst}
use Rattle.lease_desk.specs.declared.chairs.Chair.{Chair}
use Rattle.lease_desk.specs.declared.views.View.{View}
use Rattle.lease_desk.specs.Closing.{IsSitting}
use Rattle.lease_desk.proofs.Loops.{as_long, next_is, settled_more, all_settled}
use Rattle.lease_desk.proofs.closing.settle.Goals as goal

pub compare-requires-clause-sits : goal.compare-requires-clause-sits
compare-requires-clause-sits c =
    let i = c.loop-chair.invariant.2 in
    let d : Chair = c.chair-item.result in
    let long = as_long _ _ _ _ i in
    let within : c.loop-chair.chair-index < length c.args.chairs.now = omega arith in
    subst (IsSitting c.args.ends.now) (sym (next_is _ _ _ _ i d)) (c.requires.sit c.loop-chair.chair-index d within)

pub loop-chair-preserved : goal.loop-chair-preserved
loop-chair-preserved c =
    let i = c.loop-chair.invariant in
    let told = c.compare.ensures in (
      told.seat,
      told.view ∙ i.1,
      settled_more _ _ _ _ i.2 c.compare.new.chair c.chair-item.result (omega arith) told.same
          (λ last e. told.compared last (ap (λ (v : View). v.custody) i.1 ∙ e)),
    )

pub returns-clause-compared : goal.returns-clause-compared
returns-clause-compared c = all_settled _ _ _ _ c.loop-chair.invariant.2 (omega arith)
