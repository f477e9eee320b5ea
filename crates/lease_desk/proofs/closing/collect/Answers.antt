use Rattle.std.proofs.Common.{ap, refl}
use Rattle.lease_desk.specs.declared.views.View.{View}
use Rattle.lease_desk.specs.Views.{page_of}
use Rattle.lease_desk.proofs.Moves.{spares}
use Rattle.lease_desk.proofs.CollectLaws.{sits_empty, collected}
use Rattle.lease_desk.proofs.Loops.{same_shown}
use Rattle.lease_desk.proofs.closing.collect.Goals as goal

pub another-own-requires-clause-rule : goal.another-own-requires-clause-rule
another-own-requires-clause-rule g c =
    let s = c.requires.seated in
    spares _ _ (sits_empty _ _ _ (s.each 0 c.index-chairs-0.result c.requires.some))

pub settle-requires-clause-holds : goal.settle-requires-clause-holds
settle-requires-clause-holds g c = (page_of c.take_last-message.result, ap (λ (v : View). v.custody) c.take_last-message.ensures.took.holds)

pub returns : goal.returns
returns g c opening each =
    collected c.args.ends.now opening c.args.chairs.now _ c.settle.new.chairs c.index-chairs-0.result _ _ c.take_last-message.result each c.requires.some c.another-own.ensures.rule.1 c.take_last-message.ensures.took
    (same_shown c.args.chairs.now 0 _ c.index-chairs-0.result refl) c.settle.ensures.same c.settle.ensures.compared
