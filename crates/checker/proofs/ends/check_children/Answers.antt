use Rattle.std.proofs.Common.{length, ap, arith, sym, subst}
use Rattle.checker.specs.declared.faults.StepFault.{StepFault}
use Rattle.checker.specs.Faults.{IsChildrenFault}
use Rattle.checker.proofs.PartLaws.{err_out}
use Rattle.checker.proofs.ChildLaws.{to_come, all_come, all_tell, first_named, fault_tells, rest_tell, none_tell}
use Rattle.checker.proofs.ends.check_children.Goals as goal

pub loop-next-init : goal.loop-next-init
loop-next-init c =
    all_tell c.args.graph.now c.args.node.now c.args.trick.now c.args.children.now (to_come c.split_first-next.result)
    (all_come c.args.children.now c.split_first-next.result c.split_first-next.ensures) c.requires.named

pub check_child-requires : goal.check_child-requires
check_child-requires c = record {
  named = first_named c.args.graph.now c.args.node.now c.args.trick.now c.args.children.now (to_come c.loop-next.next) c.in-Some.others c.in-Some.child (ap to_come c.in-Some.is) c.loop-next.invariant;
}

pub returns-in_err-check_child : goal.returns-in_err-check_child
returns-in_err-check_child c =
    let Told : StepFault → Type 0 = IsChildrenFault c.args.graph.now c.args.node.now c.args.trick.now c.args.children.now in
    let told = fault_tells c.args.graph.now c.args.node.now c.args.trick.now c.args.children.now (to_come c.loop-next.next) c.in-Some.others c.in-Some.child c.in_err-check_child.field-0.0 (ap to_come c.in-Some.is)
    (c.in_err-check_child.ensures c.args.trick.now c.rest-left.ensures) c.loop-next.invariant in
    err_out _ Told c.from_residual.result _ c.from_residual.ensures.1 (λ fault e. subst Told (sym e) told)

pub loop-next-smaller : goal.loop-next-smaller
loop-next-smaller c =
    omega (arith, ap length (all_come c.in-Some.others c.split_first-next-in-Some.result c.split_first-next-in-Some.ensures), ap (λ next. length (to_come next)) c.in-Some.is)

pub loop-next-preserved : goal.loop-next-preserved
loop-next-preserved c =
    rest_tell c.args.graph.now c.args.node.now c.args.trick.now c.args.children.now (to_come c.loop-next.next) c.in-Some.others (to_come c.split_first-next-in-Some.result) c.in-Some.child (ap to_come c.in-Some.is)
    (all_come c.in-Some.others c.split_first-next-in-Some.result c.split_first-next-in-Some.ensures) (c.in_ok-check_child.ensures c.args.trick.now c.rest-left.ensures) c.loop-next.invariant

pub returns : goal.returns
returns c = none_tell c.args.graph.now c.args.node.now c.args.trick.now c.args.children.now (to_come c.loop-next.next) (ap to_come c.in_default.is) c.loop-next.invariant
