use Rattle.std.proofs.Common.{rules, ap, arith, sym, subst}
use Rattle.certificate_graph.specs.Trees.{branches_size}
use Rattle.checker.specs.declared.faults.StepFault.{StepFault}
use Rattle.checker.specs.Faults.{IsFirstFaultAmong}
use Rattle.checker.proofs.Lines.{one_more_begins}
use Rattle.checker.proofs.PartLaws.{err_out}
use Rattle.checker.proofs.BranchLaws.{to_come, all_come, all_tell, first_told, fault_told, rest_tell, none_tell}
use Rattle.checker.proofs.WalkLaws.{own_told, reply_told, leaf_told}
use Rattle.checker.proofs.walks.+walk.Goals as goal

pub check_branches-loop-next-init : goal.check_branches-loop-next-init
check_branches-loop-next-init t c =
    all_tell c.args.graph.now c.args.node.now c.args.played.now c.args.branches.now (to_come c.split_first-next.result) (all_come c.args.branches.now c.split_first-next.result c.split_first-next.ensures)
    c.requires.legal c.requires.named

pub check_branches-check_place-requires : goal.check_branches-check_place-requires
check_branches-check_place-requires t c =
    let first = first_told c.args.graph.now c.args.node.now c.args.played.now c.args.branches.now (to_come c.loop-next.next) c.in-Some.rest c.in-Some.card c.in-Some.below (ap to_come c.in-Some.is) c.loop-next.invariant in
    (omega (arith, first.0), (rw c.with.ensures (one_more_begins c.args.node.now c.args.played.now c.in-Some.card c.requires.begun first.1), first.2))

pub check_branches-returns-in_err-check_place : goal.check_branches-returns-in_err-check_place
check_branches-returns-in_err-check_place t c =
    let Told : StepFault → Type 0 = IsFirstFaultAmong c.args.graph.now c.args.node.now c.args.played.now c.args.branches.now in
    let told = fault_told c.args.graph.now c.args.node.now c.args.played.now c.with.result c.args.branches.now (to_come c.loop-next.next) c.in-Some.rest c.in-Some.card c.in-Some.below c.in_err-check_place.field-0.0
    (ap to_come c.in-Some.is) c.with.ensures c.in_err-check_place.ensures c.loop-next.invariant in
    err_out _ Told c.from_residual.result _ c.from_residual.ensures.1 (λ fault e. subst Told (sym e) told)

pub check_branches-loop-next-smaller : goal.check_branches-loop-next-smaller
check_branches-loop-next-smaller t c =
    omega (
      arith,
      ap branches_size (all_come c.in-Some.rest c.split_first-next-in-Some.result c.split_first-next-in-Some.ensures),
      ap (λ next. branches_size (to_come next)) c.in-Some.is,
    )

pub check_branches-loop-next-preserved : goal.check_branches-loop-next-preserved
check_branches-loop-next-preserved t c =
    rest_tell c.args.graph.now c.args.node.now c.args.played.now c.with.result c.args.branches.now (to_come c.loop-next.next) c.in-Some.rest (to_come c.split_first-next-in-Some.result) c.in-Some.card c.in-Some.below
    (ap to_come c.in-Some.is) (all_come c.in-Some.rest c.split_first-next-in-Some.result c.split_first-next-in-Some.ensures) c.with.ensures c.in_ok-check_place.ensures c.loop-next.invariant

pub check_branches-returns : goal.check_branches-returns
check_branches-returns t c =
    none_tell c.args.graph.now c.args.node.now c.args.played.now c.args.branches.now (to_come c.loop-next.next) (ap to_come c.in_default.is) c.loop-next.invariant

pub check_place-check_place-requires : goal.check_place-check_place-requires
check_place-check_place-requires t c = (
  search rules,
  (
    rw c.with.ensures (one_more_begins c.args.node.now c.args.played.now c.in-Own.card c.requires.begun c.in_ok-check_own-in-Own.ensures.1),
    (rw (← c.in-Own.ensures) at c.requires.named),
  ),
)

pub check_place-returns-in_ok-check_own-in-Own : goal.check_place-returns-in_ok-check_own-in-Own
check_place-returns-in_ok-check_own-in-Own t c =
    own_told c.args.graph.now c.args.node.now c.args.played.now c.with.result c.in-Own.card c.in-Own.below c.args.place.now c.side.result c.check_place.result
    c.in-Own.ensures c.side.ensures c.with.ensures c.in_ok-check_own-in-Own.ensures c.check_place.ensures

pub check_place-returns-in_ok-check_reply-in-Reply : goal.check_place-returns-in_ok-check_reply-in-Reply
check_place-returns-in_ok-check_reply-in-Reply t c =
    reply_told c.args.graph.now c.args.node.now c.args.played.now c.in-Reply.branches c.args.place.now c.version.result c.side-in-Reply.result c.check_branches.result
    c.in-Reply.ensures c.version.ensures c.side-in-Reply.ensures c.in_ok-check_reply-in-Reply.ensures c.check_branches.ensures

pub check_place-returns-in-Leaf : goal.check_place-returns-in-Leaf
check_place-returns-in-Leaf t c =
    leaf_told c.args.graph.now c.args.node.now c.args.played.now c.in-Leaf.children c.args.place.now c.check_leaf.result
    c.in-Leaf.ensures c.check_leaf.ensures
