use Rattle.std.proofs.Common.{ap, arith}
use Rattle.certificate_graph.specs.Trees.{branches_size}
use Rattle.checker.proofs.BranchLaws.{to_come, all_come, none_put, one_put, all_put}
use Rattle.checker.proofs.card_sets.branch_set.Goals as goal

pub loop-next-init : goal.loop-next-init
loop-next-init c = none_put c.args.branches.now (to_come c.split_first-next.result) (all_come c.args.branches.now c.split_first-next.result c.split_first-next.ensures)

pub loop-next-smaller : goal.loop-next-smaller
loop-next-smaller c =
    omega (
      arith,
      ap branches_size (all_come c.in-Some.rest c.split_first-next-in-Some.result c.split_first-next-in-Some.ensures),
      ap (λ next. branches_size (to_come next)) c.in-Some.is,
    )

pub loop-next-preserved : goal.loop-next-preserved
loop-next-preserved c =
    one_put c.args.branches.now (to_come c.loop-next.next) c.in-Some.rest (to_come c.split_first-next-in-Some.result) c.in-Some.card c.in-Some.field-0-1 c.loop-next.set c.bit_of-set.result (ap to_come c.in-Some.is)
    (all_come c.in-Some.rest c.split_first-next-in-Some.result c.split_first-next-in-Some.ensures) c.bit_of-set.ensures c.loop-next.invariant

pub returns : goal.returns
returns c = all_put c.args.branches.now (to_come c.loop-next.next) c.loop-next.set (ap to_come c.in_default.is) c.loop-next.invariant
