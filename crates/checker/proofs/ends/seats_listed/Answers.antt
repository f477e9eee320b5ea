use Rattle.std.proofs.Common.{◌^◌, ◌∙◌, length, ap, arith}
use Rattle.std.proofs.lemmas.Nat.{one_shl}
use Rattle.checker.proofs.ChildLaws.{to_come, all_come}
use Rattle.checker.proofs.WinnerLaws.{none_listed, one_listed, all_listed}
use Rattle.checker.proofs.ends.seats_listed.Goals as goal

pub loop-next-init : goal.loop-next-init
loop-next-init c = none_listed c.args.children.now c.split_first-next.result c.split_first-next.ensures

pub loop-next-smaller : goal.loop-next-smaller
loop-next-smaller c =
    omega (arith, ap length (all_come c.in-Some.rest c.split_first-next-in-Some.result c.split_first-next-in-Some.ensures), ap (λ next. length (to_come next)) c.in-Some.is)

pub loop-next-preserved : goal.loop-next-preserved
loop-next-preserved c =
    one_listed c.args.children.now c.in-Some.rest c.in-Some.child c.loop-next.next c.split_first-next-in-Some.result c.loop-next.seats _ (ap to_come c.in-Some.is) c.split_first-next-in-Some.ensures
    (one_shl c.number.result 8 (omega (arith, c.number.ensures.below)) ∙ ap (λ n. 2 ^ n) c.number.ensures.place) c.loop-next.invariant

pub returns-clause-below : goal.returns-clause-below
returns-clause-below c = c.loop-next.invariant.below

pub returns-clause-bits : goal.returns-clause-bits
returns-clause-bits c = all_listed c.args.children.now c.loop-next.next c.loop-next.seats c.in_default.is c.loop-next.invariant
