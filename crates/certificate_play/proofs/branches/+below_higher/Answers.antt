use Rattle.std.proofs.Common.{◌≡◌, suc, ◌-◌, arith}
use Rattle.certificate_play.proofs.BranchLaws.{found_further}
use Rattle.certificate_play.proofs.branches.+below_higher.Goals as goal

pub returns-in-None : goal.returns-in-None
returns-in-None t c =
    let is : c.args.place ≡ suc (c.args.place - 1) = omega (arith, c.if-place-eq0.false) in
    found_further c.args.pattern.now c.args.seat c.args.branches.now c.args.suit c.args.place (c.args.place - 1) c.below_higher.result is (c.is_legal.ensures.0 c.if-not-is_legal.false).has
    (c.is_legal-2.ensures.0 c.if-not-is_legal-2.false).has c.in-None.ensures c.below_higher.ensures
