use Rattle.std.proofs.Common.{◌+◌, ◌≡◌, ℕ, length, arith, ap, subst}
use Rattle.certified_plays.proofs.EntryLaws.{AreJudgedTo, one_more_judged, all_values, all_judged}
use Rattle.certified_plays.proofs.judging.judge_play.Goals as goal

pub push-requires : goal.push-requires
push-requires c = (
  omega arith,
  omega (arith, c.loop-count.invariant.size, c.loop-count-test.true, ap length c.cards.ensures, c.invariant.ensures.within, c.invariant.ensures.layout.at_most_13),
)

pub loop-count-preserved : goal.loop-count-preserved
loop-count-preserved c =
    one_more_judged c.args.proofs.now c.args.claims.now c.args.play c.loop-count.entries.items c.push.new.self.items c.loop-count.count c.check_value.result c.loop-count.invariant c.check_value.ensures c.push.ensures.items

pub new-requires : goal.new-requires
new-requires c =
    let all : c.loop-count.count ≡ length c.args.play.position.history + 1 = omega (arith, c.loop-count-test.false, c.loop-count.auto.count-end, ap length c.cards.ensures) in
    all_values c.args.proofs.now c.args.claims.now c.args.play c.loop-count.entries.items (subst (λ (n : ℕ). AreJudgedTo c.args.proofs.now c.args.claims.now c.args.play c.loop-count.entries.items n) all c.loop-count.invariant)

pub returns : goal.returns
returns c =
    let all : c.loop-count.count ≡ length c.args.play.position.history + 1 = omega (arith, c.loop-count-test.false, c.loop-count.auto.count-end, ap length c.cards.ensures) in
    all_judged c.args.proofs.now c.args.claims.now c.args.play c.new.result c.loop-count.entries.items c.new.ensures.play c.new.ensures.entries
    (subst (λ (n : ℕ). AreJudgedTo c.args.proofs.now c.args.claims.now c.args.play c.loop-count.entries.items n) all c.loop-count.invariant)
