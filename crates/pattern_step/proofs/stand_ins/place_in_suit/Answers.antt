use Rattle.std.proofs.Common.{◌<◌, arith}
use Rattle.pattern_step.proofs.StandInLaws.{counted_more}
use Rattle.pattern_step.proofs.stand_ins.place_in_suit.Goals as goal
use Rattle.pattern_step.proofs.stand_ins.place_in_suit.Goals.{then-is_some, else-is_some}

pub loop-place-preserved : goal.loop-place-preserved
loop-place-preserved c =
    let place = c.loop-place.place in
    let within : place < 13 = omega (arith, c.loop-place-test.true) in
    let more = counted_more c.args.deal.now c.args.card.suit place c.number-in-loop-place.result c.at.result c.is_some.result within c.at.ensures c.number-in-loop-place.ensures.place c.is_some.ensures in
    elim c.if-is_some.branch [
      | then-is_some w ↦ (let one = rw w.if-is_some.true at more in (omega (arith, w.higher-is, one, c.loop-place.invariant.0), omega (arith, w.higher-is, c.loop-place.invariant.1)))
      | else-is_some w ↦ (let none = rw w.if-is_some.false at more in (omega (arith, w.higher-is, none, c.loop-place.invariant.0), omega (arith, w.higher-is, c.loop-place.invariant.1)))
    ]
