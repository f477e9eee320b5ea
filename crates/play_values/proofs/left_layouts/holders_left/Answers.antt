use Rattle.std.proofs.Common.{arith}
use Rattle.play_rules.specs.Left.{left_of}
use Rattle.play_values.proofs.KeptLaws.{taken_more}
use Rattle.play_values.proofs.left_layouts.holders_left.Goals as goal

pub loop-place-init : goal.loop-place-init
unfolding left_of
loop-place-init c = c.holders-left.ensures

pub loop-place-preserved : goal.loop-place-preserved
loop-place-preserved c =
    taken_more c.args.layout.now c.loop-place.left c.args.cards.now c.loop-place.place c.number.result _ (omega (arith, c.loop-place-test.true, c.requires)) c.loop-place.invariant c.number.ensures.place
