use Rattle.std.proofs.Common.{arith, rules, ◌≡◌, ◌-◌, get_or, None, Some}
use Rattle.std.proofs.lemmas.List.{drop_all}
use Rattle.cards.specs.Hands.{word_of_deal}
use Rattle.play_values.proofs.WordLaws.{word_held, word_other, word_small}
use Rattle.play_values.proofs.left_layouts.word_left.Goals as goal
use Rattle.play_values.proofs.left_layouts.word_left.Goals.{then-eq, else-eq}

pub loop-place-init : goal.loop-place-init
unfolding word_of_deal
loop-place-init c = rw (drop_all 52 c.args.left.now (omega (arith, c.told-left))) (search rules)

pub overflow_mul-word : goal.overflow_mul-word
overflow_mul-word c =
    omega (arith, c.loop-place.invariant, word_small c.args.left.now c.args.seat c.loop-place.place c.told-left c.loop-place-test.true)

pub overflow_add-word : goal.overflow_add-word
overflow_add-word c =
    let small = word_small c.args.left.now c.args.seat c.loop-place.place c.told-left c.loop-place-test.true in
    elim c.if-eq.branch [
      | then-eq w ↦ omega (arith, c.loop-place.invariant, small, w.bit-is)
      | else-eq w ↦ omega (arith, c.loop-place.invariant, small, w.bit-is)
    ]

pub loop-place-preserved : goal.loop-place-preserved
loop-place-preserved c =
    elim c.if-eq.branch [
      | then-eq w ↦
          let held : get_or c.args.left.now (51 - c.loop-place.place) None ≡ Some c.args.seat = search rules in
          omega (arith, c.loop-place.invariant, w.bit-is, word_held c.args.left.now c.args.seat c.loop-place.place c.told-left c.loop-place-test.true held)
      | else-eq w ↦
          let other : get_or c.args.left.now (51 - c.loop-place.place) None ≡ Some c.args.seat → ⊥ = search rules in
          omega (arith, c.loop-place.invariant, w.bit-is, word_other c.args.left.now c.args.seat c.loop-place.place c.told-left c.loop-place-test.true other)
    ]
