use Rattle.std.proofs.Common.{◌≡◌, ◌∙◌, ap, arith}
use Rattle.std.proofs.lemmas.List.{take_all}
use Rattle.patterns.specs.Parts.{suit_shape}
use Rattle.patterns.specs.Words.{suit_in, owner_bits}
use Rattle.patterns.proofs.SuitWords.{more_bits, put_together, IsSuitWord-word_of, suit_in-word_of}
use Rattle.patterns.proofs.suit_words.SuitWord.of_part.Goals as goal

pub overflow_add-bits : goal.overflow_add-bits
overflow_add-bits c =
    let more = more_bits c.as_slice-owner-items.result.now c.loop-place.place c.number.result c.loop-place-test.true c.as_slice-owner-items.ensures.fits c.number.ensures.place in
    omega (arith, more.whole, more.more, more.fits, c.loop-place.invariant)

pub loop-place-preserved : goal.loop-place-preserved
loop-place-preserved c =
    let more = more_bits c.as_slice-owner-items.result.now c.loop-place.place c.number.result c.loop-place-test.true c.as_slice-owner-items.ensures.fits c.number.ensures.place in
    omega (arith, more.whole, more.more, c.loop-place.invariant)

pub invariant_of-result : goal.invariant_of-result
invariant_of-result c =
    let items = c.as_slice-owner-items.result.now in
    let value = c.as_slice-owner-items.ensures.value in
    let all : c.loop-place.bits ≡ owner_bits c.args.part.now.owners.items =
    c.loop-place.invariant ∙ (ap owner_bits (take_all c.loop-place.place items c.loop-place-test.false) ∙ ap owner_bits value) in
    rw (put_together (suit_shape c.args.part.now) _ _ _ _ _ _ c.requires c.from.ensures c.from-2.ensures c.from-3.ensures c.from-4.ensures c.len.ensures.value all)
    (IsSuitWord-word_of (suit_shape c.args.part.now) c.requires)

pub returns : goal.returns
returns c =
    let items = c.as_slice-owner-items.result.now in
    let value = c.as_slice-owner-items.ensures.value in
    let all : c.loop-place.bits ≡ owner_bits c.args.part.now.owners.items =
    c.loop-place.invariant ∙ (ap owner_bits (take_all c.loop-place.place items c.loop-place-test.false) ∙ ap owner_bits value) in
    ap suit_in (put_together (suit_shape c.args.part.now) _ _ _ _ _ _ c.requires c.from.ensures c.from-2.ensures c.from-3.ensures c.from-4.ensures c.len.ensures.value all)
    ∙ suit_in-word_of (suit_shape c.args.part.now) c.requires
