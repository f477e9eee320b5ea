use Rattle.std.proofs.Common.{arith, refl}
use Rattle.std.proofs.lemmas.Nat.{one_shl}
use Rattle.pattern_step.proofs.PatCardLaws.{slice_get-within}
use Rattle.checker.proofs.SuitSetLaws.{all_left, lowest_left, one_put, suit_told, tops_told}
use Rattle.checker.proofs.card_sets.suit_set.Goals as goal

pub loop-places-init : goal.loop-places-init
loop-places-init c = rw c.places_of-places.ensures (all_left c.args.held.owners c.args.seat)

pub overflow_shl-set : goal.overflow_shl-set
overflow_shl-set c =
    let l = c.loop-places in
    let lowest = lowest_left c.args.held.owners c.args.seat l.places l.set l.invariant (omega (arith, c.loop-places-test.true)) l.auto.places-fits.fits in
    omega (arith, slice_get-within c.args.held.owners _ c.args.seat lowest.owned, c.owner_count-count.ensures.count, c.owner_count-count.ensures.within)

pub loop-places-preserved : goal.loop-places-preserved
loop-places-preserved c =
    let l = c.loop-places in
    let lowest = lowest_left c.args.held.owners c.args.seat l.places l.set l.invariant (omega (arith, c.loop-places-test.true)) l.auto.places-fits.fits in
    one_put c.args.held.owners c.args.seat l.places l.set _ l.invariant (omega (arith, c.loop-places-test.true)) l.auto.places-fits.fits
    (one_shl _ 16 (omega (arith, slice_get-within c.args.held.owners _ c.args.seat lowest.owned, c.owner_count-count.ensures.count, c.owner_count-count.ensures.within)))

pub returns-then-tops-len : goal.returns-then-tops-len
returns-then-tops-len c =
    suit_told c.args.held c.args.seat c.loop-places.places c.loop-places.set 32768 c.loop-places-test.false c.loop-places.invariant refl
    (omega (arith, c.if-tops-len.true, c.tops.ensures, c.len.ensures.len))

pub returns-else-tops-len : goal.returns-else-tops-len
returns-else-tops-len c =
    tops_told c.args.held c.args.seat c.loop-places.places c.loop-places.set c.loop-places-test.false c.loop-places.invariant
    (omega (arith, c.owner_count-count.ensures.count, c.owner_count-count.ensures.within))
    (omega (arith, c.if-tops-len.false, c.tops.ensures, c.len.ensures.len))
