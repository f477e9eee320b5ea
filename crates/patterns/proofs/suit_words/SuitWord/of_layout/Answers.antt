use Rattle.std.proofs.Common.{◌<◌, ◌≤◌, ◌∷◌, [], sym, ◌∙◌, ap, arith, refl}
use Rattle.std.specs.Prelude.{count_ones, slice_index}
use Rattle.std.proofs.lemmas.Nat.{ones-le}
use Rattle.cards.specs.Seats.{seat_number}
use Rattle.cards.specs.declared.seats.Seat.TheVariants.{North, East, South, West}
use Rattle.patterns.proofs.SeatLaws.{for_each_seat}
use Rattle.arrayvec.specs.ArrayVec.{ArrayVec}
use Rattle.cards.specs.declared.seats.Seat.{Seat}
use Rattle.patterns.proofs.OwnerLemmas.{listed_fits, owner_listed, nobody_listed, list_is_full, list_has_room, listed, told_suit}
use Rattle.patterns.proofs.suit_words.SuitWord.of_layout.Goals as goal
use Rattle.patterns.proofs.suit_words.SuitWord.of_layout.Goals.{then-len-depth+in-Some, then-len-depth+in_default, else-len-depth}

pub push-requires : goal.push-requires
push-requires c =
    (omega arith, list_has_room c.holdings-words.result c.args.depth c.loop-above.above c.loop-above.owners.items c.loop-above-test.true c.loop-above.invariant)

pub loop-above-preserved : goal.loop-above-preserved
loop-above-preserved c =
    let words = c.holdings-words.result in
    let n = c.loop-above.above in
    let owners = c.loop-above.owners.items in
    let depth = c.args.depth in
    let step = c.loop-above-test.true in
    elim c.if-len-depth.branch [
      | then-len-depth+in-Some w ↦
          (ap (λ (v : ArrayVec Seat). v.items) w.owners-is
          ∙ (w.push.ensures.items ∙ owner_listed words depth n owners w.in-Some.seat step c.loop-above.invariant
          (rw (← c.len.ensures.value) w.if-len-depth.true) (sym w.holder_by_words.ensures ∙ w.in-Some.is)))
      | then-len-depth+in_default w ↦
          (ap (λ (v : ArrayVec Seat). v.items) w.owners-is ∙ nobody_listed words depth n owners step c.loop-above.invariant (sym w.holder_by_words.ensures ∙ w.in_default.is))
      | else-len-depth w ↦
          (ap (λ (v : ArrayVec Seat). v.items) w.owners-is ∙ list_is_full words depth n owners step c.loop-above.invariant (rw (← c.len.ensures.value) w.if-len-depth.false))
    ]

pub returns : goal.returns
returns c =
    c.of_part.ensures
    ∙ told_suit c.holdings-words.result c.args.layout.now c.args.suit c.args.depth c.loop-above.owners.items c.holdings-words.ensures
    (listed c.holdings-words.result c.args.depth c.loop-above.above c.loop-above.owners.items (omega (arith, c.loop-above.auto.above-end)) c.loop-above.invariant)

pub of_part-requires : goal.of_part-requires
of_part-requires c =
    let words = c.holdings-words.result in
    let few : (seat : Seat) → count_ones (slice_index words (seat_number seat)) ≤ 13 = λ seat. ones-le 13 _ (c.holdings-words.ensures.below seat) in
    record {
      four = refl;
      lens = for_each_seat (λ seat. slice_index (count_ones (slice_index words 0) ∷ count_ones (slice_index words 1) ∷ count_ones (slice_index words 2) ∷ count_ones (slice_index words 3) ∷ []) (seat_number seat) < 16)
          (omega (arith, few North)) (omega (arith, few East)) (omega (arith, few South)) (omega (arith, few West));
      within = listed_fits words c.args.depth c.loop-above.above c.loop-above.owners.items (omega (arith, c.loop-above.auto.above-end)) c.loop-above.invariant;
    }
