use Rattle.cards.specs.declared.suits.Suit.TheVariants.{Spades, Hearts, Diamonds, Clubs}
use Rattle.patterns.proofs.SeatLaws.{for_each_suit}
use Rattle.patterns.specs.Words.{shape_with}
use Rattle.pattern_step.specs.Tricks.{IsLeft}
use Rattle.pattern_step.proofs.TrickLaws.{IsRest-left}
use Rattle.pattern_step.proofs.TrickBitLaws.{is_left_of}
use Rattle.pattern_step.proofs.trick_rests.rest.Goals as goal
use Rattle.pattern_step.proofs.trick_rests.rest.Goals.{After-left-4}

-- what is left of the four suits
four_left : (c : After-left-4) → IsLeft c.args.pattern.now c.args.leader c.args.cards.now (shape_with c.left.result c.left-2.result c.left-3.result c.left-4.result)
four_left c = for_each_suit _
    (is_left_of c.args.pattern.now c.args.leader c.args.cards.now Spades c.suit.result c.left.result _ _ c.invariant.ensures c.suit.ensures (c.trick_lens-lens.ensures Spades) (c.trick_places-places.ensures Spades)
    c.left.ensures.four c.left.ensures.lens c.left.ensures.owners)
    (is_left_of c.args.pattern.now c.args.leader c.args.cards.now Hearts c.suit-2.result c.left-2.result _ _ c.invariant.ensures c.suit-2.ensures (c.trick_lens-lens.ensures Hearts) (c.trick_places-places.ensures Hearts)
    c.left-2.ensures.four c.left-2.ensures.lens c.left-2.ensures.owners)
    (is_left_of c.args.pattern.now c.args.leader c.args.cards.now Diamonds c.suit-3.result c.left-3.result _ _ c.invariant.ensures c.suit-3.ensures (c.trick_lens-lens.ensures Diamonds) (c.trick_places-places.ensures Diamonds)
    c.left-3.ensures.four c.left-3.ensures.lens c.left-3.ensures.owners)
    (is_left_of c.args.pattern.now c.args.leader c.args.cards.now Clubs c.suit-4.result c.left-4.result _ _ c.invariant.ensures c.suit-4.ensures (c.trick_lens-lens.ensures Clubs) (c.trick_places-places.ensures Clubs)
    c.left-4.ensures.four c.left-4.ensures.lens c.left-4.ensures.owners)

pub of_suits-requires : goal.of_suits-requires
of_suits-requires c = IsRest-left c.args.pattern.now c.args.leader c.args.cards.now _ c.told-cards c.invariant.ensures c.requires (four_left c)

pub returns : goal.returns
returns c = rw c.of_suits.ensures (for_each_suit _
    (is_left_of c.args.pattern.now c.args.leader c.args.cards.now Spades c.suit.result c.left.result _ _ c.invariant.ensures c.suit.ensures (c.trick_lens-lens.ensures Spades) (c.trick_places-places.ensures Spades)
    c.left.ensures.four c.left.ensures.lens c.left.ensures.owners)
    (is_left_of c.args.pattern.now c.args.leader c.args.cards.now Hearts c.suit-2.result c.left-2.result _ _ c.invariant.ensures c.suit-2.ensures (c.trick_lens-lens.ensures Hearts) (c.trick_places-places.ensures Hearts)
    c.left-2.ensures.four c.left-2.ensures.lens c.left-2.ensures.owners)
    (is_left_of c.args.pattern.now c.args.leader c.args.cards.now Diamonds c.suit-3.result c.left-3.result _ _ c.invariant.ensures c.suit-3.ensures (c.trick_lens-lens.ensures Diamonds) (c.trick_places-places.ensures Diamonds)
    c.left-3.ensures.four c.left-3.ensures.lens c.left-3.ensures.owners)
    (is_left_of c.args.pattern.now c.args.leader c.args.cards.now Clubs c.suit-4.result c.left-4.result _ _ c.invariant.ensures c.suit-4.ensures (c.trick_lens-lens.ensures Clubs) (c.trick_places-places.ensures Clubs)
    c.left-4.ensures.four c.left-4.ensures.lens c.left-4.ensures.owners))
