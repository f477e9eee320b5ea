use Rattle.pattern_step.proofs.TrickBitLaws.{any_of_four}
use Rattle.pattern_step.proofs.trick_rests.trick_places.Goals as goal

pub returns : goal.returns
returns c = λ suit place near.
    any_of_four c.place_bit.result c.place_bit-2.result c.place_bit-3.result c.place_bit-4.result c.args.cards.now suit place c.told-cards
    (c.place_bit.ensures suit place near) (c.place_bit-2.ensures suit place near) (c.place_bit-3.ensures suit place near) (c.place_bit-4.ensures suit place near)
