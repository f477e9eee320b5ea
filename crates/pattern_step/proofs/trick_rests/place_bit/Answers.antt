use Rattle.pattern_step.proofs.TrickBitLaws.{top_bit}
use Rattle.pattern_step.proofs.trick_rests.place_bit.Goals as goal

pub returns-in-Top : goal.returns-in-Top
returns-in-Top c = λ suit place near. top_bit c.args.card c.in-Top.suit suit c.number.result c.in-Top.place c.min.result place c.in-Top.is c.number.ensures.place c.min.ensures near
