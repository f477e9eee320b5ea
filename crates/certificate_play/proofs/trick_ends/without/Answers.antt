use Rattle.std.proofs.Common.{refl}
use Rattle.play_rules.specs.Left.{left_of, without}
use Rattle.certificate_play.proofs.trick_ends.without.Goals as goal

pub returns : goal.returns
unfolding left_of without
returns c = rw (c.number.ensures.place, c.number-2.ensures.place, c.number-3.ensures.place, c.number-4.ensures.place) refl
