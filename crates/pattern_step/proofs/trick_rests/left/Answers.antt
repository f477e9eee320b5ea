use Rattle.std.proofs.Common.{◌-◌, List, ℕ, ◌∙◌, ap}
use Rattle.std.specs.Prelude.{slice_index}
use Rattle.cards.specs.Seats.{seat_number}
use Rattle.patterns.specs.Shapes.{len_of}
use Rattle.patterns.specs.Words.{suit_in}
use Rattle.pattern_step.proofs.TrickBitLaws.{suit_lens}
use Rattle.pattern_step.proofs.trick_rests.left.Goals as goal

pub returns-clause-lens : goal.returns-clause-lens
returns-clause-lens c = λ seat.
    ap (λ (lens : List ℕ). slice_index lens (seat_number seat)) c.without.ensures.lens
    ∙ (c.less.ensures.lens seat ∙ ap (λ n. len_of c.args.held seat - len_of (suit_in n) seat) (suit_lens c.args.lens c.number-from.result c.args.suit c.number-from.ensures.place))
