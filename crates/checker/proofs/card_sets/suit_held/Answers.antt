use Rattle.std.proofs.Common.{ap, arith}
use Rattle.patterns.specs.Shapes.{SuitShape, len_of}
use Rattle.checker.proofs.SuitSetLaws.{void_told}
use Rattle.checker.proofs.card_sets.suit_held.Goals as goal

pub returns-then-len-eq0 : goal.returns-then-len-eq0
returns-then-len-eq0 c =
    void_told c.args.pattern.now c.invariant.ensures c.args.suit c.args.seat
    (omega (arith, c.len.ensures.len, c.if-len-eq0.true, ap (λ (held : SuitShape). len_of held c.args.seat) c.suit-held.ensures))
