use Rattle.std.proofs.Common.{◌*◌, ◌%◌, ◌^◌, ap, arith}
use Rattle.checker.proofs.SuitSetLaws.{led_told}
use Rattle.checker.proofs.card_sets.legal_set.Goals as goal

pub returns : goal.returns
returns c =
    led_told c.args.pattern.now c.invariant.ensures c.args.seat c.args.led c.in-Some.suit c.suit.result c.number.result c.suit_set.result _ c.in-Some.is (omega (arith, c.len.ensures, c.if-len-eq0.false))
    c.suit.ensures c.number.ensures.place c.suit_set.type_inv (ap (λ set. set * 2 ^ (16 * c.number.result) % 2 ^ 64) c.from.ensures) c.suit_set.ensures
