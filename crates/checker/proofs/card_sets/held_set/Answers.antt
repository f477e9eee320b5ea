use Rattle.std.proofs.Common.{arith}
use Rattle.checker.proofs.SuitSetLaws.{held_told}
use Rattle.checker.proofs.card_sets.held_set.Goals as goal

pub returns : goal.returns
returns c =
    held_told c.args.pattern.now c.invariant.ensures c.args.seat c.suit_held.result c.suit_held-2.result c.suit_held-3.result c.suit_held-4.result _
    c.suit_held.type_inv c.suit_held-2.type_inv c.suit_held-3.type_inv c.suit_held-4.type_inv
    (omega (arith, c.from.ensures, c.from-2.ensures, c.from-3.ensures, c.from-4.ensures, c.suit_held.type_inv, c.suit_held-2.type_inv, c.suit_held-3.type_inv, c.suit_held-4.type_inv))
    c.suit_held.ensures c.suit_held-2.ensures c.suit_held-3.ensures c.suit_held-4.ensures
