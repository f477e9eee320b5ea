use Rattle.pattern_step.proofs.TrickBitLaws.{played_in_order}
use Rattle.pattern_step.proofs.trick_rests.trick_lens.Goals as goal

pub returns : goal.returns
returns c =
    played_in_order c.args.leader c.next-second.result c.next-third.result c.next.result c.card_lens.result c.card_lens-2.result c.card_lens-3.result c.card_lens-4.result
    c.args.cards.now c.next-second.ensures c.next-third.ensures c.next.ensures c.card_lens.ensures c.card_lens-2.ensures c.card_lens-3.ensures c.card_lens-4.ensures
