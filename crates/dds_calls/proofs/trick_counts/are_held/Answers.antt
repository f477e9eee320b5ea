-- One more card is in no hand.
use Rattle.std.proofs.Common.{◌<◌, length, sym, arith, below_more}
use Rattle.std.proofs.lemmas.List.{get_or_default}
use Rattle.dds_calls.proofs.CountLaws.{none_held}
use Rattle.dds_calls.proofs.trick_counts.are_held.Goals as goal

pub loop-card-preserved : goal.loop-card-preserved
loop-card-preserved c =
    let within : c.loop-card.card-index < length c.args.cards.now = omega (arith, c.loop-card-test.true) in
    below_more _ _ c.loop-card.invariant
    (λ other seat h. none_held c.args.words.now c.number.result _ _ c.number.ensures.place
    (get_or_default c.args.cards.now c.loop-card.card-index _ other within) (sym c.in_default.ensures) seat h)
