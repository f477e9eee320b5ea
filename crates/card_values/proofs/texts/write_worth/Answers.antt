use Rattle.std.proofs.Common.{arith}
use Rattle.cards.specs.declared.pack.Rank.TheVariants.{Two}
use Rattle.cards.specs.declared.suits.Suit.TheVariants.{Spades}
use Rattle.cards.specs.Pack.{card_of}
use Rattle.cards.proofs.WriteLemmas.{AddsBeginning-piece, Writes-err}
use Rattle.card_values.specs.Texts.{card_if_worth, cards_worth}
use Rattle.card_values.proofs.texts.write_worth.Goals as goal

pub returns-in_err-write_if_worth : goal.returns-in_err-write_if_worth
unfolding cards_worth
returns-in_err-write_if_worth g c =
    Writes-err c.from_residual.result _ c.from_residual.ensures.1
    (AddsBeginning-piece (card_if_worth c.args.tricks) c.args.values.now c.loop-value.value-index (record { card = card_of Spades Two; tricks = 0 }) (omega arith) c.loop-value.invariant c.in_err-write_if_worth.ensures)
