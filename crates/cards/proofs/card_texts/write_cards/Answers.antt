use Rattle.std.proofs.Common.{◌∷◌, arith}
use Rattle.cards.specs.declared.pack.Card.{Card}
use Rattle.cards.specs.declared.suits.Suit.TheVariants.{Spades}
use Rattle.cards.specs.declared.pack.Rank.TheVariants.{Two}
use Rattle.cards.specs.Pack.{card_of}
use Rattle.cards.proofs.WriteLemmas.{AddsBeginning-piece, Writes-err}
use Rattle.cards.specs.CardTexts.{card_text}
use Rattle.cards.proofs.card_texts.write_cards.Goals as goal

pub returns-in_err-write_card : goal.returns-in_err-write_card
returns-in_err-write_card g c =
    Writes-err c.from_residual.result _ c.from_residual.ensures.1
    (AddsBeginning-piece (λ (card : Card). 32 ∷ card_text card) c.args.cards.now c.loop-card.card-index (card_of Spades Two) (omega arith) c.loop-card.invariant c.in_err-write_card.ensures)
