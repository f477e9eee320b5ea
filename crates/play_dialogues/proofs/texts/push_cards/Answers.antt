use Rattle.std.proofs.Common.{◌∷◌}
use Rattle.std.specs.Prelude.{string_bytes}
use Rattle.cards.specs.declared.pack.Card.{Card}
use Rattle.cards.specs.CardTexts.{card_text}
use Rattle.play_dialogues.proofs.TextLaws.{pieces_done}
use Rattle.play_dialogues.proofs.texts.push_cards.Goals as goal

pub returns : goal.returns
returns c =
    pieces_done (λ (card : Card). 32 ∷ card_text card) c.args.cards.now c.loop-card.card-index (string_bytes c.args.text.now) (string_bytes c.loop-card.text) c.loop-card.invariant c.loop-card-test.false
