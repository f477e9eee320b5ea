-- The cards so far have gone out.
use Rattle.std.proofs.Common.{◌∷◌, take}
use Rattle.std.specs.List.{flat_map}
use Rattle.cards.specs.Devices.{Adds}
use Rattle.cards.specs.CardTexts.{card_text}
use Rattle.cards.proofs.card_texts.write_cards.Given as goal

abbrev pub invariant-loop-card : goal.invariant-loop-card
invariant-loop-card g l =
    Adds (g.S.Sink.state l.fn.output) (g.S.Sink.state l.output) (flat_map (λ card. 32 ∷ card_text card) (take l.card-index l.cards))
