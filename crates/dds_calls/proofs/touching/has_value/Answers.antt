-- The card of none of the values is the card.
use Rattle.std.proofs.Common.{◌≡◌, refl, arith}
use Rattle.std.proofs.lemmas.List.Elements.{All-contains, All-map}
use Rattle.cards.specs.declared.pack.Card.{Card}
use Rattle.card_values.specs.declared.values.CardValue.{CardValue}
use Rattle.card_values.specs.CardValues.{cards_of}
use Rattle.dds_calls.proofs.touching.has_value.Goals as goal

pub returns : goal.returns
returns c =
    let values = c.args.values.now in
    let Other : Card → Type 0 = λ card. card ≡ c.args.card → ⊥ in
    let none = All-map Other (λ (v : CardValue). v.card) values (λ k d within. c.loop-value.invariant k (omega (arith, within, c.loop-value-test.false)) d) in
    λ listed. All-contains Other (cards_of values) c.args.card none listed refl
