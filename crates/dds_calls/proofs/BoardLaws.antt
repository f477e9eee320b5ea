-- The values of a position as the cards that may be chosen.
use Rattle.std.proofs.Common.{◌≡◌, ℕ, zero, suc, ◌*◌, ◌<◌, List, [], ◌∷◌, length, get_or, Some, All, ap, arith, Contains}
use Rattle.std.proofs.lemmas.List.{length-map}
use Rattle.std.proofs.lemmas.List.Elements.{All-contains, All-map, All-weaker}
use Rattle.cards.specs.declared.pack.Card.{Card}
use Rattle.cards.specs.Deal.{holder_of, size_of}
use Rattle.play_rules.specs.Legal.{seat_to_play}
use Rattle.play_rules.specs.Position.{Position, AreInOrder, IsReached}
use Rattle.play_rules.proofs.HoldingLaws.{length-le-count_of}
use Rattle.strategies.proofs.Counting.{some_card_to_play}
use Rattle.strategies.proofs.Deciding.{some_legal_card}
use Rattle.card_values.specs.declared.values.CardValue.{CardValue}
use Rattle.card_values.specs.CardValues.{AreCardValues, IsCardValue, cards_of}
use Rattle.card_values.specs.Tricks.{IsInProgress}
use Rattle.best_cards.specs.BestCards.{AreBestCards, IsBestCard}
use Rattle.dds_calls.specs.Lines.{AreChoices}

pub card_listed : (values : List CardValue) (value : CardValue) → Contains values value → Contains (cards_of values) value.card
card_listed values value h = go values h.0 h.1 h.2
  where
    go : (xs : List CardValue) (k : ℕ) → k < length xs → get_or xs k value ≡ value → Contains (cards_of xs) value.card
    go [] k less e = absurd (omega (arith, less))
    go (x ∷ xs) zero less e = (0, omega arith, ap (λ (v : CardValue). v.card) e)
    go (x ∷ xs) (suc k) less e = let rest = go xs k (omega (arith, less)) e in (suc rest.0, omega (arith, rest.1), rest.2)

-- the cards that may be played are the player's
pub held_card : (position : Position) (values : List CardValue) → AreCardValues position values → (card : Card) → Contains (cards_of values) card → holder_of position.opening.deal card ≡ Some (seat_to_play position.opening position.history)
held_card position values are card h = (are.cards.legal card h).held.dealt

-- values of the player's cards, in order, are cards that may be chosen
choices_of : (position : Position) (values : List CardValue) → IsReached position → AreInOrder (cards_of values)
    → ((card : Card) → Contains (cards_of values) card → holder_of position.opening.deal card ≡ Some (seat_to_play position.opening position.history))
    → All (λ (v : CardValue). IsCardValue position.opening position.history v.card v.tricks) values
    → AreChoices position.opening.deal (seat_to_play position.opening position.history) values
choices_of position values reached order held each =
    let player = seat_to_play position.opening position.history in
    let few = length-le-count_of position.opening.deal player (cards_of values) order held in
    record {
      held = λ value h. held value.card (card_listed values value h);
      in_order = order;
      few = omega (arith, few, reached.layout.equal_hands player, length-map values (λ (v : CardValue). v.card), reached.layout.at_most_13);
      within = λ value h.
          let is : IsCardValue position.opening position.history value.card value.tricks = All-contains (λ (v : CardValue). IsCardValue position.opening position.history v.card v.tricks) values value each h in
          omega (arith, is.within, reached.layout.at_most_13);
    }

pub are_choices : (position : Position) (values : List CardValue) → IsReached position → AreCardValues position values → AreChoices position.opening.deal (seat_to_play position.opening position.history) values
are_choices position values reached are = choices_of position values reached are.cards.in_order (held_card position values are) are.each

pub best_choices : (position : Position) (values : List CardValue) → IsReached position → AreBestCards position values → AreChoices position.opening.deal (seat_to_play position.opening position.history) values
best_choices position values reached are =
    let Held : Card → Type 0 = λ card. holder_of position.opening.deal card ≡ Some (seat_to_play position.opening position.history) in
    let Valued : CardValue → Type 0 = λ v. IsCardValue position.opening position.history v.card v.tricks in
    let held : All Held (cards_of values) = All-map Held (λ (v : CardValue). v.card) values (All-weaker (IsBestCard position are.best) (λ (v : CardValue). Held v.card) (λ v is. is.can.held.dealt) values are.each) in
    choices_of position values reached are.in_order (λ card h. All-contains Held (cards_of values) card held h) (All-weaker (IsBestCard position are.best) Valued (λ v is. is.value_is) values are.each)

-- some card may be played
pub some_value : (position : Position) (values : List CardValue) → IsInProgress position → AreCardValues position values → 0 < length values
some_value position values progress are =
    let opening = position.opening in
    let layout = progress.reached.layout in
    let more : length position.history < 4 * size_of opening.deal = omega (arith, progress.few, layout.some_cards) in
    let held = some_card_to_play opening.trump opening.deal opening.leader position.history (size_of opening.deal) layout.whole_pack layout.equal_hands progress.reached.legal more in
    let some = some_legal_card opening position.history held.0 held.1 in
    let listed = are.cards.all some.0 some.1 in
    omega (arith, listed.1, length-map values (λ (v : CardValue). v.card))
