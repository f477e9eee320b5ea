-- The values so far are those of the cards so far, as the claims say.
use Rattle.std.proofs.Common.{◌≡◌, take, All}
use Rattle.card_values.specs.CardValues.{IsCardValue, cards_of}
use Rattle.card_values.specs.Judging.{IsClaimed}
use Rattle.card_values.proofs.judging.judge_cards.Given as goal

abbrev pub invariant-loop-card : goal.invariant-loop-card
invariant-loop-card l = record {
  cards : cards_of l.values.items ≡ take l.card-index l.card-items;
  claimed : All (IsClaimed l.trick l.graphs l.claims) l.values.items;
  each : All (λ value. IsCardValue l.trick.opening l.trick.history value.card value.tricks) l.values.items;
}
