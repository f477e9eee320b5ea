-- The answer of values that are shown of a position.
use Rattle.std.proofs.Common.{◌≡◌, ℕ, List, length, sym, subst}
use Rattle.cards.specs.declared.seats.Seat.{Seat}
use Rattle.cards.specs.declared.pack.Card.{Card}
use Rattle.cards.specs.Deal.{Deal}
use Rattle.play_rules.specs.Position.{Position, AreLegalCards}
use Rattle.card_values.specs.declared.values.CardValue.{CardValue}
use Rattle.card_values.specs.CardValues.{AreCardValues}
use Rattle.best_cards.specs.BestCards.{AreBestCards}
use Rattle.dds_calls.specs.declared.board_shapes.Ask.{Ask}
use Rattle.dds_calls.specs.declared.board_shapes.FutureTricks.{FutureTricks}
use Rattle.dds_calls.specs.declared.lines.Line.{Line}
use Rattle.dds_calls.specs.BoardAnswers.{AreAllGroups, AreBestGroups, AreTold, HaveGroups, player_of}
use Rattle.dds_calls.specs.Lines.{AreChoices, AreLines}
use Rattle.dds_calls.specs.Touching.{AllTouch, AreWhole, SomeApart}

-- ---- what a call was given is the position's
pub record AreOf (position : Position) (values : List CardValue) (deal : Deal) (player : Seat) (shown : List CardValue)
    : Type 0 where
  pub deal_is : deal ≡ position.opening.deal
  pub player_is : player ≡ player_of position
  pub values_are : shown ≡ values

module _ (position : Position) (values : List CardValue) (deal : Deal) (player : Seat) (shown : List CardValue) (are_of : AreOf position values deal player shown) where
  -- a fact of what was given is one of the position, and the other way round
  of_position : (P : Deal → Seat → List CardValue → Type 0) → P deal player shown → P position.opening.deal (player_of position) values
  of_position P h =
      subst (λ (xs : List CardValue). P position.opening.deal (player_of position) xs) are_of.values_are
      (subst (λ (s : Seat). P position.opening.deal s shown) are_of.player_is (subst (λ (d : Deal). P d player shown) are_of.deal_is h))

  pub choices_at : AreChoices position.opening.deal (player_of position) values → AreChoices deal player shown
  choices_at choices =
      subst (λ (d : Deal). AreChoices d player shown) (sym are_of.deal_is)
      (subst (λ (s : Seat). AreChoices position.opening.deal s shown) (sym are_of.player_is)
      (subst (λ (xs : List CardValue). AreChoices position.opening.deal (player_of position) xs) (sym are_of.values_are) choices))

  pub told_at : (ask : Ask) (left here groups : ℕ) (told : FutureTricks) → left ≡ here → AreTold ask left groups deal player shown told → AreTold ask here groups position.opening.deal (player_of position) values told
  told_at ask left here groups told e are =
      subst (λ (n : ℕ). AreTold ask n groups position.opening.deal (player_of position) values told) e
      (of_position (λ d s xs. AreTold ask left groups d s xs told) are)

  pub all_groups : (groups : ℕ) (lines : List Line) → AreCardValues position values → groups ≡ length lines → AreLines deal player shown 0 lines → AreAllGroups position values groups
  all_groups groups lines are count are_lines = record {
    are_values = are;
    lines = lines;
    are_lines = of_position (λ d s xs. AreLines d s xs 0 lines) are_lines;
    count = count;
  }

  pub best_groups : (cards : List Card) → AreBestCards position values → AreLegalCards position cards → AreWhole deal player shown cards → AreBestGroups position values
  best_groups cards are legal whole =
      let here : AreWhole position.opening.deal (player_of position) values cards = of_position (λ d s xs. AreWhole d s xs cards) whole in
      record {
        are_best = are;
        whole = λ value card listed can touch. here card (legal.all card can) (record { value = value; listed = listed; touch = touch });
      }

-- ---- groups of the cards that may be played
pub have_groups : (position : Position) (cards : List Card) (deal : Deal) (player : Seat) → deal ≡ position.opening.deal → player ≡ player_of position → AreLegalCards position cards → SomeApart deal player cards → HaveGroups position
have_groups position cards deal player deal_is player_is legal some =
    let here : SomeApart position.opening.deal (player_of position) cards = subst (λ (s : Seat). SomeApart position.opening.deal s cards) player_is (subst (λ (d : Deal). SomeApart d player cards) deal_is some) in
    record {
      one = here.one;
      other = here.other;
      can_one = legal.legal here.one here.has_one;
      can_other = legal.legal here.other here.has_other;
      apart = here.apart;
    }

pub one_group : (position : Position) (cards : List Card) (deal : Deal) (player : Seat) → deal ≡ position.opening.deal → player ≡ player_of position → AreLegalCards position cards → AllTouch deal player cards → HaveGroups position → ⊥
one_group position cards deal player deal_is player_is legal all have =
    let here : AllTouch position.opening.deal (player_of position) cards = subst (λ (s : Seat). AllTouch position.opening.deal s cards) player_is (subst (λ (d : Deal). AllTouch d player cards) deal_is all) in
    have.apart (here have.one have.other (legal.all have.one have.can_one) (legal.all have.other have.can_other))
