-- The cards with claims among the first cards that may be played.
use Rattle.std.proofs.Common.{◌≡◌, ◌≢◌, ℕ, zero, suc, ◌+◌, ◌<◌, ◌≤◌, List, [], ◌∷◌, ◌++◌, length, take, get_or, All, Contains, None, ◌⊎◌, inl, inr, sym, subst, arith, length-append}
use Rattle.std.proofs.lemmas.List.{map-append, take_more}
use Rattle.std.proofs.lemmas.List.Elements.{All-push, Contains-get_or, Contains-append_left, Contains-push, Contains-push_cases}
use Rattle.cards.specs.declared.pack.Card.{Card}
use Rattle.play_rules.specs.Position.{Position, AreInOrder, AreLegalCards, listed_place}
use Rattle.play_rules.proofs.HoldingLaws.{AreInOrder-push}
use Rattle.certificate_graph.specs.declared.card_claims.CardClaim.{CardClaim}
use Rattle.card_values.specs.declared.claims.CardGraphs.{CardGraphs}
use Rattle.card_values.specs.declared.values.CardValue.{CardValue}
use Rattle.card_values.specs.CardValues.{cards_of}
use Rattle.card_values.specs.Judging.{claim_for}
use Rattle.best_cards.specs.Judging.{IsShownCard, AreShownCards}

-- a card comes after those before it in the list
pub come_earlier : (cards : List Card) (place : ℕ) (default : Card) → AreInOrder cards → place < length cards → (card : Card) → Contains (take place cards) card → listed_place card < listed_place (get_or cards place default)
come_earlier [] place default order less card h = absurd (omega (arith, less))
come_earlier (first ∷ rest) zero default order less card h = absurd (omega (arith, h.1))
come_earlier (first ∷ rest) (suc place) default order less card (zero, within, is) =
    let later = order.0 (get_or rest place default) (Contains-get_or rest place default (omega (arith, less))) in
    subst (λ (c : Card). listed_place c < listed_place (get_or rest place default)) is later
come_earlier (first ∷ rest) (suc place) default order less card (suc k, within, is) =
    come_earlier rest place default order.1 (omega (arith, less)) card (k, omega (arith, within), is)

-- the values are those of the cards with claims among these cards
pub record SoFar (position : Position) (graphs : CardGraphs) (claims : List CardClaim) (tricks : ℕ) (cards : List Card) (values : List CardValue) : Type 0 where
  pub each : All (IsShownCard position graphs claims tricks) values
  pub all : (card : Card) → Contains cards card → claim_for claims card ≢ None → Contains (cards_of values) card
  pub listed : (card : Card) → Contains (cards_of values) card → Contains cards card
  pub in_order : AreInOrder (cards_of values)
  pub few : length values ≤ length cards

cards_pushed : (values : List CardValue) (value : CardValue) → cards_of (values ++ value ∷ []) ≡ cards_of values ++ value.card ∷ []
cards_pushed values value = map-append (λ (v : CardValue). v.card) values (value ∷ [])

-- one more card, which has a claim
pub one_more : (position : Position) (graphs : CardGraphs) (claims : List CardClaim) (tricks : ℕ) (cards : List Card) (values : List CardValue) (value : CardValue) → SoFar position graphs claims tricks cards values →
    IsShownCard position graphs claims tricks value → ((card : Card) → Contains cards card → listed_place card < listed_place value.card) → SoFar position graphs claims tricks (cards ++ value.card ∷ []) (values ++ value ∷ [])
one_more position graphs claims tricks cards values value so reached later = record {
  each = All-push (IsShownCard position graphs claims tricks) values value so.each reached;
  all = λ card h some. subst (λ (l : List Card). Contains l card) (sym (cards_pushed values value)) (of_all card some (Contains-push_cases cards value.card card h));
  listed = λ card h. of_listed card (Contains-push_cases (cards_of values) value.card card (subst (λ (l : List Card). Contains l card) (cards_pushed values value) h));
  in_order = subst (λ (l : List Card). AreInOrder l) (sym (cards_pushed values value)) (AreInOrder-push (cards_of values) value.card so.in_order (λ other h. later other (so.listed other h)));
  few = omega (arith, so.few, length-append values (value ∷ []), length-append cards (value.card ∷ []));
}
  where
    of_all : (card : Card) → claim_for claims card ≢ None → Contains cards card ⊎ (value.card ≡ card) → Contains (cards_of values ++ value.card ∷ []) card
    of_all card some (inl before) = Contains-append_left (cards_of values) (value.card ∷ []) card (so.all card before some)
    of_all card some (inr same) = subst (λ (c : Card). Contains (cards_of values ++ value.card ∷ []) c) same (Contains-push (cards_of values) value.card)

    of_listed : (card : Card) → Contains (cards_of values) card ⊎ (value.card ≡ card) → Contains (cards ++ value.card ∷ []) card
    of_listed card (inl before) = Contains-append_left cards (value.card ∷ []) card (so.listed card before)
    of_listed card (inr same) = subst (λ (c : Card). Contains (cards ++ value.card ∷ []) c) same (Contains-push cards value.card)

-- one more card, which has no claim
pub one_without : (position : Position) (graphs : CardGraphs) (claims : List CardClaim) (tricks : ℕ) (cards : List Card) (values : List CardValue) (card : Card) → SoFar position graphs claims tricks cards values → claim_for claims card ≡ None →
    SoFar position graphs claims tricks (cards ++ card ∷ []) values
one_without position graphs claims tricks cards values card so none = record {
  each = so.each;
  all = λ other h some. of_all other some (Contains-push_cases cards card other h);
  listed = λ other h. Contains-append_left cards (card ∷ []) other (so.listed other h);
  in_order = so.in_order;
  few = omega (arith, so.few, length-append cards (card ∷ []));
}
  where
    of_all : (other : Card) → claim_for claims other ≢ None → Contains cards other ⊎ (card ≡ other) → Contains (cards_of values) other
    of_all other some (inl before) = so.all other before some
    of_all other some (inr same) = absurd (some (subst (λ (c : Card). claim_for claims c ≡ None) same none))

-- the next of the cards that may be played has a claim
pub next_claimed : (position : Position) (graphs : CardGraphs) (claims : List CardClaim) (tricks : ℕ) (cards : List Card) (place : ℕ) (default : Card) (values more : List CardValue) → AreInOrder cards → place < length cards → SoFar position graphs claims tricks (take place cards) values →
    IsShownCard position graphs claims tricks (record { card = get_or cards place default; tricks = tricks }) → more ≡ values ++ (record { card = get_or cards place default; tricks = tricks }) ∷ [] → SoFar position graphs claims tricks (take (place + 1) cards) more
next_claimed position graphs claims tricks cards place default values more order less so reached is =
    let value : CardValue = record { card = get_or cards place default; tricks = tricks } in
    subst (λ (l : List CardValue). SoFar position graphs claims tricks (take (place + 1) cards) l) (sym is)
    (subst (λ (l : List Card). SoFar position graphs claims tricks l (values ++ value ∷ [])) (sym (take_more cards place default less))
    (one_more position graphs claims tricks (take place cards) values value so reached (come_earlier cards place default order less)))

-- the next of them has none
pub next_unclaimed : (position : Position) (graphs : CardGraphs) (claims : List CardClaim) (tricks : ℕ) (cards : List Card) (place : ℕ) (default : Card) (values : List CardValue) → place < length cards → SoFar position graphs claims tricks (take place cards) values →
    claim_for claims (get_or cards place default) ≡ None → SoFar position graphs claims tricks (take (place + 1) cards) values
next_unclaimed position graphs claims tricks cards place default values less so none =
    subst (λ (l : List Card). SoFar position graphs claims tricks l values) (sym (take_more cards place default less))
    (one_without position graphs claims tricks (take place cards) values (get_or cards place default) so none)

-- after the last card
pub all_reached : (position : Position) (graphs : CardGraphs) (claims : List CardClaim) (tricks : ℕ) (cards : List Card) (values : List CardValue) → AreLegalCards position cards → SoFar position graphs claims tricks cards values → AreShownCards position graphs claims tricks values
all_reached position graphs claims tricks cards values legal so = record {
  each = so.each;
  all = λ card can some. so.all card (legal.all card can) some;
  in_order = so.in_order;
}
