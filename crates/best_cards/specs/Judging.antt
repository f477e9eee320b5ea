-- When claims show that cards lead to the most tricks, and what is wrong of them otherwise.
use Rattle.std.specs.Prelude.{◌≡◌, ◌≢◌, ℕ, ◌-◌, ◌<◌, ◌≤◌, List, ◌∷◌, All, Contains, Some, None}
use Rattle.cards.specs.declared.pack.Card.{Card}
use Rattle.cards.specs.Seats.{other_side}
use Rattle.cards.specs.Deal.{size_of}
use Rattle.play_rules.specs.Legal.{CanPlay}
use Rattle.play_rules.specs.Position.{Position, AreInOrder}
use Rattle.certificate_graph.specs.declared.card_claims.CardClaim.{CardClaim}
use Rattle.checker.specs.ValuesAfter.{side_to_play}
use Rattle.card_values.specs.declared.claims.CardGraphs.{CardGraphs}
use Rattle.card_values.specs.declared.values.CardValue.{CardValue}
use Rattle.card_values.specs.AfterClaims.{AfterClaim, ShowsAfter, IsAfterFault}
use Rattle.card_values.specs.CardValues.{cards_of}
use Rattle.card_values.specs.Judging.{claim_for, graph_for, player_claim}
use Rattle.best_cards.specs.declared.faults.BestFault.{BestFault}
use Rattle.best_cards.specs.declared.faults.BestFault.TheVariants.{NoClaim, TricksTooLarge, Player, Others}

-- ---- the side that is not to play
-- it wins the others of these tricks, whatever is played next
abbrev pub hold_claim : Position → ℕ → AfterClaim
hold_claim position tricks =
    record {
      opening = position.opening;
      history = position.history;
      side = other_side (side_to_play position.opening position.history);
      need = size_of position.opening.deal - tricks;
    }

-- the claim's tricks are not too many, and the side to play is held to them
pub record IsHeldTo (position : Position) (graphs : CardGraphs) (claim : CardClaim) : Type 0 where
  pub within : claim.tricks ≤ size_of position.opening.deal
  pub others_win : ShowsAfter (graph_for graphs (hold_claim position claim.tricks)) (hold_claim position claim.tricks)
      claim.others

-- the claim doesn't show it, for this reason
abbrev pub IsHoldFault : Position → CardGraphs → CardClaim → BestFault → Type 0
IsHoldFault position graphs claim NoClaim = ⊥
IsHoldFault position graphs claim TricksTooLarge = size_of position.opening.deal < claim.tricks
IsHoldFault position graphs claim (Player card fault) = ⊥
IsHoldFault position graphs claim (Others fault) =
    IsAfterFault (graph_for graphs (hold_claim position claim.tricks)) (hold_claim position claim.tricks) claim.others
    fault

-- ---- the side to play
-- the card may be played, and the first claim for it shows that the side to play wins this many tricks after it
pub record IsShownCard (position : Position) (graphs : CardGraphs) (claims : List CardClaim) (tricks : ℕ)
    (value : CardValue) : Type 0 where
  pub can : CanPlay position.opening position.history value.card
  pub claim : CardClaim
  pub first : claim_for claims value.card ≡ Some claim
  pub tricks_are : value.tricks ≡ tricks
  pub player_wins : ShowsAfter (graph_for graphs (player_claim position value.card tricks))
      (player_claim position value.card tricks) claim.player

-- this many tricks are reached with each card that has a claim and may be played, by suit and with ranks falling
pub record AreShownCards (position : Position) (graphs : CardGraphs) (claims : List CardClaim) (tricks : ℕ)
    (values : List CardValue) : Type 0 where
  pub each : All (IsShownCard position graphs claims tricks) values
  pub all : (card : Card) → CanPlay position.opening position.history card → claim_for claims card ≢ None
      → Contains (cards_of values) card
  pub in_order : AreInOrder (cards_of values)

-- the first claim for a card that may be played doesn't show it, for this reason
abbrev pub IsReachFault : Position → CardGraphs → List CardClaim → ℕ → BestFault → Type 0
IsReachFault position graphs claims tricks NoClaim = ⊥
IsReachFault position graphs claims tricks TricksTooLarge = ⊥
IsReachFault position graphs claims tricks (Player card fault) =
    (claim : CardClaim) × CanPlay position.opening position.history card × (claim_for claims card ≡ Some claim)
    × IsAfterFault (graph_for graphs (player_claim position card tricks)) (player_claim position card tricks)
    claim.player fault
IsReachFault position graphs claims tricks (Others fault) = ⊥

-- ---- both
-- The first claim names the tricks. The side to play is held to them, and reaches them with each card that has a claim
-- and may be played.
pub record AreShownBest (position : Position) (graphs : CardGraphs) (claims : List CardClaim)
    (values : List CardValue) : Type 0 where
  pub first : CardClaim
  pub rest : List CardClaim
  pub claims_are : claims ≡ first ∷ rest
  pub held : IsHeldTo position graphs first
  pub reached : AreShownCards position graphs claims first.tricks values

-- the first claim of a list has this property
abbrev pub OfFirst : List CardClaim → (CardClaim → Type 0) → Type 0
OfFirst claims P = (first : CardClaim) × (rest : List CardClaim) × (claims ≡ first ∷ rest) × P first

-- A fault that the claims have: no card that may be played has a claim, or the side to play is not held to the first
-- claim's tricks, or doesn't reach them with a card.
abbrev pub IsBestFault : Position → CardGraphs → List CardClaim → BestFault → Type 0
IsBestFault position graphs claims NoClaim =
    (card : Card) → CanPlay position.opening position.history card → claim_for claims card ≡ None
IsBestFault position graphs claims TricksTooLarge =
    OfFirst claims (λ first. IsHoldFault position graphs first TricksTooLarge)
IsBestFault position graphs claims (Player card fault) =
    OfFirst claims (λ first. IsReachFault position graphs claims first.tricks (Player card fault))
IsBestFault position graphs claims (Others fault) =
    OfFirst claims (λ first. IsHoldFault position graphs first (Others fault))
