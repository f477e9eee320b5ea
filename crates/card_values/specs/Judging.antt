-- When claims show the values of all cards that may be played, and what is wrong of them otherwise.
use Rattle.std.specs.Prelude.{◌≡◌, ℕ, ◌-◌, ◌<◌, ◌≤◌, List, [], ◌∷◌, ◌++◌, Option, None, Some, find, nat_eq, Bool}
use Rattle.cards.specs.declared.seats.Side.{Side}
use Rattle.cards.specs.declared.seats.Side.TheVariants.{NorthSouth, EastWest}
use Rattle.cards.specs.declared.pack.Card.{Card}
use Rattle.cards.specs.Pack.{card_number}
use Rattle.cards.specs.Seats.{other_side}
use Rattle.cards.specs.Deal.{size_of}
use Rattle.play_rules.specs.Legal.{CanPlay}
use Rattle.play_rules.specs.Position.{Position}
use Rattle.certificate_graph.specs.Graphs.{GraphShape}
use Rattle.certificate_graph.specs.declared.card_claims.CardClaim.{CardClaim}
use Rattle.checker.specs.ValuesAfter.{side_to_play}
use Rattle.card_values.specs.declared.claims.CardGraphs.{CardGraphs}
use Rattle.card_values.specs.declared.faults.CardFault.{CardFault}
use Rattle.card_values.specs.declared.faults.CardFault.TheVariants.{ClaimMissing, TricksTooLarge, Player, Others}
use Rattle.card_values.specs.declared.values.CardValue.{CardValue}
use Rattle.card_values.specs.AfterClaims.{AfterClaim, ShowsAfter, IsAfterFault}
use Rattle.card_values.specs.CardValues.{IsCardValue}

-- the graph of a side
abbrev pub graph_in : CardGraphs → Side → GraphShape
graph_in graphs NorthSouth = graphs.ns.now
graph_in graphs EastWest = graphs.ew.now

-- ---- one card
-- the side of the seat that plays the card wins this many tricks after it
abbrev pub player_claim : Position → Card → ℕ → AfterClaim
player_claim position card tricks =
    record {
      opening = position.opening;
      history = position.history ++ card ∷ [];
      side = side_to_play position.opening position.history;
      need = tricks;
    }

-- the other side wins the others
abbrev pub others_claim : Position → Card → ℕ → AfterClaim
others_claim position card tricks =
    record {
      opening = position.opening;
      history = position.history ++ card ∷ [];
      side = other_side (side_to_play position.opening position.history);
      need = size_of position.opening.deal - tricks;
    }

-- the graph of the side that makes a claim
abbrev pub graph_for : CardGraphs → AfterClaim → GraphShape
graph_for graphs claim = graph_in graphs claim.side

-- The claim is shown: both sides' begun nodes show what it says.
pub record IsShownClaim (position : Position) (graphs : CardGraphs) (claim : CardClaim) : Type 0 where
  pub within : claim.tricks ≤ size_of position.opening.deal
  pub player_wins : ShowsAfter (graph_for graphs (player_claim position claim.card claim.tricks))
      (player_claim position claim.card claim.tricks) claim.player
  pub others_win : ShowsAfter (graph_for graphs (others_claim position claim.card claim.tricks))
      (others_claim position claim.card claim.tricks) claim.others

-- a fault that a claim has
abbrev pub IsClaimFault : Position → CardGraphs → CardClaim → CardFault → Type 0
IsClaimFault position graphs claim (ClaimMissing card) = ⊥
IsClaimFault position graphs claim (TricksTooLarge card) =
    (card ≡ claim.card) × (size_of position.opening.deal < claim.tricks)
IsClaimFault position graphs claim (Player card fault) =
    (card ≡ claim.card)
    × IsAfterFault (graph_for graphs (player_claim position claim.card claim.tricks))
    (player_claim position claim.card claim.tricks) claim.player fault
IsClaimFault position graphs claim (Others card fault) =
    (card ≡ claim.card)
    × IsAfterFault (graph_for graphs (others_claim position claim.card claim.tricks))
    (others_claim position claim.card claim.tricks) claim.others fault

-- ---- all cards
abbrev pub is_for : Card → CardClaim → Bool
is_for card claim = nat_eq (card_number claim.card) (card_number card)

-- the first claim for a card
abbrev pub claim_for : List CardClaim → Card → Option CardClaim
claim_for claims card = find (is_for card) claims

-- the first claim for the card of a value is shown, and claims its tricks
pub record IsClaimed (position : Position) (graphs : CardGraphs) (claims : List CardClaim) (value : CardValue)
    : Type 0 where
  pub claim : CardClaim
  pub first : claim_for claims value.card ≡ Some claim
  pub tricks : claim.tricks ≡ value.tricks
  pub shown : IsShownClaim position graphs claim

-- a card that may be played has no claim, or its first claim has this fault
abbrev pub IsCardFault : Position → CardGraphs → List CardClaim → CardFault → Type 0
IsCardFault position graphs claims (ClaimMissing card) =
    CanPlay position.opening position.history card × (claim_for claims card ≡ None)
IsCardFault position graphs claims fault =
    (card : Card) × (claim : CardClaim) × CanPlay position.opening position.history card
    × (claim_for claims card ≡ Some claim) × IsClaimFault position graphs claim fault

-- the value that the first claim for the card shows
pub record IsValueOf (position : Position) (graphs : CardGraphs) (claims : List CardClaim) (card : Card)
    (value : CardValue) : Type 0 where
  pub card_is : value.card ≡ card
  pub claimed : IsClaimed position graphs claims value
  pub value_is : IsCardValue position.opening position.history value.card value.tricks
