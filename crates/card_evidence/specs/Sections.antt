-- A section: a trick in progress, claims for the cards that may come next, and a graph of each side.
use Rattle.std.specs.Prelude.{◌≡◌, ◌≢◌, ◌≤◌, List, [], length, ⊤, Option, None, Some, Result, Ok, Err}
use Rattle.std.specs.List.{AllByRecursion}
use Rattle.cards.specs.declared.seats.Side.TheVariants.{NorthSouth, EastWest}
use Rattle.play_rules.specs.Position.{Position}
use Rattle.card_values.specs.Tricks.{IsInProgress}
use Rattle.certificate_graph.specs.Graphs.{GraphShape, IsNode, greatest_count}
use Rattle.certificate_graph.specs.declared.nodes.Node.{Node}
use Rattle.certificate_graph.specs.declared.card_claims.CardBundle.{CardBundle}
use Rattle.certificate_graph.specs.declared.card_claims.CardClaim.{CardClaim}
use Rattle.evidence.specs.Sections.{IsGraphOf}

pub record CardSectionShape : Type 0 where
  pub position : Position
  pub claims : List CardClaim
  pub ns : GraphShape
  pub ew : GraphShape

-- a node that the largest graph could have, or none
abbrev pub IsBegun : Option Node → Type 0
IsBegun None = ⊤
IsBegun (Some node) = IsNode greatest_count node

-- at most 13 tricks, and two begun nodes
pub record IsKeptClaim (claim : CardClaim) : Type 0 where
  pub few : claim.tricks ≤ 13
  pub player : IsBegun claim.player
  pub others : IsBegun claim.others

-- 1 to 13 claims
pub record AreKeptClaims (claims : List CardClaim) : Type 0 where
  pub some : claims ≢ []
  pub few : length claims ≤ 13
  pub each : AllByRecursion IsKeptClaim claims

-- a trick in progress, 1 to 13 claims, and a graph of each side with the trump of the trick
pub record IsCardSection (section : CardSectionShape) : Type 0 where
  pub progress : IsInProgress section.position
  pub claims_are : AreKeptClaims section.claims
  pub ns_is : IsGraphOf section.position.opening.trump NorthSouth section.ns
  pub ew_is : IsGraphOf section.position.opening.trump EastWest section.ew

-- what a trick in progress and a bundle are together
abbrev pub shape_of : Position → CardBundle → CardSectionShape
shape_of position bundle =
    record { position = position; claims = bundle.claims.items; ns = bundle.ns.value; ew = bundle.ew.value }

-- their section, or the bundle again if they are none
abbrev pub MakesCardSection : Position → CardBundle → Result CardSectionShape CardBundle → Type 0
MakesCardSection position bundle (Ok section) = (section ≡ shape_of position bundle) × IsCardSection section
MakesCardSection position bundle (Err back) = (back ≡ bundle) × (IsCardSection (shape_of position bundle) → ⊥)
