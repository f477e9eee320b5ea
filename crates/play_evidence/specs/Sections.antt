-- A section: a play, what is claimed after each number of its first cards, and the nodes of each side.
use Rattle.std.specs.Prelude.{◌≡◌, ◌≤◌, List, length, ⊤, Option, None, Some}
use Rattle.std.specs.List.{AllByRecursion}
use Rattle.cards.specs.declared.pack.Card.{Card}
use Rattle.cards.specs.declared.seats.Seat.{Seat}
use Rattle.cards.specs.declared.seats.Side.{Side}
use Rattle.cards.specs.declared.seats.Side.TheVariants.{NorthSouth, EastWest}
use Rattle.cards.specs.declared.suits.Trump.{Trump}
use Rattle.cards.specs.Deal.{Deal, IsLayout}
use Rattle.certificate_graph.specs.Graphs.{GraphShape, IsNode, greatest_count}
use Rattle.certificate_graph.specs.declared.nodes.Node.{Node}
use Rattle.evidence.specs.Sections.{IsRoot, IsGraphOf}
use Rattle.play_claims.specs.declared.claims.PlayBundle.{PlayBundle}
use Rattle.play_claims.specs.declared.claims.PlayClaim.{PlayClaim}
use Rattle.play_claims.specs.declared.claims.PlayNodes.{PlayNodes}
use Rattle.play_evidence.specs.declared.sections.PlayContents.{PlayContents}

-- the graph of a side, and the begun nodes beside it
pub record NodesShape : Type 0 where
  pub graph : GraphShape
  pub begun : List Node

pub record PlaySectionShape : Type 0 where
  pub deal : Deal
  pub leader : Seat
  pub trump : Trump
  pub cards : List Card
  pub claims : List (Option PlayClaim)
  pub ns : NodesShape
  pub ew : NodesShape

-- ---- claims and nodes
-- at most 13 tricks, and two numbers of nodes
pub record IsNumbers (claim : PlayClaim) : Type 0 where
  pub few : claim.tricks ≤ 13
  pub ns : IsRoot claim.ns
  pub ew : IsRoot claim.ew

-- that, or nothing is claimed
abbrev pub IsKeptClaim : Option PlayClaim → Type 0
IsKeptClaim None = ⊤
IsKeptClaim (Some claim) = IsNumbers claim

-- a node that the largest graph could have
abbrev pub IsBegun : Node → Type 0
IsBegun = IsNode greatest_count

-- at most 53 of them, one for each number of first cards
pub record AreKept {X : Type 0} (Is : X → Type 0) (all : List X) : Type 0 where
  pub few : length all ≤ 53
  pub each : AllByRecursion Is all

-- a graph of this side, with this trump, and its begun nodes
pub record AreNodesOf (trump : Trump) (side : Side) (nodes : NodesShape) : Type 0 where
  pub graph_is : IsGraphOf trump side nodes.graph
  pub begun_are : AreKept IsBegun nodes.begun

-- ---- the whole
-- at most 52 cards, played from a layout in one denomination, at most 53 claims, and the nodes of both sides
pub record IsPlaySection (section : PlaySectionShape) : Type 0 where
  pub layout : IsLayout section.deal
  pub few : length section.cards ≤ 52
  pub claims_are : AreKept IsKeptClaim section.claims
  pub ns_are : AreNodesOf section.trump NorthSouth section.ns
  pub ew_are : AreNodesOf section.trump EastWest section.ew

-- the nodes of a side, as contracts see them
abbrev pub nodes_of : PlayNodes → NodesShape
nodes_of nodes = record { graph = nodes.graph.value; begun = nodes.begun.items }

-- what a play and a bundle are together
abbrev pub shape_of : Deal → Seat → Trump → List Card → PlayBundle → PlaySectionShape
shape_of deal leader trump cards bundle =
    record {
      deal = deal;
      leader = leader;
      trump = trump;
      cards = cards;
      claims = bundle.claims.items;
      ns = nodes_of bundle.ns;
      ew = nodes_of bundle.ew;
    }

-- the parts of a section, borrowed
abbrev pub parts_of : PlayContents → PlaySectionShape
parts_of contents =
    shape_of contents.layout.now contents.leader contents.trump contents.cards.now contents.bundle.now

-- the section of these parts, or that they are none
abbrev pub MakesPlaySection : PlaySectionShape → Option PlaySectionShape → Type 0
MakesPlaySection parts (Some section) = (section ≡ parts) × IsPlaySection section
MakesPlaySection parts None = IsPlaySection parts → ⊥
