-- A section of evidence: a deal, a denomination, claims for declarers of it, and a graph of each side.
use Rattle.std.specs.Prelude.{◌≡◌, ◌≢◌, ℕ, ◌+◌, ◌<◌, ◌≤◌, List, [], ◌∷◌, ◌++◌, ⊤, Result, Ok, Err}
use Rattle.std.specs.Prelude.{Option, None, Some, option_to_list}
use Rattle.cards.specs.declared.seats.Seat.TheVariants.{North, East, South, West}
use Rattle.cards.specs.declared.seats.Side.{Side}
use Rattle.cards.specs.declared.seats.Side.TheVariants.{NorthSouth, EastWest}
use Rattle.cards.specs.declared.suits.Trump.{Trump}
use Rattle.cards.specs.Seats.{seat_number}
use Rattle.cards.specs.Deal.{Deal, IsLayout}
use Rattle.certificate_graph.specs.Graphs.{GraphShape, IsGraph, greatest_count}
use Rattle.certificate_graph.specs.Bundles.{claim_for}
use Rattle.certificate_graph.specs.declared.bundles.Bundle.{Bundle}
use Rattle.certificate_graph.specs.declared.bundles.Claim.{Claim}

pub record SectionShape : Type 0 where
  pub deal : Deal
  pub trump : Trump
  pub claims : List Claim
  pub ns : GraphShape
  pub ew : GraphShape

-- ---- claims
-- the root can be a node's number, if there is one
abbrev pub IsRoot : Option ℕ → Type 0
IsRoot None = ⊤
IsRoot (Some number) = number < greatest_count

-- at most 13 tricks, and two roots
pub record IsClaim (claim : Claim) : Type 0 where
  pub few : claim.k ≤ 13
  pub declarer_root : IsRoot claim.declarer_root
  pub defenders_root : IsRoot claim.defenders_root

-- claims whose declarers rise in the order North, East, South, West, from this number on: so each has one at most
abbrev pub AreClaims : ℕ → List Claim → Type 0
AreClaims least [] = ⊤
AreClaims least (claim ∷ more) =
    (least ≤ seat_number claim.declarer) × IsClaim claim × AreClaims (seat_number claim.declarer + 1) more

-- the first of some claims for each declarer, in this order
abbrev pub claims_in_order : List Claim → List Claim
claims_in_order claims =
    option_to_list (claim_for claims North) ++ (option_to_list (claim_for claims East)
    ++ (option_to_list (claim_for claims South) ++ option_to_list (claim_for claims West)))

-- ---- the whole
-- a graph of this side, with this trump
pub record IsGraphOf (trump : Trump) (side : Side) (shape : GraphShape) : Type 0 where
  pub graph : IsGraph shape
  pub trump_is : shape.trump ≡ trump
  pub side_is : shape.side ≡ side

-- one to four claims, of a layout in one denomination, and the graphs of both sides that are to show them
pub record IsSection (section : SectionShape) : Type 0 where
  pub layout : IsLayout section.deal
  pub some : section.claims ≢ []
  pub claims_are : AreClaims 0 section.claims
  pub ns_is : IsGraphOf section.trump NorthSouth section.ns
  pub ew_is : IsGraphOf section.trump EastWest section.ew

-- what a deal, a denomination and a bundle are together
abbrev pub shape_of : Deal → Trump → Bundle → SectionShape
shape_of deal trump bundle = record {
  deal = deal;
  trump = trump;
  claims = bundle.claims.items;
  ns = bundle.ns.value;
  ew = bundle.ew.value;
}

-- an answer as a section: its first claim for each declarer, in their order, and its graphs
abbrev pub kept_of : Deal → Trump → Bundle → SectionShape
kept_of deal trump bundle = record {
  deal = deal;
  trump = trump;
  claims = claims_in_order bundle.claims.items;
  ns = bundle.ns.value;
  ew = bundle.ew.value;
}

-- the section of them, or the bundle again where they are none
abbrev pub MakesSection : Deal → Trump → Bundle → Result SectionShape Bundle → Type 0
MakesSection deal trump bundle (Ok section) = (section ≡ shape_of deal trump bundle) × IsSection section
MakesSection deal trump bundle (Err back) = (back ≡ bundle) × (IsSection (shape_of deal trump bundle) → ⊥)
