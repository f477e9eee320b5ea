-- The checked graphs of a bundle, and what is claimed of them.
use Rattle.std.specs.Prelude.{◌≡◌}
use Rattle.cards.specs.declared.seats.Side.{Side}
use Rattle.cards.specs.declared.seats.Side.TheVariants.{NorthSouth, EastWest}
use Rattle.cards.specs.Seats.{side_of, other_side}
use Rattle.certificate_graph.specs.Graphs.{GraphShape}
use Rattle.checker.specs.declared.claims.Claimed.{Claimed}
use Rattle.certificate_graph.specs.declared.bundles.Bundle.{Bundle}
use Rattle.certificate_graph.specs.declared.bundles.Claim.{Claim}
use Rattle.checker.specs.declared.pairs.CheckedPair.{CheckedPair}

-- the graph of a side
abbrev pub graph_in : CheckedPair → Side → GraphShape
graph_in pair NorthSouth = pair.ns.value
graph_in pair EastWest = pair.ew.value

-- the graphs of a bundle
pub record IsPairOf (bundle : Bundle) (pair : CheckedPair) : Type 0 where
  pub ns : pair.ns.value ≡ bundle.ns.value
  pub ew : pair.ew.value ≡ bundle.ew.value

-- what is claimed of these graphs: declarer's side from its root, the defenders from theirs
pub record IsClaimedOf (pair : CheckedPair) (claim : Claim) (claimed : Claimed) : Type 0 where
  pub k : claimed.k ≡ claim.k
  pub declarer : claimed.declarer.graph.value ≡ graph_in pair (side_of claim.declarer)
  pub declarer_root : claimed.declarer.root ≡ claim.declarer_root
  pub defenders : claimed.defenders.graph.value ≡ graph_in pair (other_side (side_of claim.declarer))
  pub defenders_root : claimed.defenders.root ≡ claim.defenders_root
