-- The nodes that are to show what is claimed of a play, and the claim of a side.
use Rattle.std.specs.Prelude.{ℕ, ◌-◌, List, ◌++◌, Option, None, Some, slice_get}
use Rattle.cards.specs.declared.seats.Side.{Side}
use Rattle.cards.specs.declared.seats.Side.TheVariants.{NorthSouth, EastWest}
use Rattle.cards.specs.declared.pack.Card.{Card}
use Rattle.play_rules.specs.History.{Opening, trick_of}
use Rattle.certificate_graph.specs.declared.nodes.Node.{Node}
use Rattle.certificate_graph.specs.Graphs.{GraphShape}
use Rattle.card_values.specs.AfterClaims.{AfterClaim, ShowsAfter, IsAfterFault}
use Rattle.card_values.specs.declared.faults.AfterFault.{AfterFault}
use Rattle.play_values.specs.Rests.{rest_opening, tricks_won}
use Rattle.certified_plays.specs.declared.proofs.PlayProofs.{PlayProofs}

-- the graph of a side
abbrev pub graph_of : PlayProofs → Side → GraphShape
graph_of proofs NorthSouth = proofs.ns_graph.now
graph_of proofs EastWest = proofs.ew_graph.now

-- the begun nodes of a side
abbrev pub begun_of : PlayProofs → Side → List Node
begun_of proofs NorthSouth = proofs.ns_begun.now
begun_of proofs EastWest = proofs.ew_begun.now

-- the node of a side with this number: the nodes of its graph come first, and its begun nodes after them
abbrev pub node_named : PlayProofs → Side → Option ℕ → Option Node
node_named proofs side None = None
node_named proofs side (Some number) = slice_get ((graph_of proofs side).nodes ++ begun_of proofs side) number

-- The claim that a side takes this many tricks in all after a history: it wins those that it has not won yet, in play
-- of the rest after the whole tricks, after the cards of the trick in progress.
abbrev pub side_claim : Opening → List Card → Side → ℕ → AfterClaim
side_claim opening history side tricks =
    record {
      opening = rest_opening opening history;
      history = trick_of history;
      side = side;
      need = tricks - tricks_won opening side history;
    }

-- the node with this number shows that a side takes this many tricks in all after the history
abbrev pub ShowsSide : PlayProofs → Opening → List Card → Side → ℕ → Option ℕ → Type 0
ShowsSide proofs opening history side tricks number =
    ShowsAfter (graph_of proofs side) (side_claim opening history side tricks) (node_named proofs side number)

-- it doesn't show it, for this reason
abbrev pub IsSideFault : PlayProofs → Opening → List Card → Side → ℕ → Option ℕ → AfterFault → Type 0
IsSideFault proofs opening history side tricks number =
    IsAfterFault (graph_of proofs side) (side_claim opening history side tricks)
    (node_named proofs side number)
