-- A trick that is played by a node of a certificate, and how the promise of a play is kept by it.
use Rattle.std.specs.Prelude.{◌≡◌, ℕ, ◌+◌, ◌*◌, ◌<◌, ◌≤◌, List, [], ◌++◌, length, Option, None, Some, slice_get}
use Rattle.cards.specs.declared.pack.Card.{Card}
use Rattle.cards.specs.Deal.{Deal, IsLayout, size_of}
use Rattle.patterns.specs.Holders.{Matches}
use Rattle.pattern_step.specs.declared.pat_cards.PatCard.{PatCard}
use Rattle.pattern_step.specs.LayoutCards.{StandsFor}
use Rattle.play_rules.specs.History.{Opening, trick_of, tricks_of}
use Rattle.play_rules.specs.Position.{IsReached}
use Rattle.strategies.specs.Values.{opening_after}
use Rattle.certificate_graph.specs.Trees.{TrickTree, Own}
use Rattle.certificate_graph.specs.Graphs.{IsGraph}
use Rattle.checker.specs.Steps.{StepsHold}
use Rattle.checker.specs.Soundness.{opening_at}
use Rattle.checker.proofs.OnTheWay.{IsOnWay}
use Rattle.certificate_play.specs.declared.steps.Step.{Step}
use Rattle.certificate_play.specs.Promises.{Promise, won_by}

-- the play of the layout that was left when the trick began
abbrev pub opening_of : Step → Opening
opening_of step = opening_at step.graph.now step.node.now step.start

-- these cards of that layout, for which this line of the tree stands, lead to this place
abbrev pub IsWayOf : Step → List Card → List PatCard → TrickTree → Type 0
IsWayOf step real line place = IsOnWay step.graph.now step.node.now step.start real line place

-- The trick is played by a node of a right graph: the layout at its beginning matches the node's pattern, and the cards
-- so far have led to this place of the node's tree.
pub record IsByNode (step : Step) : Type 0 where
  pub graph : IsGraph step.graph.now
  pub steps : StepsHold step.graph.now
  pub number : ℕ
  pub there : slice_get step.graph.now.nodes number ≡ Some step.node.now
  pub layout : IsLayout step.start
  pub matches : Matches step.node.now.pattern step.start
  pub short : length step.trick.items < 4
  pub way : IsWayOf step step.trick.items step.line.items step.place

-- the tree's card stands for this one, at a turn of the side
abbrev pub IsChosen : Step → Card → Type 0
IsChosen step card =
    (pat_card : PatCard) × (below : TrickTree)
    × (step.place ≡ Own pat_card below) × StandsFor step.node.now.pattern step.start pat_card card

-- what the node promises of the play of that layout, after these cards
abbrev pub promise_of : Step → List Card → Promise
promise_of step real = record {
  position = record { opening = opening_of step; history = real };
  side = step.graph.now.side;
  tricks = step.node.now.need;
}

-- A promise is kept by a step: it began after whole tricks, with the layout left, and its node promises what was not
-- won before.
pub record IsKeptBy (promise : Promise) (step : Step) : Type 0 where
  pub before : List Card
  pub history_is : promise.position.history ≡ before ++ step.trick.items
  pub whole : trick_of before ≡ []
  pub left : 4 * size_of step.start + length before ≡ 4 * size_of promise.position.opening.deal
  pub opening_is : opening_of step ≡ opening_after promise.position.opening before
  pub side_is : step.graph.now.side ≡ promise.side
  pub enough :
      promise.tricks
      ≤ tricks_of promise.side promise.position.opening.trump promise.position.opening.leader before
      + step.node.now.need
  pub by_node : IsByNode step

-- and without a step by the tricks that were won
abbrev pub IsKeptIn : Promise → Option Step → Type 0
IsKeptIn promise None = promise.tricks ≤ won_by promise
IsKeptIn promise (Some step) = IsKeptBy promise step

-- What every state keeps: the history is legal, it and the layout were noted, and the promise is kept.
pub record IsOnCourse (promise : Promise) (layout : Deal) (history : List Card) (step : Option Step) : Type 0 where
  pub reached : IsReached promise.position
  pub layout_is : layout ≡ promise.position.opening.deal
  pub history_is : history ≡ promise.position.history
  pub kept : IsKeptIn promise step

-- the same trick of the same node, after the same cards
pub record IsCopyOf (step copy : Step) : Type 0 where
  pub graph_is : copy.graph.now ≡ step.graph.now
  pub node_is : copy.node.now ≡ step.node.now
  pub place_is : copy.place ≡ step.place
  pub start_is : copy.start ≡ step.start
  pub trick_is : copy.trick.items ≡ step.trick.items
  pub line_is : copy.line.items ≡ step.line.items
