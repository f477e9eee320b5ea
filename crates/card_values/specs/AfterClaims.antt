-- A begun node that is to show that a side wins tricks after some cards.
use Rattle.std.specs.Prelude.{◌≡◌, ◌≢◌, ℕ, ◌<◌, List, length, Option, None, Some, MatchOption}
use Rattle.cards.specs.declared.seats.Side.{Side}
use Rattle.cards.specs.declared.pack.Card.{Card}
use Rattle.cards.specs.Deal.{Deal}
use Rattle.patterns.specs.Holders.{Matches}
use Rattle.pattern_step.specs.declared.pat_cards.PatCard.{PatCard}
use Rattle.play_rules.specs.History.{Opening}
use Rattle.certificate_graph.specs.declared.nodes.Node as nodes
use Rattle.certificate_graph.specs.Graphs.{GraphShape, IsNode}
use Rattle.checker.specs.Steps.{StepsHold}
use Rattle.checker.specs.Faults.{IsGraphFault}
use Rattle.checker.specs.Begun.{IsRightBegun, IsBegunFault, StandForCards}
use Rattle.card_values.specs.declared.faults.AfterFault.{AfterFault}
use Rattle.card_values.specs.declared.faults.AfterFault.TheVariants.{RootMissing, RootNeedless, RootTrump, RootSide}
use Rattle.card_values.specs.declared.faults.AfterFault.TheVariants.{RootForm, RootLead, RootNeed, RootPattern}
use Rattle.card_values.specs.declared.faults.AfterFault.TheVariants.{Begun, Node}

-- the claim that a side wins some tricks after these cards
pub record AfterClaim : Type 0 where
  pub opening : Opening
  pub history : List Card
  pub side : Side
  pub need : ℕ

-- the pattern cards that stand for the cards played satisfy this
abbrev pub OnPath : nodes.Node → Deal → List Card → (List PatCard → Type 0) → Type 0
OnPath node deal history P = (path : List PatCard) × StandForCards node.pattern deal path history × P path

-- The begun node makes the claim: it could be a node of the graph, and is right after the cards played.
pub record IsBegunRoot (graph : GraphShape) (claim : AfterClaim) (node : nodes.Node) : Type 0 where
  pub form : IsNode (length graph.nodes) node
  pub lead : node.lead ≡ claim.opening.leader
  pub need_is : node.need ≡ claim.need
  pub pattern : Matches node.pattern claim.opening.deal
  pub right : OnPath node claim.opening.deal claim.history (IsRightBegun graph node)

-- The graph and the begun node show the claim. If no tricks are claimed there is no begun node, and no step has to
-- hold.
pub record ShowsAfter (graph : GraphShape) (claim : AfterClaim) (begun : Option nodes.Node) : Type 0 where
  pub trump_is : graph.trump ≡ claim.opening.trump
  pub side_is : graph.side ≡ claim.side
  pub root : MatchOption begun (claim.need ≡ 0) (IsBegunRoot graph claim)
  pub steps : begun ≢ None → StepsHold graph

-- there is a begun node, and this is so of it
abbrev pub HasRoot : Option nodes.Node → (nodes.Node → Type 0) → Type 0
HasRoot None P = ⊥
HasRoot (Some node) P = P node

-- a fault that the graph and the begun node have
abbrev pub IsAfterFault : GraphShape → AfterClaim → Option nodes.Node → AfterFault → Type 0
IsAfterFault graph claim root RootMissing = (0 < claim.need) × (root ≡ None)
IsAfterFault graph claim root RootNeedless = (claim.need ≡ 0) × (root ≢ None)
IsAfterFault graph claim root RootTrump = graph.trump ≢ claim.opening.trump
IsAfterFault graph claim root RootSide = graph.side ≢ claim.side
IsAfterFault graph claim root RootForm = HasRoot root (λ node. IsNode (length graph.nodes) node → ⊥)
IsAfterFault graph claim root RootLead = HasRoot root (λ node. node.lead ≢ claim.opening.leader)
IsAfterFault graph claim root RootNeed = HasRoot root (λ node. node.need ≢ claim.need)
IsAfterFault graph claim root RootPattern = HasRoot root (λ node. Matches node.pattern claim.opening.deal → ⊥)
IsAfterFault graph claim root (Begun fault) =
    HasRoot root (λ node. OnPath node claim.opening.deal claim.history (λ path. IsBegunFault graph node path fault))
IsAfterFault graph claim root (Node fault) = (root ≢ None) × IsGraphFault graph fault
