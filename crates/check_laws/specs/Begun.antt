-- Laws of the first fault of a begun node.
use Rattle.std.specs.Prelude.{◌≡◌, ◌↔◌, List, length}
use Rattle.pattern_step.specs.declared.pat_cards.PatCard.{PatCard}
use Rattle.certificate_graph.specs.declared.nodes.Node.{Node}
use Rattle.certificate_graph.specs.Graphs.{GraphShape, IsNode, IsTree}
use Rattle.checker.specs.declared.faults.StepFault.{StepFault}
use Rattle.checker.specs.Begun.{IsBegunFault, IsRightBegun}

-- a begun node is right exactly if it has no fault
abbrev pub HasNoFaultWhereRight : Type 0
HasNoFaultWhereRight =
    (graph : GraphShape) (node : Node) (cards : List PatCard) → IsNode (length graph.nodes) node
    → IsRightBegun graph node cards ↔ ((fault : StepFault) → IsBegunFault graph node cards fault → ⊥)

-- a begun node has at most one first fault
abbrev pub HasOneBegunFault : Type 0
HasOneBegunFault =
    (graph : GraphShape) (node : Node) (cards : List PatCard) (one other : StepFault)
    → IsTree node.tree → IsBegunFault graph node cards one → IsBegunFault graph node cards other
    → one ≡ other
