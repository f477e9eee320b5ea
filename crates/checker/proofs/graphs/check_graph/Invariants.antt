use Rattle.std.proofs.Common.{ℕ, ◌<◌, ◌≡◌, Some}
use Rattle.std.specs.Prelude.{slice_get}
use Rattle.certificate_graph.specs.declared.nodes.Node.{Node}
use Rattle.checker.specs.Steps.{StepHolds}
use Rattle.checker.proofs.graphs.check_graph.Given as goal

abbrev pub invariant-loop-number : goal.invariant-loop-number
invariant-loop-number l =
    (number : ℕ) (node : Node) → number < l.number → slice_get l.nodes number ≡ Some node → StepHolds l.graph node
