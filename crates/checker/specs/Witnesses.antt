-- The graph with a root that the definitions see for a checked or an unchecked graph.
use Rattle.checker.specs.declared.claims.Rooted.{Rooted}
use Rattle.checker.specs.declared.witnesses.Witness.{Witness}
use Rattle.checker.specs.declared.witnesses.Witness.TheVariants as witness
use Rattle.checker.specs.Roots.{RootedShape, from_first}

-- a checked graph and its root
abbrev pub rooted_shape : Rooted → RootedShape
rooted_shape rooted = record { graph = rooted.graph.value; root = rooted.root }

-- a whole graph is read from its node 0, a checked graph from its root
abbrev pub seen_as : Witness → RootedShape
seen_as (witness.Whole graph) = from_first graph.now
seen_as (witness.At rooted) = rooted_shape rooted.now
