-- The nodes so far stand at the beginning of the text, and what is left stands after them.
use Rattle.certificate_graph.proofs.BareLemmas.{ReadSoFar}
use Rattle.certificate_graph.proofs.node_reading.read_nodes.Given as goal

abbrev pub invariant-loop-number : goal.invariant-loop-number
invariant-loop-number l = ReadSoFar l.count l.text l.cursor.rest.now l.number l.nodes.items l.bares.items l.row.items
