use Rattle.evidence.proofs.GraphLines.{no_graph}
use Rattle.evidence.proofs.graphs_reading.read_graph.Goals as goal

pub returns-in_default : goal.returns-in_default
returns-in_default c = no_graph c.args.text.now c.in-Err.fault c.in_default.not-OutOfMemory c.in-Err.ensures
