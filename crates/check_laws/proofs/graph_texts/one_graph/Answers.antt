use Rattle.certificate_graph.proofs.OneAnswer.{one_graph_of}
use Rattle.check_laws.proofs.graph_texts.one_graph.Goals as goal

pub returns : goal.returns
returns c = one_graph_of
