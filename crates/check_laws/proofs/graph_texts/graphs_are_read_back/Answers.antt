use Rattle.std.proofs.Common.{refl, Ok}
use Rattle.certificate_graph.specs.Texts.{graph_text}
use Rattle.certificate_graph.proofs.OneAnswer.{one_answer_of}
use Rattle.check_laws.proofs.graph_texts.graphs_are_read_back.Goals as goal

pub returns : goal.returns
returns c = λ graph is. ((is, refl), λ answer said. one_answer_of (graph_text graph) answer (Ok graph) said (is, refl))
