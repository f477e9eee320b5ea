use Rattle.certificate_graph.proofs.OneAnswer.{one_answer_of}
use Rattle.check_laws.proofs.SomeAnswer.{some_answer}
use Rattle.check_laws.proofs.graph_texts.one_answer.Goals as goal

pub returns : goal.returns
returns c = λ text.
    let some = some_answer text in
    (some.0, some.1, λ other said. one_answer_of text other some.0 said some.1)
