use Rattle.deal_subcommands.proofs.line.runs.run.Goals as goal

pub returns : goal.returns
returns g c = record {
  answer = c.follow_answer-answer.result;
  does = rw c.as_bytes-value.ensures.value at c.follow_answer-answer.ensures;
  ends = c.end.ensures;
}
