use Rattle.deal_subcommands.proofs.check.runs.run.Goals as goal

pub returns : goal.returns
returns g c = record {
  answer = c.check_answer-answer.result;
  does = rw c.as_bytes-value.ensures.value at c.check_answer-answer.ensures;
  ends = c.end.ensures;
}
