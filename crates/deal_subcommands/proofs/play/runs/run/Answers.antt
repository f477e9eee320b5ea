use Rattle.deal_subcommands.proofs.play.runs.run.Goals as goal

pub returns : goal.returns
returns g c = record {
  answer = c.play_answer-answer.result;
  does = c.play_answer-answer.ensures;
  ends = c.end.ensures;
}
