use Rattle.std.proofs.Common.{refl}
use Rattle.board_subcommands.proofs.leads.runs.run.Goals as goal

pub returns-then-options : goal.returns-then-options
returns-then-options g c = record {
  answer = c.lead_boards-answer.result;
  between = _;
  does = c.lead_boards-answer.ensures;
  input_stays = refl;
  ends = c.end.ensures;
}

pub returns : goal.returns
returns g c = record {
  answer = c.lead_boards-answer-2.result;
  between = _;
  does = c.lead_boards-answer-2.ensures;
  input_stays = refl;
  ends = c.end-2.ensures;
}
