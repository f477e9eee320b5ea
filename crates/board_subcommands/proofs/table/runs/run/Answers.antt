use Rattle.std.proofs.Common.{refl}
use Rattle.board_subcommands.proofs.table.runs.run.Goals as goal

pub returns-then-options : goal.returns-then-options
returns-then-options g c = record {
  answer = c.table_boards-answer.result.answer;
  between = _;
  does = c.table_boards-answer.ensures;
  input_stays = refl;
  ends = c.end-status.ensures;
}

pub returns : goal.returns
returns g c = record {
  answer = c.table_boards-answer-2.result.answer;
  between = _;
  does = c.table_boards-answer-2.ensures;
  input_stays = refl;
  ends = c.end-status-2.ensures;
}
