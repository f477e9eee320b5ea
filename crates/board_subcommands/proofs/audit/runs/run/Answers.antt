use Rattle.std.proofs.Common.{refl}
use Rattle.board_subcommands.proofs.audit.runs.run.Goals as goal

pub returns : goal.returns
returns g c = record {
  answer = c.audit_boards-answer.result;
  between = _;
  does = c.audit_boards-answer.ensures;
  input_stays = refl;
  ends = c.end.ensures;
}
