use Rattle.std.proofs.Common.{refl}
use Rattle.board_subcommands.proofs.plays.runs.run.Goals as goal

pub returns : goal.returns
returns g c = record {
  answer = c.do_plays-answer.result.answer;
  between = _;
  does = c.do_plays-answer.ensures;
  input_stays = refl;
  ends = rw c.file_of.ensures at (rw c.is_audit.ensures at c.end_plays-status.ensures);
}
