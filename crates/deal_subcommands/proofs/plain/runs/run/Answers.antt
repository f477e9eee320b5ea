use Rattle.std.proofs.Common.{refl}
use Rattle.deal_subcommands.proofs.plain.runs.run.Goals as goal

pub returns : goal.returns
returns g c = record {
  answer = c.done-answer.result;
  does = record {
    stays = refl;
    done = c.plain_line.result;
    answer_is = c.done-answer.ensures;
    fact = rw c.as_bytes-value.ensures.value at c.plain_line.ensures;
  };
  ends = c.end.ensures;
}
