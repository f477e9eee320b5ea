use Rattle.std.proofs.Common.{refl}
use Rattle.deal_subcommands.proofs.solve.runs.run.Goals as goal

pub returns : goal.returns
returns g c = record {
  answer = c.done.result;
  does = record {
    stays = refl;
    done = c.solve_layout-found.result;
    answer_is = c.done.ensures;
    fact = rw c.as_bytes-value.ensures.value at c.solve_layout-found.ensures;
  };
  ends = c.end.ensures;
}
