use Rattle.std.proofs.Common.{refl}
use Rattle.deal_subcommands.proofs.card_tricks.runs.run.Goals as goal

pub returns : goal.returns
returns g c = record {
  answer = c.with_last_flush-answer.result;
  does = (
    refl,
    record {
      between = _;
      answer = c.do_cards-answer.result.answer;
      does = c.do_cards-answer.ensures;
      first = c.with_last_flush-answer.ensures;
    },
  );
  ends = rw c.file_of.ensures at c.end.ensures;
}
