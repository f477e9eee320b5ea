use Rattle.std.proofs.Common.{refl, inl}
use Rattle.board_subcommands.proofs.plays.kept.keep_text.Goals as goal

pub returns-in-Ok : goal.returns-in-Ok
returns-in-Ok g c = inl (
  c.write_all-written.result,
  c.written_answer.ensures,
  record {
    made = _;
    makes_it = c.in-Ok.ensures.makes;
    file = _;
    left_is = refl;
    writes = c.write_all-written.ensures;
  },
)
