use Rattle.std.proofs.Common.{refl, inl, inr}
use Rattle.board_subcommands.proofs.table.kept.fill_tables.Goals as goal

pub write_beside-requires-clause-covers : goal.write_beside-requires-clause-covers
write_beside-requires-clause-covers g c = λ lifetimes bounds. record {
  each = λ deal declarers trump budget bundle found.
      record { declarers = declarers; budget = budget; bundle = bundle; found = found; section_is = refl };
}

pub returns-in-Err : goal.returns-in-Err
returns-in-Err g c =
    rw c.in-Some.is (inr (c.in-Err.why, refl, refl, record { unopened = c.in-Err.ensures.opens; stay = refl }))

pub returns : goal.returns
returns g c =
    rw c.in-Some.is (inl (record {
      file = _;
      opened = c.in-Ok.ensures.opens;
      none_failed = refl;
      writes = c.write_beside.ensures;
    }))
