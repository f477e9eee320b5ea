use Rattle.std.proofs.Common.{refl}
use Rattle.deal_subcommands.specs.CardTricks.Runs.{is_kept, is_unmade, is_none}
use Rattle.deal_subcommands.proofs.card_tricks.runs.keep_cards.Goals as goal

pub returns-in-Err : goal.returns-in-Err
returns-in-Err g c = is_none _ refl c.in-Err.ensures refl refl

pub returns-in-Err-make_named : goal.returns-in-Err-make_named
returns-in-Err-make_named g c =
    is_unmade _ refl (c.in-Ok.kept, c.in-Ok.ensures, c.in-Err-make_named.ensures.makes) refl refl

pub returns : goal.returns
returns g c = is_kept c.write_all-written.result c.write_values-printed.result c.kept_answer.ensures (record {
  kept = c.in-Ok.kept;
  found = c.in-Ok.ensures;
  file = record {
    made = _;
    makes_it = c.in-Ok-make_named.ensures.makes;
    file = _;
    left_is = refl;
    writes = rw c.as_slice.ensures.value at c.write_all-written.ensures;
  };
  prints = c.write_values-printed.ensures;
})
