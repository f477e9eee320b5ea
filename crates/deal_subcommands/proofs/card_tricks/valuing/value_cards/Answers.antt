use Rattle.deal_subcommands.proofs.card_tricks.valuing.value_cards.Goals as goal

pub returns : goal.returns
returns g c = rw c.write_failed.ensures (c.in-Ok.found, c.in-Ok.ensures, c.in-Err-write_values.ensures)
