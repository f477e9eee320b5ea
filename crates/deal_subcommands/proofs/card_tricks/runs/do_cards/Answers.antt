use Rattle.deal_subcommands.proofs.card_tricks.runs.do_cards.Goals as goal

pub returns-in-Kept : goal.returns-in-Kept
returns-in-Kept g c = rw c.in-Kept.is c.keep_cards.ensures
