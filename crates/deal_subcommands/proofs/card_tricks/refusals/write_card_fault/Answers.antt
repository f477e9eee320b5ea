use Rattle.cards.proofs.WriteLemmas.{Writes-then}
use Rattle.deal_subcommands.proofs.card_tricks.refusals.write_card_fault.Goals as goal

pub returns : goal.returns
returns g c = Writes-then c.write_card.result _ _ c.in_ok-write_all.ensures c.write_card.ensures
