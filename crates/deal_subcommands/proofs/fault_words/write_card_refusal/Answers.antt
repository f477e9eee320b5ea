use Rattle.cards.proofs.WriteLemmas.{Writes-then}
use Rattle.deal_subcommands.proofs.fault_words.write_card_refusal.Goals as goal

pub returns : goal.returns
returns g c = Writes-then c.write_all-2.result _ _ (rw c.place_words.ensures at c.in_ok-write_all.ensures) c.write_all-2.ensures
