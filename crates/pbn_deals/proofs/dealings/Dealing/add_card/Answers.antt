-- The body's words are those of the lemma, at the numbers that the calls gave.
use Rattle.pbn_deals.proofs.DealingLemmas.{Represents-add}
use Rattle.pbn_deals.proofs.dealings.Dealing.add_card.Goals as goal

pub returns-clause-adds : goal.returns-clause-adds
returns-clause-adds c = λ held. rw (c.number-2.ensures.place, c.number.ensures.place) (Represents-add c.args.self.now held c.args.seat c.args.card)
