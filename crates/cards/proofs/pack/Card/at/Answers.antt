use Rattle.cards.proofs.PackLaws.{card_number-card_at}
use Rattle.cards.proofs.pack.Card.at.Goals as goal

pub returns-clause-number : goal.returns-clause-number
returns-clause-number c = rw (c.at.ensures, c.at-2.ensures) (card_number-card_at c.args.number c.requires)
