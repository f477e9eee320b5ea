use Rattle.pattern_step.proofs.PatCardLaws.{Contains-legal_cards}
use Rattle.pattern_step.proofs.legal_cards.legal.Goals as goal

pub returns-clause-all : goal.returns-clause-all
returns-clause-all c = λ card. rw c.list.ensures (Contains-legal_cards c.args.pattern.now c.invariant.ensures c.args.seat c.args.led card)
