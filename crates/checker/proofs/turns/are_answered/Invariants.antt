use Rattle.std.proofs.Common.{Contains, take}
use Rattle.pattern_step.specs.declared.pat_cards.PatCard.{PatCard}
use Rattle.checker.specs.Steps.{IsAnswered}
use Rattle.checker.proofs.turns.are_answered.Given as goal

-- the cards so far are answered
abbrev pub invariant-loop-card : goal.invariant-loop-card
invariant-loop-card l = (card : PatCard) → Contains (take l.card-index l.cards) card → IsAnswered l.version l.pattern l.seat l.branches card
