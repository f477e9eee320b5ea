-- The card touches those so far.
use Rattle.std.proofs.Common.{◌<◌, ℕ, get_or}
use Rattle.cards.specs.declared.pack.Card.{Card}
use Rattle.dds_calls.specs.Touching.{Touch}
use Rattle.dds_calls.proofs.touching.touches_all.Given as goal

abbrev pub invariant-loop-other : goal.invariant-loop-other
invariant-loop-other l =
    (k : ℕ) → k < l.other-index → (d : Card) → Touch l.fn.layout l.fn.player l.fn.card (get_or l.fn.cards k d)
