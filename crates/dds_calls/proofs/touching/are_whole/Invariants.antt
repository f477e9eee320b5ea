-- Each card so far that touches one that has a value has a value itself.
use Rattle.std.proofs.Common.{◌<◌, ℕ, get_or, Contains}
use Rattle.cards.specs.declared.pack.Card.{Card}
use Rattle.card_values.specs.CardValues.{cards_of}
use Rattle.dds_calls.specs.Touching.{TouchesValue}
use Rattle.dds_calls.proofs.touching.are_whole.Given as goal

abbrev pub invariant-loop-card : goal.invariant-loop-card
invariant-loop-card l =
    (k : ℕ) → k < l.card-index → (d : Card) → TouchesValue l.fn.layout l.fn.player l.fn.values (get_or l.fn.cards k d)
    → Contains (cards_of l.fn.values) (get_or l.fn.cards k d)
