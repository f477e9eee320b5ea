-- The card has none of the values so far.
use Rattle.std.proofs.Common.{◌≡◌, ◌<◌, ℕ, get_or}
use Rattle.card_values.specs.declared.values.CardValue.{CardValue}
use Rattle.dds_calls.proofs.touching.has_value.Given as goal

abbrev pub invariant-loop-value : goal.invariant-loop-value
invariant-loop-value l =
    (k : ℕ) → k < l.value-index → (d : CardValue) → (get_or l.fn.values k d).card ≡ l.fn.card → ⊥
