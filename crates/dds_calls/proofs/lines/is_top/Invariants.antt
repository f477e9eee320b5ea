-- No card so far is above the card in its group.
use Rattle.std.proofs.Common.{◌<◌, ℕ, get_or}
use Rattle.card_values.specs.declared.values.CardValue.{CardValue}
use Rattle.dds_calls.specs.Lines.{Joins}
use Rattle.dds_calls.proofs.lines.is_top.Given as goal

abbrev pub invariant-loop-other : goal.invariant-loop-other
invariant-loop-other l =
    (k : ℕ) → k < l.other-index → (d : CardValue) → Joins l.fn.layout l.fn.player (get_or l.fn.values k d) l.fn.value → ⊥
