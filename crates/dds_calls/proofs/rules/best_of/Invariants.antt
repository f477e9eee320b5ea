-- No card so far leads to more tricks, and some card leads to as many.
use Rattle.std.proofs.Common.{◌≡◌, ◌≤◌, ◌<◌, ℕ, get_or, Contains}
use Rattle.card_values.specs.declared.values.CardValue.{CardValue}
use Rattle.dds_calls.proofs.rules.best_of.Given as goal

abbrev pub invariant-loop-value : goal.invariant-loop-value
invariant-loop-value l = record {
  most : (k : ℕ) → k < l.value-index → (d : CardValue) → (get_or l.fn.values k d).tricks ≤ l.best;
  reached : (top : CardValue) × Contains l.fn.values top × (top.tricks ≡ l.best);
}
