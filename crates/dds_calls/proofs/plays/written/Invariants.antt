-- The values so far are written, and zeros follow.
use Rattle.std.proofs.Common.{◌≡◌, ◌+◌, ◌-◌, ◌≤◌, ◌<◌, ℕ, pos, length, Some}
use Rattle.certified_plays.specs.Values.{value_at}
use Rattle.dds_calls.specs.Telling.{at_place}
use Rattle.dds_calls.proofs.plays.written.Given as goal

abbrev pub invariant-loop-count : goal.invariant-loop-count
invariant-loop-count l = record {
  size : length l.told.tricks ≡ 53;
  each : (k : ℕ) → l.given ≤ k → k < l.count → (tricks : ℕ) × (value_at l.values k ≡ Some tricks) × (at_place l.told.tricks (k - l.given) ≡ pos tricks);
  rest : (place : ℕ) → l.count ≤ place + l.given → at_place l.told.tricks place ≡ pos 0;
}
