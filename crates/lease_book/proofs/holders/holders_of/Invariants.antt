-- The cards before `number` have their holders' numbers.
use Rattle.std.proofs.Common.{◌≡◌, ◌<◌, ℕ, length, get_or, None}
use Rattle.lease_book.specs.Holders.{holder_number}
use Rattle.lease_book.proofs.holders.holders_of.Given as goal

abbrev pub invariant-loop-number : goal.invariant-loop-number
invariant-loop-number l = record {
  done : (place d : ℕ) → place < l.number → get_or l.holders place d ≡ holder_number (get_or l.layout place None);
  sized : length l.holders ≡ 52;
}
