-- The places below the index are written, and the others are zeros.
use Rattle.std.proofs.Common.{◌≡◌, ◌≤◌, ◌<◌, ◌+◌, ℕ, pos, length, get_or}
use Rattle.cards.specs.Pack.{suit_number, rank_number}
use Rattle.dds_calls.specs.declared.lines.Line.{Line}
use Rattle.dds_calls.specs.Rules.{IsScore}
use Rattle.dds_calls.proofs.telling.filled.Given as goal

abbrev pub invariant-loop-place : goal.invariant-loop-place
invariant-loop-place l = record {
  suits : length l.suit ≡ 13;
  ranks : length l.rank ≡ 13;
  all_equals : length l.equals ≡ 13;
  scores : length l.score ≡ 13;
  suit_is : (k : ℕ) → k < l.place → (d : Line) → get_or l.suit k (pos 0) ≡ pos (suit_number (get_or l.fn.lines k d).card.suit);
  rank_is : (k : ℕ) → k < l.place → (d : Line) → get_or l.rank k (pos 0) ≡ pos (rank_number (get_or l.fn.lines k d).card.rank + 2);
  equals_are : (k : ℕ) → k < l.place → (d : Line) → get_or l.equals k (pos 0) ≡ pos (get_or l.fn.lines k d).equals;
  score_is : (k : ℕ) → k < l.place → (d : Line) → IsScore l.fn.ask l.fn.rule (get_or l.fn.lines k d).tricks (get_or l.score k (pos 0));
  no_suit : (k : ℕ) → l.place ≤ k → get_or l.suit k (pos 0) ≡ pos 0;
  no_rank : (k : ℕ) → l.place ≤ k → get_or l.rank k (pos 0) ≡ pos 0;
  no_equals : (k : ℕ) → l.place ≤ k → get_or l.equals k (pos 0) ≡ pos 0;
  no_score : (k : ℕ) → l.place ≤ k → get_or l.score k (pos 0) ≡ pos 0;
}
