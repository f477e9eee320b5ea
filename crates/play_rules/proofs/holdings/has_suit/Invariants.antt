-- None of the ranks so far is held.
use Rattle.std.proofs.Common.{◌≡◌, ℕ, ◌<◌, Some}
use Rattle.cards.specs.Pack.{card_of, rank_at}
use Rattle.cards.specs.Deal.{holder_of}
use Rattle.play_rules.proofs.holdings.has_suit.Given as goal

abbrev pub invariant-loop-number : goal.invariant-loop-number
invariant-loop-number l = (k : ℕ) → k < l.number → holder_of l.left (card_of l.suit (rank_at k)) ≡ Some l.player → ⊥
