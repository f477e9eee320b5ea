-- For none of the last cards does the pattern card stand.
use Rattle.std.proofs.Common.{ℕ, ◌-◌, ◌<◌, length, get_or}
use Rattle.cards.specs.declared.pack.Rank.TheVariants.{Two}
use Rattle.cards.specs.declared.suits.Suit.TheVariants.{Spades}
use Rattle.cards.specs.Pack.{card_of}
use Rattle.pattern_step.specs.LayoutCards.{StandsFor}
use Rattle.certificate_play.proofs.stand_ins.last_stood_for.Given as goal

abbrev pub invariant-loop-place : goal.invariant-loop-place
invariant-loop-place l =
    (k : ℕ) → k < l.place → StandsFor l.pattern l.deal l.pat_card (get_or l.cards (length l.cards - 1 - k) (card_of Spades Two)) → ⊥
