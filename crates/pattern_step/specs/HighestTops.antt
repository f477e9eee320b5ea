-- The highest top of a suit among the cards played, by its place.
use Rattle.std.specs.Prelude.{ℕ, ◌≤◌, min, List, Option, None, Some, Contains}
use Rattle.cards.specs.declared.suits.Suit.{Suit}
use Rattle.pattern_step.specs.declared.pat_cards.PatCard.{PatCard}
use Rattle.pattern_step.specs.declared.pat_cards.PatCard.TheVariants.{Top}

-- the place of the highest top of the suit that was played, if one was
abbrev pub IsHighestTop : List PatCard → Suit → Option ℕ → Type 0
IsHighestTop cards suit None = (other : ℕ) → Contains cards (Top suit other) → ⊥
IsHighestTop cards suit (Some place) =
    Contains cards (Top suit place) × ((other : ℕ) → Contains cards (Top suit other) → place ≤ other)

-- the lesser of two places, the first of which may be missing
abbrev pub lesser : Option ℕ → ℕ → ℕ
lesser None place = place
lesser (Some before) place = min before place
