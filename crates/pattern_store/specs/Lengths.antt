-- The keys by which a store keeps its lists, and the lengths in them: for each suit those of the four seats.
use Rattle.std.specs.Prelude.{ℕ, List, [], ◌∷◌}
use Rattle.cards.specs.Deal.{Deal}
use Rattle.cards.specs.declared.suits.Suit.TheVariants.{Spades, Hearts, Diamonds, Clubs}
use Rattle.cards.specs.declared.seats.Seat.{Seat}
use Rattle.cards.specs.declared.seats.Side.{Side}
use Rattle.patterns.specs.Shapes.{Shape}
use Rattle.patterns.specs.Holders.{counts_of, holders_of}
use Rattle.pattern_store.specs.declared.keys.Key.{Key}

-- those of a pattern
abbrev pub lengths_of : Shape → List (List ℕ)
lengths_of shape = shape.spades.lens ∷ shape.hearts.lens ∷ shape.diamonds.lens ∷ shape.clubs.lens ∷ []

-- those of a layout
abbrev pub layout_lengths : Deal → List (List ℕ)
layout_lengths deal =
    counts_of (holders_of deal Spades) ∷ counts_of (holders_of deal Hearts)
    ∷ counts_of (holders_of deal Diamonds) ∷ counts_of (holders_of deal Clubs) ∷ []

-- the key of these lengths, a lead and a side
abbrev pub key_with : List (List ℕ) → Seat → Side → Key
key_with lengths lead side = record { lengths = lengths; lead = lead; side = side }
