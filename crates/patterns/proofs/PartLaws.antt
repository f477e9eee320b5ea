-- Four parts, suit by suit.
use Rattle.std.proofs.Common.{◌≡◌, List, [], ◌∷◌, length, refl, arith}
use Rattle.std.specs.Prelude.{slice_index_or}
use Rattle.cards.specs.declared.suits.Suit.{Suit}
use Rattle.cards.specs.declared.suits.Suit.TheVariants.{Spades, Hearts, Diamonds, Clubs}
use Rattle.cards.specs.Pack.{suit_number}
use Rattle.patterns.specs.Shapes.{suit_of}
use Rattle.patterns.specs.Parts.{suit_shape, shape_of_parts}
use Rattle.patterns.specs.Words.{HasWord, HaveWords}
use Rattle.patterns.specs.declared.suit_parts.SuitPart.{SuitPart}

-- the part of a suit
pub part_of_suit : (parts : List SuitPart) (other : SuitPart) (suit : Suit) → length parts ≡ 4 → suit_shape (slice_index_or parts (suit_number suit) other) ≡ suit_of (shape_of_parts parts) suit
part_of_suit [] other suit h = absurd (omega arith)
part_of_suit (a ∷ []) other suit h = absurd (omega arith)
part_of_suit (a ∷ b ∷ []) other suit h = absurd (omega arith)
part_of_suit (a ∷ b ∷ c ∷ []) other suit h = absurd (omega arith)
part_of_suit (a ∷ b ∷ c ∷ d ∷ parts) other Spades h = refl
part_of_suit (a ∷ b ∷ c ∷ d ∷ parts) other Hearts h = refl
part_of_suit (a ∷ b ∷ c ∷ d ∷ parts) other Diamonds h = refl
part_of_suit (a ∷ b ∷ c ∷ d ∷ parts) other Clubs h = refl

pub part_has_word : (parts : List SuitPart) (other : SuitPart) (suit : Suit) → length parts ≡ 4 → HaveWords (shape_of_parts parts) → HasWord (suit_shape (slice_index_or parts (suit_number suit) other))
part_has_word parts other suit four have = rw (part_of_suit parts other suit four) (have suit)
