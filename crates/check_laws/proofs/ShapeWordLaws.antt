-- Four suits and their words.
use Rattle.std.proofs.Common.{◌≡◌, ℕ, ◌↔◌, Result, Ok, Err, inl, inr, ap, subst, ◌∙◌, arith}
use Rattle.std.specs.Prelude.{slice_index}
use Rattle.cards.specs.declared.suits.Suit.{Suit}
use Rattle.cards.specs.declared.suits.Suit.TheVariants.{Spades, Hearts, Diamonds, Clubs}
use Rattle.cards.specs.Pack.{suit_number}
use Rattle.patterns.specs.Shapes.{Shape, suit_of, IsShape}
use Rattle.patterns.specs.Parts.{IsFault}
use Rattle.patterns.specs.Words.{word_of, words_of, shape_in, IsSuitWord, IsWrongWord, MeetsWords}
use Rattle.patterns.specs.declared.faults.PatternFault.{PatternFault}
use Rattle.patterns.specs.declared.faults.PatternFault.TheVariants.{Lengths, Cards, Owners, Words}
use Rattle.patterns.proofs.SeatLaws.{for_each_suit}
use Rattle.patterns.proofs.SuitWords.{same_from_word, suit_in-word_of, IsSuitWord-word_of}
use Rattle.patterns.proofs.EqualityLaws.{same_shapes, HaveWords-shape}

pub same_words : (fewest most : ℕ) (one other : Shape) → IsShape fewest most one → IsShape fewest most other → (words_of one ≡ words_of other) ↔ (one ≡ other)
same_words fewest most one other is is' =
    let has = HaveWords-shape fewest most one is in
    let has' = HaveWords-shape fewest most other is' in (
      λ e.
          let s : word_of one.spades ≡ word_of other.spades = cc in
          let h : word_of one.hearts ≡ word_of other.hearts = cc in
          let d : word_of one.diamonds ≡ word_of other.diamonds = cc in
          let c : word_of one.clubs ≡ word_of other.clubs = cc in
          same_shapes one other (for_each_suit (λ suit. suit_of one suit ≡ suit_of other suit)
          (same_from_word one.spades other.spades (has Spades) (has' Spades) s) (same_from_word one.hearts other.hearts (has Hearts) (has' Hearts) h)
          (same_from_word one.diamonds other.diamonds (has Diamonds) (has' Diamonds) d) (same_from_word one.clubs other.clubs (has Clubs) (has' Clubs) c)),
      ap words_of,
    )

-- the shape that the words of a shape tell
pub shape_in-words_of : (fewest most : ℕ) (shape : Shape) → IsShape fewest most shape → shape_in (words_of shape) ≡ shape
shape_in-words_of fewest most shape is =
    let has = HaveWords-shape fewest most shape is in
    same_shapes (shape_in (words_of shape)) shape (for_each_suit (λ suit. suit_of (shape_in (words_of shape)) suit ≡ suit_of shape suit)
    (suit_in-word_of shape.spades (has Spades)) (suit_in-word_of shape.hearts (has Hearts)) (suit_in-word_of shape.diamonds (has Diamonds)) (suit_in-word_of shape.clubs (has Clubs)))

not_wrong : (word : ℕ) → IsSuitWord word → IsWrongWord word → ⊥
not_wrong word is (inl many) = omega arith
not_wrong word is (inr over) = omega arith

-- none of the words of a shape is wrong
no_wrong_word : (fewest most : ℕ) (shape : Shape) → IsShape fewest most shape → (suit : Suit) → IsWrongWord (slice_index (words_of shape) (suit_number suit)) → ⊥
no_wrong_word fewest most shape is Spades = not_wrong _ (IsSuitWord-word_of shape.spades (HaveWords-shape fewest most shape is Spades))
no_wrong_word fewest most shape is Hearts = not_wrong _ (IsSuitWord-word_of shape.hearts (HaveWords-shape fewest most shape is Hearts))
no_wrong_word fewest most shape is Diamonds = not_wrong _ (IsSuitWord-word_of shape.diamonds (HaveWords-shape fewest most shape is Diamonds))
no_wrong_word fewest most shape is Clubs = not_wrong _ (IsSuitWord-word_of shape.clubs (HaveWords-shape fewest most shape is Clubs))

-- a shape has no fault
no_fault : (fewest most : ℕ) (shape : Shape) → IsShape fewest most shape → (fault : PatternFault) → IsFault fewest most shape fault → ⊥
no_fault fewest most shape is Lengths h = omega (arith, is.suits h.0, h.1)
no_fault fewest most shape is Cards (fits, inl h) = h.1 (is.hands h.0)
no_fault fewest most shape is Cards (fits, inr (inl few)) = omega (arith, is.some_cards)
no_fault fewest most shape is Cards (fits, inr (inr many)) = omega (arith, is.not_over)
no_fault fewest most shape is Owners h = omega (arith, is.owners h.2.0 h.2.1.0, h.2.1.1)
no_fault fewest most shape is Words h = h

pub words_make : (fewest most : ℕ) (shape : Shape) (answer : Result Shape PatternFault) → IsShape fewest most shape → MeetsWords fewest most (words_of shape) answer → answer ≡ Ok shape
words_make fewest most shape (Ok told) is h = ap Ok (h.1 ∙ shape_in-words_of fewest most shape is)
words_make fewest most shape (Err fault) is (inl h) = absurd (no_wrong_word fewest most shape is h.1.0 h.1.1)
words_make fewest most shape (Err fault) is (inr h) =
    absurd (no_fault fewest most shape is fault (subst (λ (s : Shape). IsFault fewest most s fault) (shape_in-words_of fewest most shape is) h.1))
