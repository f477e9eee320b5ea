-- `==` says whether suits are the same: all that it compares is all that a suit is.
use Rattle.std.proofs.Common.{◌≡◌, Bool, true, ◌&&◌, ℕ, List, refl, nat_eq, sym, ◌∙◌, ap}
use Rattle.std.specs.Bool.{Decides}
use Rattle.std.specs.Cmp.Lexicographic.{pointwise}
use Rattle.std.proofs.lemmas.Bool.Decides.{Decides-and, Decides-like, Decides-eqb}
use Rattle.std.proofs.lemmas.Slice.Eq.{slice_eq-Decides}
use denote.Enum.Bare.{sameb}
use Rattle.cards.specs.contracts.seats.Seat.{the_type}
use Rattle.cards.specs.declared.suits.Suit.{Suit}
use Rattle.cards.specs.declared.suits.Suit.TheVariants.{Spades, Hearts, Diamonds, Clubs}
use Rattle.cards.specs.declared.seats.Seat.{Seat}
use Rattle.cards.specs.Seats.{is_same_seat}
use Rattle.patterns.specs.Shapes.{SuitShape, Shape, suit_of, IsShape}
use Rattle.patterns.specs.Words.{word_of, HasWord, HaveWords}
use Rattle.patterns.proofs.SuitWords.{same_from_word, HasWord-fits}
use Rattle.patterns.proofs.SeatLaws.{for_each_suit, same_seat_test, is_same_seat_self, same_from_is_same}

-- `==` of two seats
seats_equal-Decides : (one other : Seat) → Decides (sameb the_type one other) (one ≡ other)
seats_equal-Decides one other = (
  λ h. sym (same_from_is_same other one (sym (same_seat_test one other) ∙ h)),
  λ e. same_seat_test one other ∙ (ap (λ s. is_same_seat other s) e ∙ is_same_seat_self other),
)

pub lens_equal-Decides : (one other : List ℕ) → Decides (pointwise nat_eq one other) (one ≡ other)
lens_equal-Decides one other = slice_eq-Decides Decides-eqb one other (pointwise nat_eq one other) refl

pub owners_equal-Decides : (one other : List Seat) → Decides (pointwise (sameb the_type) one other) (one ≡ other)
owners_equal-Decides one other = slice_eq-Decides seats_equal-Decides one other (pointwise (sameb the_type) one other) refl

-- two suits are the same where their lengths and their owners are
pub same_suits : (one other : SuitShape) → one.lens ≡ other.lens → one.owners ≡ other.owners → one ≡ other
same_suits one other lens owners = ap (λ (l : List ℕ). record one { lens = l }) lens ∙ ap (λ (o : List Seat). record other { owners = o }) owners

-- and two shapes where their suits are
pub same_shapes : (one other : Shape) → ((suit : Suit) → suit_of one suit ≡ suit_of other suit) → one ≡ other
same_shapes one other same =
    ap (λ (s : SuitShape). record one { spades = s }) (same Spades)
    ∙ (ap (λ (s : SuitShape). record one { spades = other.spades; hearts = s }) (same Hearts)
    ∙ (ap (λ (s : SuitShape). record other { diamonds = s; clubs = one.clubs }) (same Diamonds)
    ∙ ap (λ (s : SuitShape). record other { clubs = s }) (same Clubs)))

-- `==` of two suits as they are stored
pub suits_equal-Decides : (one other : SuitShape) → HasWord one → HasWord other → Decides (nat_eq (word_of one) (word_of other)) (one ≡ other)
suits_equal-Decides one other has has' =
    Decides-like _ (same_from_word one other has has') (ap word_of) (Decides-eqb (word_of one) (word_of other))

-- each suit of a pattern or a rest has a word
pub HaveWords-shape : (fewest most : ℕ) (shape : Shape) → IsShape fewest most shape → HaveWords shape
HaveWords-shape fewest most shape h suit =
    HasWord-fits (suit_of shape suit) (h.four_seats suit) (h.suits suit) (h.owners suit)

-- what ends the list of tests
sure : Decides true (◌≡◌ {A = ℕ} 0 0)
sure = (λ _. refl, λ _. refl)

-- what four tests tell of four suits
pub shapes_equal-Decides : (spades hearts diamonds clubs : Bool) (one other : Shape) → Decides spades (one.spades ≡ other.spades) → Decides hearts (one.hearts ≡ other.hearts) →
    Decides diamonds (one.diamonds ≡ other.diamonds) → Decides clubs (one.clubs ≡ other.clubs) → Decides (spades && (hearts && (diamonds && (clubs && true)))) (one ≡ other)
shapes_equal-Decides spades hearts diamonds clubs one other s h d c =
    Decides-like _ (λ same. same_shapes one other (for_each_suit (λ suit. suit_of one suit ≡ suit_of other suit) same.0 same.1.0 same.1.1.0 same.1.1.1))
    (λ e. (ap (λ (x : Shape). x.spades) e, (ap (λ (x : Shape). x.hearts) e, (ap (λ (x : Shape). x.diamonds) e, ap (λ (x : Shape). x.clubs) e))))
    (Decides-and _ _ s (Decides-and _ _ h (Decides-and _ _ d (Decides-like _ (λ h. h.0) (λ e. (e, refl)) (Decides-and _ _ c sure)))))
