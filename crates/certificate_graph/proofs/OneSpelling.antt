-- A text that begins with a form begins with one alone.
use Rattle.std.proofs.Common.{◌≡◌, ℕ, ◌^◌, ◌<◌, List, [], ◌∷◌, ◌++◌, refl, ◌∙◌, ap, arith}
use Rattle.std.specs.Fmt.{decimal}
use Rattle.std.specs.Char.{digit_value}
use Rattle.std.specs.Str.Parse.{AllDigits}
use Rattle.std.proofs.lemmas.Fmt.{decimal_is_IsNumeral, decimal_injective}
use Rattle.cards.specs.declared.seats.Seat.{Seat}
use Rattle.cards.specs.declared.seats.Seat.TheVariants.{North, East, South, West}
use Rattle.cards.specs.declared.suits.Suit.{Suit}
use Rattle.cards.specs.declared.suits.Suit.TheVariants.{Spades, Hearts, Diamonds, Clubs}
use Rattle.cards.specs.Seats.{seat_letter}
use Rattle.cards.specs.Pack.{suit_letter}
use Rattle.pattern_step.specs.declared.pat_cards.PatCard.{PatCard}
use Rattle.pattern_step.specs.declared.pat_cards.PatCard.TheVariants.{Top, Low}
use Rattle.certificate_graph.specs.Graphs.{IsCard}
use Rattle.certificate_graph.specs.Texts.{card_text}
use Rattle.certificate_graph.specs.Readings.{StopsDigits}

pub heads : (x y : ℕ) (xs ys : List ℕ) → x ∷ xs ≡ y ∷ ys → x ≡ y
heads x y xs ys h = cc

pub tails : (x y : ℕ) (xs ys : List ℕ) → x ∷ xs ≡ y ∷ ys → xs ≡ ys
tails x y xs ys h = cc

pub one_seat : (s t : Seat) (a b : List ℕ) → seat_letter s ++ a ≡ seat_letter t ++ b → (s ≡ t) × (a ≡ b)
one_seat North North a b h = (refl, tails _ _ a b h)
one_seat East East a b h = (refl, tails _ _ a b h)
one_seat South South a b h = (refl, tails _ _ a b h)
one_seat West West a b h = (refl, tails _ _ a b h)
one_seat _ _ a b h = let e = heads _ _ a b h in absurd (omega arith)

pub one_suit : (s t : Suit) (a b : List ℕ) → suit_letter s ++ a ≡ suit_letter t ++ b → (s ≡ t) × (a ≡ b)
one_suit Spades Spades a b h = (refl, tails _ _ a b h)
one_suit Hearts Hearts a b h = (refl, tails _ _ a b h)
one_suit Diamonds Diamonds a b h = (refl, tails _ _ a b h)
one_suit Clubs Clubs a b h = (refl, tails _ _ a b h)
one_suit _ _ a b h = let e = heads _ _ a b h in absurd (omega arith)

pub one_card : (c d : PatCard) (a b : List ℕ) → IsCard c → IsCard d → card_text c a ≡ card_text d b → (c ≡ d) × (a ≡ b)
one_card (Top s i) (Top t j) a b x y h =
    let suit = one_suit s t _ _ h in
    let i_is_j : i ≡ j = (let e = heads _ _ a b suit.1 in omega arith) in
    (ap (λ (u : Suit). Top u i) suit.0 ∙ ap (Top t) i_is_j, tails _ _ a b suit.1)
one_card (Top s i) (Low t) a b x y h =
    let suit = one_suit s t _ _ h in
    let e = heads _ _ a b suit.1 in absurd (omega arith)
one_card (Low s) (Top t j) a b x y h =
    let suit = one_suit s t _ _ h in
    let e = heads _ _ a b suit.1 in absurd (omega arith)
one_card (Low s) (Low t) a b x y h =
    let suit = one_suit s t _ _ h in
    (ap Low suit.0, tails _ _ a b suit.1)

pub one_digits : (d e a b : List ℕ) → AllDigits 10 d → AllDigits 10 e → StopsDigits a → StopsDigits b → d ++ a ≡ e ++ b → (d ≡ e) × (a ≡ b)
one_digits [] [] a b p q r s h = (refl, h)
one_digits [] (y ∷ ys) [] b p q r s h = cc
one_digits [] (y ∷ ys) (x ∷ xs) b p q r s h = let e : digit_value x ≡ digit_value y = ap digit_value (heads x y xs (ys ++ b) h) in absurd (omega (arith, q.0))
one_digits (x ∷ xs) [] a [] p q r s h = cc
one_digits (x ∷ xs) [] a (y ∷ ys) p q r s h = let e : digit_value x ≡ digit_value y = ap digit_value (heads x y (xs ++ a) ys h) in absurd (omega (arith, p.0))
one_digits (x ∷ xs) (y ∷ ys) a b p q r s h =
    let more = one_digits xs ys a b p.1 q.1 r s (tails x y (xs ++ a) (ys ++ b) h) in
    (ap (λ n. n ∷ xs) (heads x y (xs ++ a) (ys ++ b) h) ∙ ap (λ list. y ∷ list) more.0, more.1)

pub one_number : (m n : ℕ) (a b : List ℕ) → m < 2 ^ 64 → n < 2 ^ 64 → StopsDigits a → StopsDigits b → decimal m ++ a ≡ decimal n ++ b → (m ≡ n) × (a ≡ b)
one_number m n a b p q r s h =
    let same = one_digits (decimal m) (decimal n) a b (decimal_is_IsNumeral m p).0.1 (decimal_is_IsNumeral n q).0.1 r s h in
    (decimal_injective m n p q same.0, same.1)
