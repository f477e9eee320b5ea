-- The places whose tops were played, a bit each.
use Rattle.std.proofs.Common.{◌≡◌, ℕ, zero, suc, ◌+◌, ◌*◌, ◌%◌, ◌^◌, ◌<◌, ◌≤◌, Bool, not, ◌||◌, eqb, List, [], ◌∷◌, length, max, refl, sym, ◌∙◌, ap, inl, inr, arith}
use Rattle.std.specs.List.{list_any}
use Rattle.std.specs.Prelude.{bit_or}
use Rattle.std.specs.Int.{bit_at}
use Rattle.std.proofs.lemmas.Bool.{eq-eqb, ne_eqb, cases_eq}
use Rattle.std.proofs.lemmas.Nat.{one_shl}
use Rattle.std.proofs.lemmas.Nat.Bits.{bit_at_or, bit_at-lt, bit_at-pow_same, bit_at-pow_other}
use Rattle.cards.specs.declared.suits.Suit.{Suit}
use Rattle.cards.specs.declared.seats.Seat.{Seat}
use Rattle.patterns.specs.Removals.{is_among, owners_but}
use Rattle.pattern_step.specs.declared.pat_cards.PatCard.{PatCard}
use Rattle.pattern_step.specs.PatCards.{is_top}
use Rattle.pattern_step.specs.Tricks.{owners_left}
use Rattle.pattern_step.proofs.TrickLaws.{left_from, left_from-is, kept, owners_left-is}

-- of two numbers
pub is_among-or : (a b place : ℕ) → is_among (bit_or a b) place ≡ (is_among a place || is_among b place)
is_among-or a b place = ap (λ n. eqb n 1) (bit_at_or a b place) ∙ go (bit_at a place) (bit_at b place) (bit_at-lt a place) (bit_at-lt b place)
  where
    go : (x y : ℕ) → x < 2 → y < 2 → eqb (max x y) 1 ≡ (eqb x 1 || eqb y 1)
    go zero zero h h' = refl
    go zero (suc zero) h h' = refl
    go (suc zero) zero h h' = refl
    go (suc zero) (suc zero) h h' = refl
    go (suc (suc x)) y h h' = absurd (omega arith)
    go zero (suc (suc y)) h h' = absurd (omega arith)
    go (suc zero) (suc (suc y)) h h' = absurd (omega arith)

-- of one bit
pub is_among-one : (of place : ℕ) → of < 64 → is_among (1 * 2 ^ of % 2 ^ 64) place ≡ eqb of place
is_among-one of place small = ap (λ n. is_among n place) (one_shl of 64 small) ∙ elim (cases_eq of place) [
  | inl same ↦ ap (λ n. eqb (bit_at (2 ^ of) n) 1) (sym same) ∙ (ap (λ n. eqb n 1) (bit_at-pow_same of) ∙ sym (eq-eqb of place same))
  | inr apart ↦ ap (λ n. eqb n 1) (bit_at-pow_other of place (λ e. apart (sym e))) ∙ sym (ne_eqb of place apart)
]

-- what is kept by one test is kept by another that is the same
left_from-same : {X : Type 0} (one other : ℕ → Bool) (a : ℕ) (xs : List X) → ((i : ℕ) → i < a + length xs → one i ≡ other i) → left_from one a xs ≡ left_from other a xs
unfolding left_from
left_from-same one other a [] same = refl
left_from-same one other a (x ∷ xs) same =
    rw (same a (omega arith), left_from-same one other (a + 1) xs (λ i less. same i (omega arith))) refl

-- the owners left are those in all places but the places played
pub owners_left-but : (cards : List PatCard) (suit : Suit) (places : ℕ) (owners : List Seat) → length owners ≤ 13 → ((place : ℕ) → place < 13 → is_among places place ≡ list_any (is_top suit place) cards) →
    owners_but places owners ≡ owners_left cards suit owners
owners_left-but cards suit places owners few told =
    left_from-is (λ i. not (is_among places i)) 0 owners
    ∙ (left_from-same (λ i. not (is_among places i)) (kept cards suit) 0 owners (λ i less. ap not (told i (omega arith)))
    ∙ sym (owners_left-is cards suit owners))
