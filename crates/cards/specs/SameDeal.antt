-- What a layout is stored as and its deal name each other, and `==` says whether two layouts are one: the proofs that
-- the model of a layout and its `==` have to cite.
use Rattle.std.proofs.Common.{◌≡◌, ℕ, zero, suc, ◌+◌, ◌<◌, ◌≤◌, ◌^◌, true, false, cond, List, [], ◌∷◌}
use Rattle.std.proofs.Common.{length, map, get_or, Option, None, Some, refl, sym, ◌∙◌, ap, arith}
use Rattle.std.specs.Prelude.{count_ones, slice_index, nat_eq}
use Rattle.std.specs.Int.{bit_at}
use Rattle.std.proofs.lemmas.Nat.Bits.{same_from_bits_below}
use Rattle.std.proofs.lemmas.Simd.{bit_mask_l, mask_l-lt, ones-mask_l}
use Rattle.std.proofs.lemmas.List.FromFn.{get_or-map-range_with_len, length-map-range_with_len}
use Rattle.std.proofs.lemmas.List.{get_or-map, length-map}
use lib.Lanes.{mask_l}
use Rattle.cards.specs.declared.seats.Seat.{Seat}
use Rattle.cards.specs.declared.seats.Seat.TheVariants.{North, East, South, West}
use Rattle.cards.specs.Seats.{is_same_seat}
use Rattle.cards.specs.Deal.{Deal, is_held_by, count_of, is_same_holder, is_same_deal}
use Rattle.cards.specs.Hands.{word_of, holder_by_bits, holder_by_words}
use Rattle.cards.specs.Hands.{deal_of_words, IsDealt, word_of_deal, words_of_deal}
use Rattle.std.specs.Bool.{Decides}
use Rattle.std.specs.Cmp.{IsEquivalence, IsPartialEquivalence, decided, partial_equiv_from_equiv}
use Rattle.std.specs.Cmp.Lexicographic.{pointwise}
use Rattle.std.proofs.lemmas.Bool.Decides.{same_from_decides, Decides-eqb, Decides-like}
use Rattle.std.proofs.lemmas.Slice.Eq.{slice_eq-Decides}

-- a place among four bits
abbrev pub bit_of_seat : Seat → ℕ → ℕ → ℕ → ℕ → ℕ
bit_of_seat North a b c d = a
bit_of_seat East a b c d = b
bit_of_seat South a b c d = c
bit_of_seat West a b c d = d

-- where at most one of four bits is 1, the holder is the seat whose bit it is
held_by_bit :
    (a b c d : ℕ) (seat : Seat) → a + b + c + d ≤ 1 →
    cond (is_held_by seat (holder_by_bits a b c d)) 1 0 ≡ bit_of_seat seat a b c d
held_by_bit zero zero zero zero seat h =
    elim seat as (λ s. cond (is_held_by s (holder_by_bits 0 0 0 0)) 1 0 ≡ bit_of_seat s 0 0 0 0)
    [ North ↦ refl | East ↦ refl | South ↦ refl | West ↦ refl ]
held_by_bit (suc zero) zero zero zero seat h =
    elim seat as (λ s. cond (is_held_by s (holder_by_bits 1 0 0 0)) 1 0 ≡ bit_of_seat s 1 0 0 0)
    [ North ↦ refl | East ↦ refl | South ↦ refl | West ↦ refl ]
held_by_bit zero (suc zero) zero zero seat h =
    elim seat as (λ s. cond (is_held_by s (holder_by_bits 0 1 0 0)) 1 0 ≡ bit_of_seat s 0 1 0 0)
    [ North ↦ refl | East ↦ refl | South ↦ refl | West ↦ refl ]
held_by_bit zero zero (suc zero) zero seat h =
    elim seat as (λ s. cond (is_held_by s (holder_by_bits 0 0 1 0)) 1 0 ≡ bit_of_seat s 0 0 1 0)
    [ North ↦ refl | East ↦ refl | South ↦ refl | West ↦ refl ]
held_by_bit zero zero zero (suc zero) seat h =
    elim seat as (λ s. cond (is_held_by s (holder_by_bits 0 0 0 1)) 1 0 ≡ bit_of_seat s 0 0 0 1)
    [ North ↦ refl | East ↦ refl | South ↦ refl | West ↦ refl ]
held_by_bit _ _ _ _ seat h = absurd (omega arith)

pub bit_of_word :
    (hands : List ℕ) (seat : Seat) (i : ℕ) →
    bit_of_seat seat (bit_at (slice_index hands 0) i) (bit_at (slice_index hands 1) i) (bit_at (slice_index hands 2) i)
    (bit_at (slice_index hands 3) i)
    ≡ bit_at (word_of hands seat) i
bit_of_word hands North i = refl
bit_of_word hands East i = refl
bit_of_word hands South i = refl
bit_of_word hands West i = refl

pub held_by_word :
    (hands : List ℕ) → IsDealt hands → (seat : Seat) (i : ℕ) →
    cond (is_held_by seat (holder_by_words hands i)) 1 0 ≡ bit_at (word_of hands seat) i
held_by_word hands dealt seat i = held_by_bit _ _ _ _ seat (dealt.one_holder i) ∙ bit_of_word hands seat i

pub length-deal_of_words : (hands : List ℕ) → length (deal_of_words hands) ≡ 52
unfolding deal_of_words
length-deal_of_words hands = length-map-range_with_len (holder_by_words hands) 0 52

pub get_or-deal_of_words : (hands : List ℕ) (i : ℕ) → i < 52 → get_or (deal_of_words hands) i None
    ≡ holder_by_words hands i
unfolding deal_of_words
get_or-deal_of_words hands i h = get_or-map-range_with_len (holder_by_words hands) 0 52 i i None h (omega arith)

-- the word of a seat in the deal is the seat's word
pub word_of_deal_of_words : (hands : List ℕ) → IsDealt hands → (seat : Seat) → word_of_deal seat (deal_of_words hands)
    ≡ word_of hands seat
unfolding word_of_deal
word_of_deal_of_words hands dealt seat =
    let bits = map (is_held_by seat) (deal_of_words hands) in
    let len : length bits ≡ 52 = length-map (deal_of_words hands) (is_held_by seat) ∙ length-deal_of_words hands in
    let small : mask_l bits < 2 ^ 52 = rw len at (mask_l-lt bits) in
    same_from_bits_below 52 (mask_l bits) (word_of hands seat) small (dealt.cards_alone seat)
    (λ i h. let lt : i < length (deal_of_words hands) = omega (arith, length-deal_of_words hands) in
    let at : get_or bits i false ≡ is_held_by seat (holder_by_words hands i) =
    get_or-map (is_held_by seat) (deal_of_words hands) i None false lt
    ∙ ap (is_held_by seat) (get_or-deal_of_words hands i h) in
    bit_mask_l bits i ∙ (ap (λ b. cond b 1 0) at ∙ held_by_word hands dealt seat i))

-- how many cards the seat holds is how many bits its word has
pub count_of-deal_of_words : (hands : List ℕ) → IsDealt hands → (seat : Seat) → count_of (deal_of_words hands) seat
    ≡ count_ones (word_of hands seat)
unfolding word_of_deal
count_of-deal_of_words hands dealt seat =
    sym (ones-mask_l (is_held_by seat) (deal_of_words hands)) ∙ ap count_ones (word_of_deal_of_words hands dealt seat)

same_from_four :
    (hands : List ℕ) → length hands ≡ 4 →
    slice_index hands 0 ∷ slice_index hands 1 ∷ slice_index hands 2 ∷ slice_index hands 3 ∷ [] ≡ hands
same_from_four [] h = absurd (omega arith)
same_from_four (a ∷ []) h = absurd (omega arith)
same_from_four (a ∷ b ∷ []) h = absurd (omega arith)
same_from_four (a ∷ b ∷ c ∷ []) h = absurd (omega arith)
same_from_four (a ∷ b ∷ c ∷ d ∷ []) h = refl
same_from_four (a ∷ b ∷ c ∷ d ∷ e ∷ rest) h = absurd (omega arith)

-- the words of the deal are the words
pub words_of_deal_of_words : (hands : List ℕ) → IsDealt hands → words_of_deal (deal_of_words hands) ≡ hands
words_of_deal_of_words hands dealt =
    rw (
      word_of_deal_of_words hands dealt North,
      word_of_deal_of_words hands dealt East,
      word_of_deal_of_words hands dealt South,
      word_of_deal_of_words hands dealt West,
    )
    (same_from_four hands dealt.four)

pub same_seat : (one other : Seat) → is_same_seat one other ≡ true → one ≡ other
same_seat North North h = refl
same_seat East East h = refl
same_seat South South h = refl
same_seat West West h = refl
same_seat _ _ h = cc

pub is_same_seat-refl : (seat : Seat) → is_same_seat seat seat ≡ true
is_same_seat-refl North = refl
is_same_seat-refl East = refl
is_same_seat-refl South = refl
is_same_seat-refl West = refl

same_holders : (one other : Option Seat) → is_same_holder one other ≡ true → one ≡ other
same_holders None None h = refl
same_holders (Some one) (Some other) h = ap Some (same_seat one other h)
same_holders None (Some other) h = cc
same_holders (Some one) None h = cc

holder_itself : (one : Option Seat) → is_same_holder one one ≡ true
holder_itself None = refl
holder_itself (Some one) = is_same_seat-refl one

pub is_same_holder-Decides : (one other : Option Seat) → Decides (is_same_holder one other) (one ≡ other)
is_same_holder-Decides one other = (same_holders one other, λ e. rw (← e) (holder_itself one))

-- `==` on layouts says whether they are the same
pub is_same_deal-Decides : (one other : Deal) → Decides (is_same_deal one other) (one ≡ other)
is_same_deal-Decides one other = slice_eq-Decides is_same_holder-Decides one other (is_same_deal one other) refl

pub is_same_deal-equivalence : IsEquivalence is_same_deal
is_same_deal-equivalence = decided is_same_deal is_same_deal-Decides

pub is_same_deal-laws : IsPartialEquivalence is_same_deal
is_same_deal-laws = partial_equiv_from_equiv is_same_deal-equivalence

-- the words of two layouts are the same exactly where the layouts are
pub same_from_words :
    (one other : List ℕ) → IsDealt one → IsDealt other →
    pointwise nat_eq one other ≡ is_same_deal (deal_of_words one) (deal_of_words other)
same_from_words one other dealt dealt' =
    same_from_decides _ _
    (Decides-like (pointwise nat_eq one other) (λ e. ap deal_of_words e)
    (λ e. sym (words_of_deal_of_words one dealt) ∙ (ap words_of_deal e ∙ words_of_deal_of_words other dealt'))
    (slice_eq-Decides Decides-eqb one other (pointwise nat_eq one other) refl))
    (is_same_deal-Decides (deal_of_words one) (deal_of_words other))
