-- A word is got back from the suit that it tells, and four words from their suits: so suits that are the same have the
-- same words.
use Rattle.std.specs.Prelude.{◌≡◌, ℕ, zero, suc, ◌+◌, ◌*◌, ◌/◌, ◌%◌, ◌^◌, ◌<◌, List, [], ◌∷◌, length, slice_index}
use Rattle.std.proofs.Common.{refl, ◌∙◌, ap, arith}
use Rattle.std.proofs.lemmas.Nat.{pow-add}
use Rattle.cards.specs.declared.suits.Suit.TheVariants.{Spades, Hearts, Diamonds, Clubs}
use Rattle.cards.specs.Seats.{seat_number}
use Rattle.patterns.specs.Words.{seat_at, owners_in, owner_bits, owner_count, suit_in}
use Rattle.patterns.specs.Words.{word_of, IsSuitWord, words_of, shape_in, AreWords}

-- one place more has two bits more
pub place_more : (k : ℕ) → 2 ^ (2 * suc k) ≡ 4 * 2 ^ (2 * k)
place_more k =
    let e : 2 * suc k ≡ 2 + 2 * k = omega arith in
    ap (λ n. 2 ^ n) e ∙ pow-add 2 2 (2 * k)

pub number_at : (n : ℕ) → n < 4 → seat_number (seat_at n) ≡ n
number_at zero h = refl
number_at (suc zero) h = refl
number_at (suc (suc zero)) h = refl
number_at (suc (suc (suc zero))) h = refl
number_at (suc (suc (suc (suc n)))) h = absurd (omega arith)

pub length-owners_in : (k n : ℕ) → length (owners_in k n) ≡ k
length-owners_in zero n = refl
length-owners_in (suc k) n = ap suc (length-owners_in k (n / 4))

-- the bits of the owners that bits tell
pub owner_bits-owners_in : (k n : ℕ) → n < 2 ^ (2 * k) → owner_bits (owners_in k n) ≡ n
owner_bits-owners_in zero n h = omega arith
owner_bits-owners_in (suc k) n h =
    let more = place_more k in
    let four = number_at (n % 4) (omega arith) in
    let rest = owner_bits-owners_in k (n / 4) (omega arith) in
    omega (arith, four, rest)

-- the word of the suit that a word tells
pub word_of-suit_in : (word : ℕ) → IsSuitWord word → word_of (suit_in word) ≡ word
word_of-suit_in word h =
    let len = length-owners_in (owner_count word) (word / 2 ^ 20) in
    let bits = owner_bits-owners_in (owner_count word) (word / 2 ^ 20) h.blank in
    rw (len, bits) (omega arith)

pub four_are : (xs : List ℕ) → length xs ≡ 4
    → (slice_index xs 0 ∷ slice_index xs 1 ∷ slice_index xs 2 ∷ slice_index xs 3 ∷ []) ≡ xs
four_are [] h = absurd (omega arith)
four_are (a ∷ []) h = absurd (omega arith)
four_are (a ∷ b ∷ []) h = absurd (omega arith)
four_are (a ∷ b ∷ c ∷ []) h = absurd (omega arith)
four_are (a ∷ b ∷ c ∷ d ∷ []) h = refl
four_are (a ∷ b ∷ c ∷ d ∷ e ∷ xs) h = absurd (omega arith)

-- four words are those of the suits that they tell
pub words_of-shape_in : (words : List ℕ) → AreWords words → words_of (shape_in words) ≡ words
words_of-shape_in words h =
    rw (
      word_of-suit_in (slice_index words 0) (h.each Spades),
      word_of-suit_in (slice_index words 1) (h.each Hearts),
      word_of-suit_in (slice_index words 2) (h.each Diamonds),
      word_of-suit_in (slice_index words 3) (h.each Clubs),
    )
    (four_are words h.four)
