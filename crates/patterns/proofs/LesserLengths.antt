-- The lesser of two words' lengths, and what a borrow between them tells.
use Rattle.std.proofs.Common.{◌≡◌, ℕ, ◌+◌, ◌-◌, ◌/◌, ◌%◌, ◌^◌, ◌<◌, ◌≤◌, min, ◌∙◌, ap, refl, arith}
use Rattle.std.specs.Prelude.{bit_and, bit_xor}
use Rattle.std.specs.Int.{bit_at}
use Rattle.std.proofs.lemmas.Nat.Bits.{bit_at_and, bit_at_xor, bit_at-lt, bit_at-zero}
use Rattle.std.proofs.lemmas.Nat.{and_mask}
use Rattle.cards.specs.declared.seats.Seat.{Seat}
use Rattle.patterns.specs.Shapes.{SuitShape, len_of}
use Rattle.patterns.specs.Words.{suit_in, IsSuitWord}
use Rattle.patterns.proofs.SeatLaws.{for_each_seat}
use Rattle.patterns.proofs.SuitWords.{suit_left}

-- the bits of two numbers and their difference, where nothing is borrowed from the bit above a length
even_at : (one other apart i : ℕ) → bit_at 69904 i ≡ 1 → bit_and (bit_xor (bit_xor one other) apart) 69904 ≡ 0 → (bit_at one i + bit_at other i + bit_at apart i) % 2 ≡ 0
even_at one other apart i is none =
    let zero : bit_at (bit_and (bit_xor (bit_xor one other) apart) 69904) i ≡ 0 = ap (λ n. bit_at n i) none ∙ bit_at-zero i in
    let both = bit_at_and (bit_xor (bit_xor one other) apart) 69904 i in
    omega (arith, zero, is, both, bit_at-lt (bit_xor (bit_xor one other) apart) i, bit_at_xor (bit_xor one other) apart i, bit_at_xor one other i)

-- each length of the other is then within that of the one
lens_within : (one other apart : ℕ) → one < 2 ^ 64 → other < 2 ^ 16 → apart ≡ (one + (2 ^ 64 - other)) % 2 ^ 64 → bit_and (bit_xor (bit_xor one other) apart) 69904 ≡ 0 →
    (seat : Seat) → len_of (suit_in other) seat ≤ len_of (suit_in one) seat
lens_within one other apart wide below is none =
    for_each_seat _
    (go4 (even_at one other apart 4 refl none))
    (go8 (even_at one other apart 8 refl none))
    (go12 (even_at one other apart 12 refl none))
    (go16 (even_at one other apart 16 refl none))
  where
    go4 : (one / 2 ^ 4 % 2 + other / 2 ^ 4 % 2 + apart / 2 ^ 4 % 2) % 2 ≡ 0 → other % 2 ^ 4 ≤ one % 2 ^ 4
    go4 even = omega (arith, is)

    go8 : (one / 2 ^ 8 % 2 + other / 2 ^ 8 % 2 + apart / 2 ^ 8 % 2) % 2 ≡ 0 → other / 2 ^ 4 % 2 ^ 4 ≤ one / 2 ^ 4 % 2 ^ 4
    go8 even = omega (arith, is)

    go12 : (one / 2 ^ 12 % 2 + other / 2 ^ 12 % 2 + apart / 2 ^ 12 % 2) % 2 ≡ 0 → other / 2 ^ 8 % 2 ^ 4 ≤ one / 2 ^ 8 % 2 ^ 4
    go12 even = omega (arith, is)

    go16 : (one / 2 ^ 16 % 2 + other / 2 ^ 16 % 2 + apart / 2 ^ 16 % 2) % 2 ≡ 0 → other / 2 ^ 12 % 2 ^ 4 ≤ one / 2 ^ 12 % 2 ^ 4
    go16 even = omega (arith, is)

-- sixteen bits tell the lengths
lens_masked : (other : ℕ) → (seat : Seat) → len_of (suit_in (other % 2 ^ 16)) seat ≡ len_of (suit_in other) seat
lens_masked other = for_each_seat _ (omega arith) (omega arith) (omega arith) (omega arith)

-- without a borrow the other's lengths are the lesser ones
pub lesser_is_other : (one other apart : ℕ) → one < 2 ^ 64 → apart ≡ (one + (2 ^ 64 - bit_and other 65535)) % 2 ^ 64 → bit_and (bit_xor (bit_xor one (bit_and other 65535)) apart) 69904 ≡ 0 →
    (seat : Seat) → len_of (suit_in (bit_and other 65535)) seat ≡ min (len_of (suit_in one) seat) (len_of (suit_in other) seat)
lesser_is_other one other apart wide is none seat =
    let low : bit_and other 65535 ≡ other % 2 ^ 16 = and_mask other 16 in
    let below : bit_and other 65535 < 2 ^ 16 = omega (arith, low) in
    let within = lens_within one (bit_and other 65535) apart wide below is none seat in
    let same : len_of (suit_in (bit_and other 65535)) seat ≡ len_of (suit_in other) seat = ap (λ n. len_of (suit_in n) seat) low ∙ lens_masked other seat in
    omega (arith, within, same)

-- what is left of a suit whose word loses the lesser lengths
pub record LeftOfSuit (suit : SuitShape) (word lens lesser : ℕ) : Type 0 where
  pub fits : lesser ≤ word
  pub is_word : IsSuitWord (word - lesser)
  pub each : (seat : Seat) → len_of (suit_in (word - lesser)) seat ≡ len_of suit seat - len_of (suit_in lens) seat
  pub owners : (suit_in (word - lesser)).owners ≡ suit.owners

pub left_of_suit : (suit : SuitShape) (word lens lesser : ℕ) → suit_in word ≡ suit → IsSuitWord word → lesser < 2 ^ 16 →
    ((seat : Seat) → len_of (suit_in lesser) seat ≡ min (len_of (suit_in word) seat) (len_of (suit_in lens) seat)) → LeftOfSuit suit word lens lesser
left_of_suit suit word lens lesser told is below least =
    let here : (seat : Seat) → len_of (suit_in word) seat ≡ len_of suit seat = λ seat. ap (λ (s : SuitShape). len_of s seat) told in
    let left = suit_left word lesser suit told is below (λ seat. omega (arith, least seat, here seat)) in
    record {
      fits = left.fits;
      is_word = left.is_word;
      each = λ seat. omega (arith, left.each seat, least seat, here seat);
      owners = left.owners;
    }
