-- What a play makes of the hands and of the lengths.
use Rattle.std.proofs.Common.{◌≡◌, ◌≢◌, ℕ, ◌+◌, ◌-◌, ◌*◌, ◌/◌, ◌%◌, ◌^◌, ◌<◌, ◌≤◌, inl, inr, sym, ◌∙◌, ap, subst, arith, List, length, set, get_or}
use Rattle.std.specs.Int.Bits.{bit_and}
use Rattle.std.proofs.lemmas.Bool.{cases_lt}
use Rattle.std.proofs.lemmas.List.{get_or-set_same, get_or_past, set_past, set-set, set-get_or}
use Rattle.std.proofs.lemmas.Nat.{and_le_l, pow_pos, pow-add, shr-shr, shr_split, shr_high, le-div, div_below}
use Rattle.partition_search.specs.declared.positions.Holdings.{Holdings}
use Rattle.partition_search.specs.declared.positions.Before.{Before}
use Rattle.partition_search.specs.Cards.{AreWithout}
use Rattle.partition_search.specs.Seats.{length_of, HasOneFewer, Plays, before_of, put_back_to}
use Rattle.partition_search.proofs.SetLaws.{without}

-- ---- one card fewer of a suit

-- a multiple of a power less, from that power's place on
less_shr : (a m k : ℕ) → m * 2 ^ k ≤ a → (m ≤ a / 2 ^ k) × ((a - m * 2 ^ k) / 2 ^ k ≡ a / 2 ^ k - m)
less_shr a m k le =
    let split = shr_split a k in
    let fits : m ≤ a / 2 ^ k = le-div m a (2 ^ k) (pow_pos k) le in
    let rest : a % 2 ^ k < 2 ^ k = omega (arith, pow_pos k) in
    let parts : a / 2 ^ k ≡ a / 2 ^ k - m + m = omega (arith, fits) in
    let sum : (a / 2 ^ k - m + m) * 2 ^ k ≡ (a / 2 ^ k - m) * 2 ^ k + m * 2 ^ k = grind arith in
    let whole : a - m * 2 ^ k ≡ (a / 2 ^ k - m) * 2 ^ k + a % 2 ^ k = omega (arith, split, sum, ap (λ n. n * 2 ^ k) parts) in
    (fits, ap (λ n. n / 2 ^ k) whole ∙ shr_high (a / 2 ^ k - m) k (a % 2 ^ k) rest)

-- one less in four bits that are not 0, and what stands below and above
module _ (a k : ℕ) (some : 0 < a / 2 ^ k % 16) where
  pub at_least : 2 ^ k ≤ a
  at_least = elim (cases_lt a (2 ^ k)) [
    | inl less ↦ absurd (omega (arith, some, div_below a (2 ^ k) 1 (pow_pos k) (omega (arith, less))))
    | inr le ↦ le
  ]

  one_less : (a - 2 ^ k) / 2 ^ k ≡ a / 2 ^ k - 1
  one_less = let once : 1 * 2 ^ k ≡ 2 ^ k = omega arith in ap (λ n. (a - n) / 2 ^ k) (sym once) ∙ (less_shr a 1 k (omega (arith, at_least))).1

  less_here : (a - 2 ^ k) / 2 ^ k % 16 + 1 ≡ a / 2 ^ k % 16
  less_here = omega (arith, one_less, some)

  less_below : (j : ℕ) → j + 4 ≤ k → (a - 2 ^ k) / 2 ^ j % 16 ≡ a / 2 ^ j % 16
  less_below j below =
      let e = k - (j + 4) in
      let split : k ≡ e + 4 + j = omega (arith, below) in
      let power : 2 ^ k ≡ 2 ^ e * 16 * 2 ^ j = ap (λ n. 2 ^ n) split ∙ pow-add 2 (e + 4) j ∙ ap (λ n. n * 2 ^ j) (pow-add 2 e 4) in
      let less = less_shr a (2 ^ e * 16) j (omega (arith, power, at_least)) in
      let there : (a - 2 ^ k) / 2 ^ j ≡ a / 2 ^ j - 2 ^ e * 16 = ap (λ n. (a - n) / 2 ^ j) power ∙ less.1 in
      omega (arith, there, less.0)

  less_above : (j : ℕ) → k + 4 ≤ j → (a - 2 ^ k) / 2 ^ j % 16 ≡ a / 2 ^ j % 16
  less_above j above =
      let e = j - (k + 4) in
      let split : k + 4 + e ≡ j = omega (arith, above) in
      let down : (n : ℕ) → n / 2 ^ k / 2 ^ 4 / 2 ^ e ≡ n / 2 ^ j =
      λ n. ap (λ m. m / 2 ^ e) (shr-shr n k 4) ∙ shr-shr n (k + 4) e ∙ ap (λ m. n / 2 ^ m) split in
      let same : (a - 2 ^ k) / 2 ^ k / 2 ^ 4 ≡ a / 2 ^ k / 2 ^ 4 = omega (arith, one_less, some) in
      ap (λ n. n % 16) (sym (down (a - 2 ^ k)) ∙ ap (λ n. n / 2 ^ e) same ∙ down a)

pub one_fewer : (lengths suit seat : ℕ) → 0 < length_of lengths suit seat → HasOneFewer lengths (lengths - 2 ^ (16 * suit + 4 * (seat % 4))) suit seat
one_fewer lengths suit seat some = record {
  here = less_here lengths (16 * suit + 4 * (seat % 4)) some;
  elsewhere = λ other player s p apart. elim (cases_lt (16 * other + 4 * (player % 4)) (16 * suit + 4 * (seat % 4))) [
    | inl below ↦ less_below lengths (16 * suit + 4 * (seat % 4)) some (16 * other + 4 * (player % 4)) (omega (arith, below))
    | inr le ↦
        let not_here : 16 * other + 4 * (player % 4) ≢ 16 * suit + 4 * (seat % 4) =
        λ same. elim apart [ inl suits ↦ suits (omega (arith, same)) | inr seats ↦ seats (omega (arith, same, p)) ] in
        less_above lengths (16 * suit + 4 * (seat % 4)) some (16 * other + 4 * (player % 4)) (omega (arith, le, not_here))
  ];
}

-- `wrapping_sub`
pub one_fewer_in_word : (lengths suit seat one : ℕ) → lengths < 2 ^ 64 → one ≡ 2 ^ (16 * suit + 4 * (seat % 4)) → 0 < length_of lengths suit seat →
    HasOneFewer lengths ((lengths + (2 ^ 64 - one)) % 2 ^ 64) suit seat
one_fewer_in_word lengths suit seat one fits is some =
    let least = at_least lengths (16 * suit + 4 * (seat % 4)) some in
    let same : lengths - 2 ^ (16 * suit + 4 * (seat % 4)) ≡ (lengths + (2 ^ 64 - one)) % 2 ^ 64 = omega (arith, fits, is, least) in
    subst (λ new. HasOneFewer lengths new suit seat) same (one_fewer lengths suit seat some)

-- ---- the hands

module _ (hands : List ℕ) (place : ℕ) where
  pub hand_without : (card : ℕ) → get_or hands place 0 < 2 ^ 64 → card < 2 ^ 64 →
      AreWithout (get_or hands place 0) card (get_or (set hands place (bit_and (get_or hands place 0) (2 ^ 64 - 1 - card))) place 0)
  hand_without card fits card_fits = elim (cases_lt place (length hands)) [
    | inl within ↦
        subst (AreWithout (get_or hands place 0) card) (sym (get_or-set_same hands place (bit_and (get_or hands place 0) (2 ^ 64 - 1 - card)) 0 within)) (without (get_or hands place 0) card fits card_fits)
    | inr past ↦
        let none : get_or hands place 0 ≡ 0 = get_or_past hands place 0 past in
        let left : bit_and (get_or hands place 0) (2 ^ 64 - 1 - card) ≡ get_or (set hands place (bit_and (get_or hands place 0) (2 ^ 64 - 1 - card))) place 0 =
        omega (arith, none, and_le_l (get_or hands place 0) (2 ^ 64 - 1 - card), ap (λ (l : List ℕ). get_or l place 0) (set_past hands place (bit_and (get_or hands place 0) (2 ^ 64 - 1 - card)) past)) in
        subst (AreWithout (get_or hands place 0) card) left (without (get_or hands place 0) card fits card_fits)
  ]

  pub set_read : (hand : ℕ) → set hands place hand ≡ set hands place (get_or (set hands place hand) place 0)
  set_read hand = sym (set-get_or (set hands place hand) place 0) ∙ set-set hands place hand (get_or (set hands place hand) place 0)

-- a play is taken back
pub restored : (held played : Holdings) (seat card : ℕ) (before : Before) → Plays held played seat card → before ≡ before_of held seat → put_back_to played seat before ≡ held
restored held played seat card before plays is =
    ap (λ (b : Before). put_back_to played seat b) is
    ∙ ap (λ (hands : List ℕ). record { hands = hands; lengths = held.lengths })
    (ap (λ (hands : List ℕ). set hands (seat % 4) (get_or held.hands (seat % 4) 0)) plays.others
    ∙ set-set held.hands (seat % 4) _ (get_or held.hands (seat % 4) 0) ∙ set-get_or held.hands (seat % 4) 0)

-- a play
pub plays_card : (held : Holdings) (seat card place one : ℕ) → place ≡ seat % 4 → get_or held.hands (seat % 4) 0 < 2 ^ 64 → held.lengths < 2 ^ 64 → card < 2 ^ 64 →
    ((bit : ℕ) → card ≡ 2 ^ bit → one ≡ 2 ^ (16 * (bit / 16) + 4 * (seat % 4))) →
    Plays held (record { hands = set held.hands place (bit_and (get_or held.hands place 0) (2 ^ 64 - 1 - card)); lengths = (held.lengths + (2 ^ 64 - one)) % 2 ^ 64 }) seat card
plays_card held seat card place one place_is hand_fits lengths_fit card_fits one_is =
    subst (λ (at : ℕ). Plays held (record { hands = set held.hands at (bit_and (get_or held.hands at 0) (2 ^ 64 - 1 - card)); lengths = (held.lengths + (2 ^ 64 - one)) % 2 ^ 64 }) seat card)
    (sym place_is)
    (record {
      hand = hand_without held.hands (seat % 4) card hand_fits card_fits;
      others = set_read held.hands (seat % 4) (bit_and (get_or held.hands (seat % 4) 0) (2 ^ 64 - 1 - card));
      fewer = λ bit is some. one_fewer_in_word held.lengths (bit / 16) seat one lengths_fit (one_is bit is) some;
    })
