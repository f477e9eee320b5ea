-- A seat's tops of a suit, listed by the bits of their places, the lowest first.
use Rattle.std.proofs.Common.{◌≡◌, ℕ, zero, suc, ◌+◌, ◌-◌, ◌*◌, ◌/◌, ◌%◌, ◌^◌, ◌<◌, ◌≤◌, Bool, true, false, cond, eqb, List, [], ◌∷◌, ◌++◌, length, get_or, take, refl, sym, ◌∙◌, ap, arith}
use Rattle.std.specs.Prelude.{bit_and}
use Rattle.std.specs.Int.{bit_at, trailing_zeros, w64}
use Rattle.std.proofs.lemmas.Bool.{eq-eqb, ne_eqb}
use Rattle.std.proofs.lemmas.Nat.{pow-add}
use Rattle.std.proofs.lemmas.Nat.Bits.{bit_at-trailing_zeros, bit_at-suc, bit_at_lowest}
use Rattle.std.proofs.lemmas.List.{take_more, take_all, length-append, length-take-le, append_assoc, append-nil}
use Rattle.cards.specs.declared.suits.Suit.{Suit}
use Rattle.cards.specs.declared.seats.Seat.{Seat}
use Rattle.cards.specs.declared.seats.Seat.TheVariants.{North}
use Rattle.cards.specs.Deal.{is_held_by}
use Rattle.cards.specs.Seats.{is_same_seat}
use Rattle.patterns.specs.Shapes.{SuitShape, Shape, suit_of, tops_of, IsPattern}
use Rattle.patterns.specs.Words.{places_of}
use Rattle.patterns.proofs.Removals.{lowest_cleared}
use Rattle.pattern_step.specs.declared.pat_cards.PatCard.{PatCard}
use Rattle.pattern_step.specs.declared.pat_cards.PatCard.TheVariants.{Top}
use Rattle.pattern_step.proofs.PatCardLaws.{slice_get-at, owners-le-13, tops_in, tops_in-more, length-tops_in-all}

-- the tops in these places, which have bits 0, 2, 4 and so on, where the first is place i
abbrev pub tops_at : Suit → ℕ → ℕ → ℕ → List PatCard
tops_at suit i zero places = []
tops_at suit i (suc k) places = cond (eqb (places % 2) 1) (Top suit i ∷ tops_at suit (i + 1) k (places / 4)) (tops_at suit (i + 1) k (places / 4))

-- only these bits are 1
abbrev pub AreEven : ℕ → ℕ → Type 0
AreEven zero places = places ≡ 0
AreEven (suc k) places = (places % 4 < 2) × AreEven k (places / 4)

pub tops_at-none : (suit : Suit) (i k : ℕ) → tops_at suit i k 0 ≡ []
tops_at-none suit i zero = refl
tops_at-none suit i (suc k) = tops_at-none suit (i + 1) k

bit_two : (n t : ℕ) → bit_at n (suc (suc t)) ≡ bit_at (n / 4) t
bit_two n t = let e : n / 2 / 2 ≡ n / 4 = omega arith in bit_at-suc n (suc t) ∙ (bit_at-suc (n / 2) t ∙ ap (λ m. bit_at m t) e)

four_more : (t : ℕ) → 2 ^ suc (suc t) ≡ 4 * 2 ^ t
four_more t = let e : suc (suc t) ≡ 2 + t = omega arith in ap (λ n. 2 ^ n) e ∙ pow-add 2 2 t

-- the lowest bit is the first top, and without it the others are left
pub record LowestTop (suit : Suit) (i k places t : ℕ) : Type 0 where
  pub inside : t / 2 < k
  pub fits : 2 ^ t ≤ places
  pub first : tops_at suit i k places ≡ Top suit (i + t / 2) ∷ tops_at suit i k (places - 2 ^ t)
  pub even : AreEven k (places - 2 ^ t)

lowest : (suit : Suit) (i k places t : ℕ) → AreEven k places → bit_at places t ≡ 1 → ((j : ℕ) → j < t → bit_at places j ≡ 0) → LowestTop suit i k places t
lowest suit i zero places t even one none = absurd (omega (arith, even, one, ap (λ n. bit_at n t) even))
lowest suit i (suc k) places zero even one none =
    let odd : places % 2 ≡ 1 = sym (bit_at_lowest places) ∙ one in
    let low : (places - 1) % 2 ≡ 0 = omega (arith, odd) in
    let high : (places - 1) / 4 ≡ places / 4 = omega (arith, odd) in
    let four : (places - 1) % 4 < 2 = omega (arith, odd, even.0) in
    let e : i + 0 ≡ i = omega arith in
    record {
      inside = omega arith;
      fits = omega (arith, odd);
      first = rw (e, eq-eqb (places % 2) 1 odd, ne_eqb ((places - 1) % 2) 1 (omega (arith, low)), high) refl;
      even = (four, rw high even.1);
    }
lowest suit i (suc k) places (suc zero) even one none =
    absurd (omega (arith, even.0, bit_at-suc places 0, bit_at_lowest (places / 2), one))
lowest suit i (suc k) places (suc (suc t)) even one none =
    let zero_low : places % 2 ≡ 0 = sym (bit_at_lowest places) ∙ none 0 (omega arith) in
    let low : places % 4 ≡ 0 = omega (arith, zero_low, even.0) in
    let rest = lowest suit (i + 1) k (places / 4) t even.1 (sym (bit_two places t) ∙ one) (λ j less. sym (bit_two places j) ∙ none (suc (suc j)) (omega arith)) in
    let more = four_more t in
    let high : (places - 2 ^ suc (suc t)) / 4 ≡ places / 4 - 2 ^ t = omega (arith, more, low) in
    let still : (places - 2 ^ suc (suc t)) % 4 ≡ 0 = omega (arith, more, low, rest.fits) in
    let e : i + suc (suc t) / 2 ≡ i + 1 + t / 2 = omega arith in
    record {
      inside = omega (arith, rest.inside);
      fits = omega (arith, more, low, rest.fits);
      first = rw (e, ne_eqb (places % 2) 1 (omega (arith, low)), ne_eqb ((places - 2 ^ suc (suc t)) % 2) 1 (omega (arith, still)), high) rest.first;
      even = (omega (arith, still), rw high rest.even);
    }

-- as the code takes it out
pub lowest_top : (suit : Suit) (k places : ℕ) → AreEven k places → 0 < places → places < 2 ^ 64 → LowestTop suit 0 k places (trailing_zeros w64 places)
lowest_top suit k places even some wide =
    let tz = bit_at-trailing_zeros w64 places some wide in
    lowest suit 0 k places (trailing_zeros w64 places) even tz.1 tz.2

-- the places of an owner are even
pub places_even : (seat : Seat) (owners : List Seat) → AreEven (length owners) (places_of seat owners)
places_even seat [] = refl
places_even seat (owner ∷ owners) = go (is_same_seat seat owner) (places_even seat owners)
  where
    go : (b : Bool) → AreEven (length owners) (places_of seat owners) → AreEven (suc (length owners)) (cond b 1 0 + 4 * places_of seat owners)
    go true rest = let high : (1 + 4 * places_of seat owners) / 4 ≡ places_of seat owners = omega arith in (omega arith, rw high rest)
    go false rest = let high : (0 + 4 * places_of seat owners) / 4 ≡ places_of seat owners = omega arith in (omega arith, rw high rest)

-- the tops of an owner, from the front
abbrev own_tops : Suit → ℕ → Seat → List Seat → List PatCard
own_tops suit i seat [] = []
own_tops suit i seat (owner ∷ owners) = cond (is_same_seat seat owner) (Top suit i ∷ own_tops suit (i + 1) seat owners) (own_tops suit (i + 1) seat owners)

tops_at-own : (suit : Suit) (i : ℕ) (seat : Seat) (owners : List Seat) → tops_at suit i (length owners) (places_of seat owners) ≡ own_tops suit i seat owners
tops_at-own suit i seat [] = refl
tops_at-own suit i seat (owner ∷ owners) = go (is_same_seat seat owner) (tops_at-own suit (i + 1) seat owners)
  where
    go : (b : Bool) → tops_at suit (i + 1) (length owners) (places_of seat owners) ≡ own_tops suit (i + 1) seat owners →
        tops_at suit i (suc (length owners)) (cond b 1 0 + 4 * places_of seat owners) ≡ cond b (Top suit i ∷ own_tops suit (i + 1) seat owners) (own_tops suit (i + 1) seat owners)
    go true e =
        let low : (1 + 4 * places_of seat owners) % 2 ≡ 1 = omega arith in
        let high : (1 + 4 * places_of seat owners) / 4 ≡ places_of seat owners = omega arith in
        rw (eq-eqb ((1 + 4 * places_of seat owners) % 2) 1 low, high, e) refl
    go false e =
        let low : (0 + 4 * places_of seat owners) % 2 ≡ 0 = omega arith in
        let high : (0 + 4 * places_of seat owners) / 4 ≡ places_of seat owners = omega arith in
        rw (ne_eqb ((0 + 4 * places_of seat owners) % 2) 1 (omega (arith, low)), high, e) refl

own_tops-push : (suit : Suit) (i : ℕ) (seat : Seat) (owners : List Seat) (one : Seat) →
    own_tops suit i seat (owners ++ one ∷ []) ≡ own_tops suit i seat owners ++ cond (is_same_seat seat one) (Top suit (i + length owners) ∷ []) []
own_tops-push suit i seat [] one = let e : i + 0 ≡ i = omega arith in rw e refl
own_tops-push suit i seat (owner ∷ owners) one =
    let e : i + 1 + length owners ≡ i + suc (length owners) = omega arith in
    go (is_same_seat seat owner) (own_tops-push suit (i + 1) seat owners one ∙ ap (λ n. own_tops suit (i + 1) seat owners ++ cond (is_same_seat seat one) (Top suit n ∷ []) []) e)
  where
    go : (b : Bool) → own_tops suit (i + 1) seat (owners ++ one ∷ []) ≡ own_tops suit (i + 1) seat owners ++ cond (is_same_seat seat one) (Top suit (i + suc (length owners)) ∷ []) [] →
        cond b (Top suit i ∷ own_tops suit (i + 1) seat (owners ++ one ∷ [])) (own_tops suit (i + 1) seat (owners ++ one ∷ []))
        ≡ cond b (Top suit i ∷ own_tops suit (i + 1) seat owners) (own_tops suit (i + 1) seat owners) ++ cond (is_same_seat seat one) (Top suit (i + suc (length owners)) ∷ []) []
    go true e = ap (λ xs. Top suit i ∷ xs) e
    go false e = e

-- they are the tops that the seat has
own_tops-in : (shape : Shape) (seat : Seat) (suit : Suit) (n : ℕ) → n ≤ 13 → n ≤ length (suit_of shape suit).owners → own_tops suit 0 seat (take n (suit_of shape suit).owners) ≡ tops_in shape seat suit n
own_tops-in shape seat suit zero h within = refl
own_tops-in shape seat suit (suc n) h within =
    let owners = (suit_of shape suit).owners in
    let before = own_tops-in shape seat suit n (omega arith) (omega arith) in
    let e : suc n ≡ n + 1 = omega arith in
    let len : 0 + length (take n owners) ≡ n = omega (arith, length-take-le n owners (omega arith)) in
    let here = slice_get-at owners n North (omega arith) in
    ap (λ k. own_tops suit 0 seat (take k owners)) e
    ∙ (ap (own_tops suit 0 seat) (take_more owners n North (omega arith))
    ∙ (own_tops-push suit 0 seat (take n owners) (get_or owners n North)
    ∙ (ap (λ k. own_tops suit 0 seat (take n owners) ++ cond (is_same_seat seat (get_or owners n North)) (Top suit k ∷ []) []) len
    ∙ (ap (λ xs. xs ++ cond (is_same_seat seat (get_or owners n North)) (Top suit n ∷ []) []) before
    ∙ (ap (λ o. tops_in shape seat suit n ++ cond (is_held_by seat o) (Top suit n ∷ []) []) (sym here)
    ∙ (sym (tops_in-more shape seat suit n (omega arith)) ∙ ap (tops_in shape seat suit) (sym e)))))))

pub all_tops_at : (shape : Shape) → IsPattern shape → (seat : Seat) (suit : Suit) →
    tops_at suit 0 (length (suit_of shape suit).owners) (places_of seat (suit_of shape suit).owners) ≡ tops_in shape seat suit (length (suit_of shape suit).owners)
all_tops_at shape pattern seat suit =
    let owners = (suit_of shape suit).owners in
    tops_at-own suit 0 seat owners
    ∙ (ap (own_tops suit 0 seat) (sym (take_all (length owners) owners (omega arith)))
    ∙ own_tops-in shape seat suit (length owners) (owners-le-13 shape pattern suit) (omega arith))

-- the same of a suit that is told
pub all_tops_told : (shape : Shape) → IsPattern shape → (seat : Seat) (suit : Suit) (held : SuitShape) → held ≡ suit_of shape suit →
    tops_at suit 0 (length held.owners) (places_of seat held.owners) ≡ tops_in shape seat suit (length (suit_of shape suit).owners)
all_tops_told shape pattern seat suit held told =
    ap (λ (s : SuitShape). tops_at suit 0 (length s.owners) (places_of seat s.owners)) told ∙ all_tops_at shape pattern seat suit

pub length-tops_told : (shape : Shape) → IsPattern shape → (seat : Seat) (suit : Suit) (held : SuitShape) → held ≡ suit_of shape suit →
    length (tops_at suit 0 (length held.owners) (places_of seat held.owners)) ≡ tops_of (suit_of shape suit) seat
length-tops_told shape pattern seat suit held told = ap length (all_tops_told shape pattern seat suit held told) ∙ length-tops_in-all shape pattern seat suit

-- one top is listed, as the code does it
pub record IsPushed (suit : Suit) (k places left : ℕ) (cards all : List PatCard) : Type 0 where
  pub room : length cards + 1 ≤ length all
  pub even : AreEven k left
  pub items : cards ++ Top suit (trailing_zeros w64 places / 2) ∷ [] ++ tops_at suit 0 k left ≡ all

pub is_pushed : (suit : Suit) (k places : ℕ) (cards all : List PatCard) → AreEven k places → cards ++ tops_at suit 0 k places ≡ all → 0 < places → places < 2 ^ 64 →
    IsPushed suit k places (bit_and places (places - 1)) cards all
is_pushed suit k places cards all even items some wide =
    let t = trailing_zeros w64 places in
    let top = lowest_top suit k places even some wide in
    let e : 0 + t / 2 ≡ t / 2 = omega arith in
    let first : tops_at suit 0 k places ≡ Top suit (t / 2) ∷ tops_at suit 0 k (places - 2 ^ t) = top.first ∙ ap (λ p. Top suit p ∷ tops_at suit 0 k (places - 2 ^ t)) e in
    let len = ap length (ap (λ xs. cards ++ xs) (sym first) ∙ items) in
    rw (lowest_cleared places some wide) (record {
      room = omega (arith, len, length-append cards (Top suit (t / 2) ∷ tops_at suit 0 k (places - 2 ^ t)));
      even = top.even;
      items = append_assoc cards (Top suit (t / 2) ∷ []) (tops_at suit 0 k (places - 2 ^ t)) ∙ (ap (λ xs. cards ++ xs) (sym first) ∙ items);
    })

-- all are listed
pub all_pushed : (suit : Suit) (k places : ℕ) (cards all : List PatCard) → cards ++ tops_at suit 0 k places ≡ all → places ≡ 0 → cards ≡ all
all_pushed suit k places cards all items done =
    sym (append-nil cards) ∙ (ap (λ xs. cards ++ xs) (sym (tops_at-none suit 0 k)) ∙ (ap (λ n. cards ++ tops_at suit 0 k n) (sym done) ∙ items))
