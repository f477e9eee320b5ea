-- Owners taken out of a word one by one, the lowest place first; each later place moves down by one.
use Rattle.std.proofs.Common.{◌≡◌, ℕ, zero, suc, ◌+◌, ◌-◌, ◌*◌, ◌/◌, ◌%◌, ◌^◌, ◌<◌, ◌≤◌, Bool, true, false, not, cond, List, [], ◌∷◌, ◌++◌, length, take, drop, map, filter, eqb, refl, sym, ◌∙◌, ap, subst, inl, inr, arith}
use Rattle.std.specs.List.{enumerate_from}
use Rattle.std.specs.Prelude.{bit_and}
use Rattle.std.specs.Int.{bit_at, bit_not, trailing_zeros, w64}
use Rattle.std.specs.Int.Bits.{and_self}
use Rattle.std.proofs.lemmas.Bool.{eq-eqb, ne_eqb, cases_lt}
use Rattle.std.proofs.lemmas.Nat.{and_mask, and_block, and_le_l, and_le_r, one_shl, mod_below, pow-add, pow_pos, shr-shr, shr_split, mod-pow-add}
use Rattle.std.proofs.lemmas.Nat.Bits.{bit_at-trailing_zeros, bit_at-suc, bit_at_lowest, bit_at_above, and_high_mask}
use Rattle.std.proofs.Math.Nat.{pow-le-pow_right}
use Rattle.cards.specs.declared.seats.Seat.{Seat}
use Rattle.patterns.specs.Words.{seat_at, owners_in}
use Rattle.patterns.specs.WordLaws.{place_more}
use Rattle.patterns.specs.Removals.{is_among, owners_but}

-- the owners whose bit is 0, the lowest bit being the first's
abbrev pub kept : ℕ → List Seat → List Seat
kept places [] = []
kept places (owner ∷ owners) = cond (eqb (places % 2) 1) (kept (places / 2) owners) (owner ∷ kept (places / 2) owners)

pub bit_more : (k : ℕ) → 2 ^ suc k ≡ 2 * 2 ^ k
bit_more k = let e : suc k ≡ 1 + k = omega arith in ap (λ n. 2 ^ n) e ∙ pow-add 2 1 k

one_down : (n k : ℕ) → n / 2 / 2 ^ k ≡ n / 2 ^ suc k
one_down n k = let e : 1 + k ≡ suc k = omega arith in shr-shr n 1 k ∙ ap (λ m. n / 2 ^ m) e

-- nobody is taken out
pub kept-none : (owners : List Seat) → kept 0 owners ≡ owners
kept-none [] = refl
kept-none (owner ∷ owners) = ap (λ rest. owner ∷ rest) (kept-none owners)

-- places after the owners do not matter
pub kept-mod : (k m : ℕ) (owners : List Seat) → length owners ≤ k → kept (m % 2 ^ k) owners ≡ kept m owners
kept-mod k m [] h = refl
kept-mod zero m (owner ∷ owners) h = absurd (omega arith)
kept-mod (suc k) m (owner ∷ owners) h =
    let e : suc k ≡ k + 1 = omega arith in
    let whole : m % 2 ^ suc k ≡ m / 2 % 2 ^ k * 2 + m % 2 = ap (λ n. m % 2 ^ n) e ∙ mod-pow-add m k 1 in
    let low : m % 2 ^ suc k % 2 ≡ m % 2 = omega (arith, whole) in
    let high : m % 2 ^ suc k / 2 ≡ m / 2 % 2 ^ k = omega (arith, whole) in
    rw (low, high, kept-mod k (m / 2) owners (omega arith)) refl

-- the places after the first one that is taken, moved down by one
abbrev pub moved_down : ℕ → ℕ → ℕ
moved_down m p = m / 2 ^ (p + 1) * 2 ^ p

moved_down-suc : (m p : ℕ) → moved_down m (suc p) ≡ moved_down (m / 2) p * 2
moved_down-suc m p =
    let e : suc p + 1 ≡ suc (p + 1) = omega arith in
    let there : m / 2 ^ (suc p + 1) ≡ m / 2 / 2 ^ (p + 1) = ap (λ n. m / 2 ^ n) e ∙ sym (one_down m (p + 1)) in
    let more = bit_more p in
    ap (λ n. n * 2 ^ suc p) there ∙ (ap (λ n. m / 2 / 2 ^ (p + 1) * n) more ∙ grind arith)

-- the first owner that is taken out
pub kept-first : (p m : ℕ) (owners : List Seat) → m % 2 ^ p ≡ 0 → bit_at m p ≡ 1 → kept m owners ≡ kept (moved_down m p) (take p owners ++ drop (suc p) owners)
kept-first zero m [] none one = refl
kept-first (suc p) m [] none one = refl
kept-first zero m (owner ∷ owners) none one =
    let odd : m % 2 ≡ 1 = omega (arith, one) in
    let half : moved_down m 0 ≡ m / 2 = omega arith in
    rw (eq-eqb (m % 2) 1 odd, half) refl
kept-first (suc p) m (owner ∷ owners) none one =
    let e : suc p ≡ p + 1 = omega arith in
    let whole : m % 2 ^ suc p ≡ m / 2 % 2 ^ p * 2 + m % 2 = ap (λ n. m % 2 ^ n) e ∙ mod-pow-add m p 1 in
    let even : m % 2 ≡ 0 = omega (arith, whole, none) in
    let none' : m / 2 % 2 ^ p ≡ 0 = omega (arith, whole, none) in
    let one' : bit_at (m / 2) p ≡ 1 = ap (λ n. n % 2) (one_down m p) ∙ one in
    let down = moved_down-suc m p in
    let low : moved_down m (suc p) % 2 ≡ 0 = omega (arith, down) in
    let high : moved_down m (suc p) / 2 ≡ moved_down (m / 2) p = omega (arith, down) in
    let odd_no : eqb (m % 2) 1 ≡ false = ne_eqb (m % 2) 1 (omega (arith, even)) in
    let low_no : eqb (moved_down m (suc p) % 2) 1 ≡ false = ne_eqb (moved_down m (suc p) % 2) 1 (omega (arith, low)) in
    ap (λ b. cond b (kept (m / 2) owners) (owner ∷ kept (m / 2) owners)) odd_no
    ∙ (ap (λ rest. owner ∷ rest) (kept-first p (m / 2) owners none' one')
    ∙ sym (ap (λ b. cond b (kept (moved_down m (suc p) / 2) (take p owners ++ drop (suc p) owners)) (owner ∷ kept (moved_down m (suc p) / 2) (take p owners ++ drop (suc p) owners))) low_no
    ∙ ap (λ n. owner ∷ kept n (take p owners ++ drop (suc p) owners)) high))

-- the bits of the owners without the one in a place
abbrev pub bits_but : ℕ → ℕ → ℕ
bits_but n p = n % 2 ^ (2 * p) + n / 2 ^ (2 * p + 2) * 2 ^ (2 * p)

bits_but-suc : (n p : ℕ) → bits_but n (suc p) ≡ 4 * bits_but (n / 4) p + n % 4
bits_but-suc n p =
    let more = place_more p in
    let at : 2 ^ (2 * suc p) ≡ 2 ^ (2 * p + 2) = ap (λ e. 2 ^ e) (omega arith) in
    let low : n % 2 ^ (2 * suc p) ≡ n / 4 % 2 ^ (2 * p) * 4 + n % 4 = ap (λ m. n % m) at ∙ mod-pow-add n (2 * p) 2 in
    let e : 2 + (2 * p + 2) ≡ 2 * suc p + 2 = omega arith in
    let there : n / 2 ^ (2 * suc p + 2) ≡ n / 4 / 2 ^ (2 * p + 2) = sym (shr-shr n 2 (2 * p + 2) ∙ ap (λ m. n / 2 ^ m) e) in
    let high : n / 2 ^ (2 * suc p + 2) * 2 ^ (2 * suc p) ≡ 4 * (n / 4 / 2 ^ (2 * p + 2) * 2 ^ (2 * p)) =
    ap (λ m. m * 2 ^ (2 * suc p)) there ∙ (ap (λ m. n / 4 / 2 ^ (2 * p + 2) * m) more ∙ grind arith) in
    omega (arith, low, high)

pub owners_in-but : (p j n : ℕ) → p ≤ j → take p (owners_in (suc j) n) ++ drop (suc p) (owners_in (suc j) n) ≡ owners_in j (bits_but n p)
owners_in-but zero j n h = let e : n / 4 ≡ bits_but n 0 = omega arith in ap (owners_in j) e
owners_in-but (suc p) zero n h = absurd (omega arith)
owners_in-but (suc p) (suc j) n h =
    let but = bits_but-suc n p in
    let low : bits_but n (suc p) % 4 ≡ n % 4 = omega (arith, but) in
    let high : bits_but n (suc p) / 4 ≡ bits_but (n / 4) p = omega (arith, but) in
    ap (λ rest. seat_at (n % 4) ∷ rest) (owners_in-but p j (n / 4) (omega arith))
    ∙ (ap (λ m. seat_at m ∷ owners_in j (bits_but (n / 4) p)) (sym low) ∙ ap (λ m. seat_at (bits_but n (suc p) % 4) ∷ owners_in j m) (sym high))

pub bits_but-below : (p j n : ℕ) → p ≤ j → n < 2 ^ (2 * suc j) → bits_but n p < 2 ^ (2 * j)
bits_but-below zero j n h below = omega (arith, place_more j)
bits_but-below (suc p) zero n h below = absurd (omega arith)
bits_but-below (suc p) (suc j) n h below =
    let more = place_more (suc j) in
    let more' = place_more j in
    omega (arith, bits_but-suc n p, bits_but-below p j (n / 4) (omega arith) (omega arith))

-- no bit below a place
none_below : (p n : ℕ) → ((i : ℕ) → i < p → bit_at n i ≡ 0) → n % 2 ^ p ≡ 0
none_below zero n none = omega arith
none_below (suc p) n none =
    let e : suc p ≡ p + 1 = omega arith in
    let whole : n % 2 ^ suc p ≡ n / 2 % 2 ^ p * 2 + n % 2 = ap (λ m. n % 2 ^ m) e ∙ mod-pow-add n p 1 in
    let low : n % 2 ≡ 0 = sym (bit_at_lowest n) ∙ none 0 (omega arith) in
    let high = none_below p (n / 2) (λ i less. sym (bit_at-suc n i) ∙ none (suc i) (omega arith)) in
    omega (arith, whole, low, high)

small : (k : ℕ) → k ≤ 13 → 2 ^ k ≤ 2 ^ 13
small k h = let two : 0 < 2 = omega arith in pow-le-pow_right two h

-- one step: the lowest of the places is taken out
pub record TakenOut (k n m p : ℕ) : Type 0 where
  pub inside : p < k
  pub fewer : moved_down m p < m
  pub places : moved_down m p < 2 ^ (k - 1)
  pub bits : bits_but n p < 2 ^ (2 * (k - 1))
  pub same : kept (moved_down m p) (owners_in (k - 1) (bits_but n p)) ≡ kept m (owners_in k n)

pub taken_out : (k n m p : ℕ) → n < 2 ^ (2 * k) → m < 2 ^ k → k ≤ 13 → 0 < m → p ≡ trailing_zeros w64 m → TakenOut k n m p
taken_out zero n m p bits places within some lowest = absurd (omega arith)
taken_out (suc j) n m p bits places within some lowest =
    let more = bit_more j in
    let more13 = pow_pos j in
    let wide : m < 2 ^ 64 = omega (arith, places, small (suc j) within) in
    let tz = bit_at-trailing_zeros w64 m some wide in
    let one : bit_at m p ≡ 1 = ap (bit_at m) lowest ∙ tz.1 in
    let none : m % 2 ^ p ≡ 0 = none_below p m (λ i less. tz.2 i (subst (λ q. i < q) lowest less)) in
    let inside : p < suc j = elim (cases_lt p (suc j)) [
      | inl less ↦ less
      | inr over ↦ absurd (omega (arith, one, bit_at_above m (suc j) p places over))
    ] in
    let split = shr_split m (p + 1) in
    let up : 2 ^ (p + 1) ≡ 2 * 2 ^ p = (let e : p + 1 ≡ suc p = omega arith in ap (λ q. 2 ^ q) e) ∙ bit_more p in
    let twice : m / 2 ^ (p + 1) * 2 ^ (p + 1) ≡ 2 * moved_down m p = ap (λ q. m / 2 ^ (p + 1) * q) up ∙ grind arith in
    let k1 : suc j - 1 ≡ j = omega arith in
    record {
      inside = inside;
      fewer = omega (arith, split, twice);
      places = rw k1 (omega (arith, split, twice, more));
      bits = rw k1 (bits_but-below p j n (omega arith) bits);
      same = ap (λ q. kept (moved_down m p) (owners_in q (bits_but n p))) k1
          ∙ sym (kept-first p m (owners_in (suc j) n) none one ∙ ap (kept (moved_down m p)) (owners_in-but p j n (omega arith)));
    }

-- the owners in the places from k on that aren't among the places
abbrev left_from : ℕ → ℕ → List Seat → List Seat
left_from places k owners = map (λ entry. entry.1) (filter (λ entry. not (is_among places entry.0)) (enumerate_from k owners))

left_from-kept : (places k : ℕ) (owners : List Seat) → left_from places k owners ≡ kept (places / 2 ^ k) owners
left_from-kept places k [] = refl
left_from-kept places k (owner ∷ owners) = go (is_among places k) refl (left_from-kept places (k + 1) owners ∙ ap (λ m. kept m owners) (sym (shr-shr places k 1)))
  where
    go : (test : Bool) → is_among places k ≡ test → left_from places (k + 1) owners ≡ kept (places / 2 ^ k / 2) owners → left_from places k (owner ∷ owners) ≡ kept (places / 2 ^ k) (owner ∷ owners)
    go true e rest = rw e rest
    go false e rest = rw e (ap (λ more. owner ∷ more) rest)

-- the owners in all other places, by recursion
pub owners_but-kept : (places : ℕ) (owners : List Seat) → owners_but places owners ≡ kept places owners
owners_but-kept places owners = left_from-kept places 0 owners ∙ (let e : places / 1 ≡ places = omega arith in ap (λ m. kept m owners) e)

-- the bits without the owner in a place, as the code computes them
pub record BitsTaken (n p below : ℕ) : Type 0 where
  pub first : bit_and n below ≡ n % 2 ^ (2 * p)
  pub later : bit_and (n / 2 ^ 2) (bit_not w64 below) ≡ n / 2 ^ (2 * p + 2) * 2 ^ (2 * p)
  pub fits : bits_but n p < 2 ^ 64

pub bits_taken : (n p : ℕ) → p < 31 → n < 2 ^ 64 → BitsTaken n p (1 * 2 ^ (2 * p) % 2 ^ 64 - 1)
bits_taken n p small wide =
    let two : 0 < 2 = omega arith in
    let e : 2 * p ≤ 60 = omega arith in
    let unit : 2 ^ (2 * p) ≤ 2 ^ 60 = pow-le-pow_right two e in
    let some = pow_pos (2 * p) in
    let split = shr_split n (2 * p + 2) in
    let up : n / 2 ^ (2 * p + 2) * 2 ^ (2 * p + 2) ≡ 4 * (n / 2 ^ (2 * p + 2) * 2 ^ (2 * p)) = ap (λ m. n / 2 ^ (2 * p + 2) * m) (pow-add 2 (2 * p) 2) ∙ grind arith in
    let low = mod_below n (2 ^ (2 * p)) some in
    let others : bit_not w64 (2 ^ (2 * p) - 1) ≡ 2 ^ 64 - 2 ^ (2 * p) = omega arith in
    let turned : 2 + 2 * p ≡ 2 * p + 2 = omega arith in
    let high : bit_and (n / 2 ^ 2) (2 ^ 64 - 2 ^ (2 * p)) ≡ n / 2 ^ (2 * p + 2) * 2 ^ (2 * p) =
    and_high_mask 64 (2 * p) (omega arith) (n / 2 ^ 2) (omega arith) ∙ ap (λ m. m * 2 ^ (2 * p)) (shr-shr n 2 (2 * p) ∙ ap (λ m. n / 2 ^ m) turned) in
    rw (one_shl (2 * p) 64 (omega arith)) (record {
      first = and_mask n (2 * p);
      later = ap (bit_and (n / 2 ^ 2)) others ∙ high;
      fits = omega (arith, split, up, low, unit);
    })

-- the bits of the owners stand above twenty others, which stay
bits_but-above : (word p : ℕ) → bits_but word (10 + p) ≡ word % 2 ^ 20 + 2 ^ 20 * bits_but (word / 2 ^ 20) p
bits_but-above word p =
    let e : 2 * (10 + p) ≡ 2 * p + 20 = omega arith in
    let up : 2 ^ (2 * (10 + p)) ≡ 2 ^ (2 * p) * 2 ^ 20 = ap (λ k. 2 ^ k) e ∙ pow-add 2 (2 * p) 20 in
    let low : word % 2 ^ (2 * (10 + p)) ≡ word / 2 ^ 20 % 2 ^ (2 * p) * 2 ^ 20 + word % 2 ^ 20 = ap (λ k. word % 2 ^ k) e ∙ mod-pow-add word (2 * p) 20 in
    let e' : 20 + (2 * p + 2) ≡ 2 * (10 + p) + 2 = omega arith in
    let there : word / 2 ^ (2 * (10 + p) + 2) ≡ word / 2 ^ 20 / 2 ^ (2 * p + 2) = sym (shr-shr word 20 (2 * p + 2) ∙ ap (λ k. word / 2 ^ k) e') in
    let high : word / 2 ^ (2 * (10 + p) + 2) * 2 ^ (2 * (10 + p)) ≡ 2 ^ 20 * (word / 2 ^ 20 / 2 ^ (2 * p + 2) * 2 ^ (2 * p)) =
    ap (λ m. m * 2 ^ (2 * (10 + p))) there ∙ (ap (λ m. word / 2 ^ 20 / 2 ^ (2 * p + 2) * m) up ∙ grind arith) in
    omega (arith, low, high)

-- a word without the owner in a place, as the code computes it
pub record WordTaken (word p sum : ℕ) : Type 0 where
  pub some : 65536 ≤ sum
  pub lens : (sum - 65536) % 2 ^ 16 ≡ word % 2 ^ 16
  pub count : (sum - 65536) / 2 ^ 16 % 2 ^ 4 ≡ word / 2 ^ 16 % 2 ^ 4 - 1
  pub owners : (sum - 65536) / 2 ^ 20 ≡ bits_but (word / 2 ^ 20) p

pub word_taken : (word p : ℕ) → word < 2 ^ 64 → p < word / 2 ^ 16 % 2 ^ 4 →
    WordTaken word p (bit_and word (1 * 2 ^ (20 + 2 * p) % 2 ^ 64 - 1) + bit_and (word / 2 ^ 2) (bit_not w64 (1 * 2 ^ (20 + 2 * p) % 2 ^ 64 - 1)))
word_taken word p wide inside =
    let below = 1 * 2 ^ (20 + 2 * p) % 2 ^ 64 - 1 in
    let e : 20 + 2 * p ≡ 2 * (10 + p) = omega arith in
    let mask : below ≡ 1 * 2 ^ (2 * (10 + p)) % 2 ^ 64 - 1 = ap (λ k. 1 * 2 ^ k % 2 ^ 64 - 1) e in
    let taken = bits_taken word (10 + p) (omega (arith, inside)) wide in
    let sum : bit_and word below + bit_and (word / 2 ^ 2) (bit_not w64 below) ≡ bits_but word (10 + p) =
    ap (λ m. bit_and word m + bit_and (word / 2 ^ 2) (bit_not w64 m)) mask ∙ rw (taken.first, taken.later) refl in
    let whole = sum ∙ bits_but-above word p in
    record {
      some = omega (arith, whole, inside);
      lens = omega (arith, whole, inside);
      count = omega (arith, whole, inside);
      owners = omega (arith, whole, inside);
    }

-- a number without its lowest bit
and_pred : (q t : ℕ) → bit_and ((2 * q + 1) * 2 ^ t) ((2 * q + 1) * 2 ^ t - 1) ≡ 2 * q * 2 ^ t
and_pred q t =
    let some = pow_pos t in
    let whole : (2 * q + 1) * 2 ^ t ≡ (2 * q + 1) * 2 ^ t + 0 = omega arith in
    let split : (2 * q + 1) * 2 ^ t ≡ 2 * q * 2 ^ t + 2 ^ t = grind arith in
    let less : (2 * q + 1) * 2 ^ t - 1 ≡ 2 * q * 2 ^ t + (2 ^ t - 1) = omega (arith, split) in
    let e : 2 * q + 1 ≡ q * 2 ^ 1 + 1 = omega arith in
    let e' : 2 * q ≡ q * 2 ^ 1 + 0 = omega arith in
    let high : bit_and (2 * q + 1) (2 * q) ≡ 2 * q =
    ap (λ m. bit_and m (2 * q)) e ∙ (ap (bit_and (q * 2 ^ 1 + 1)) e' ∙ (and_block 1 q q 1 0 (omega arith) (omega arith) ∙ omega (arith, and_self q, and_le_r 1 0))) in
    let none : bit_and 0 (2 ^ t - 1) ≡ 0 = omega (arith, and_le_l 0 (2 ^ t - 1)) in
    ap (bit_and ((2 * q + 1) * 2 ^ t)) less
    ∙ (ap (λ m. bit_and m (2 * q * 2 ^ t + (2 ^ t - 1))) whole
    ∙ (and_block t (2 * q + 1) (2 * q) 0 (2 ^ t - 1) some (omega arith) ∙ (ap (λ m. m * 2 ^ t + bit_and 0 (2 ^ t - 1)) high ∙ omega (arith, none))))

without_lowest : (n t : ℕ) → n % 2 ^ t ≡ 0 → bit_at n t ≡ 1 → bit_and n (n - 1) ≡ n - 2 ^ t
without_lowest n t none one =
    let q = n / 2 ^ t / 2 in
    let odd : n / 2 ^ t ≡ 2 * q + 1 = omega (arith, one) in
    let whole : n ≡ (2 * q + 1) * 2 ^ t = sym (shr_split n t) ∙ (ap (λ m. n / 2 ^ t * 2 ^ t + m) none ∙ (omega arith ∙ ap (λ m. m * 2 ^ t) odd)) in
    let split : (2 * q + 1) * 2 ^ t ≡ 2 * q * 2 ^ t + 2 ^ t = grind arith in
    ap (λ m. bit_and m (m - 1)) whole ∙ (and_pred q t ∙ omega (arith, whole, split))

pub lowest_cleared : (m : ℕ) → 0 < m → m < 2 ^ 64 → bit_and m (m - 1) ≡ m - 2 ^ trailing_zeros w64 m
lowest_cleared m some wide =
    let tz = bit_at-trailing_zeros w64 m some wide in
    without_lowest m (trailing_zeros w64 m) (none_below (trailing_zeros w64 m) m tz.2) tz.1

-- the places that are left are those moved down, as the code computes them
pub places_moved : (m : ℕ) → 0 < m → m < 2 ^ 64 → bit_and m (m - 1) / 2 ^ 1 ≡ moved_down m (trailing_zeros w64 m)
places_moved m some wide =
    let p = trailing_zeros w64 m in
    let tz = bit_at-trailing_zeros w64 m some wide in
    let none : m % 2 ^ p ≡ 0 = none_below p m tz.2 in
    let split = shr_split m (p + 1) in
    let up : m / 2 ^ (p + 1) * 2 ^ (p + 1) ≡ 2 * moved_down m p = ap (λ q. m / 2 ^ (p + 1) * q) (pow-add 2 p 1) ∙ grind arith in
    let low : m % 2 ^ (p + 1) ≡ 2 ^ p = lowest m p none tz.1 in
    omega (arith, lowest_cleared m some wide, split, up, low)
  where
    lowest : (m p : ℕ) → m % 2 ^ p ≡ 0 → bit_at m p ≡ 1 → m % 2 ^ (p + 1) ≡ 2 ^ p
    lowest m p none one =
        let e : p + 1 ≡ 1 + p = omega arith in
        ap (λ k. m % 2 ^ k) e ∙ (mod-pow-add m 1 p ∙ (ap (λ b. b * 2 ^ p + m % 2 ^ p) one ∙ omega (arith, none)))

-- where no place of a suit is named all owners stay
pub none_taken : (places : ℕ) (owners : List Seat) → length owners ≤ 13 → bit_and places 8191 ≡ 0 → owners ≡ owners_but places owners
none_taken places owners within none =
    let low : places % 2 ^ 13 ≡ 0 = sym (and_mask places 13) ∙ none in
    sym (owners_but-kept places owners ∙ (sym (kept-mod 13 places owners within) ∙ (ap (λ m. kept m owners) low ∙ kept-none owners)))
