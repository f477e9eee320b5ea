-- The places in which a seat is the owner, found by one comparison of all owners at once.
use Rattle.std.proofs.Common.{◌≡◌, ℕ, zero, suc, ◌+◌, ◌-◌, ◌*◌, ◌/◌, ◌%◌, ◌^◌, ◌<◌, ◌≤◌, Bool, true, false, cond, List, [], ◌∷◌, count_by, refl, sym, ◌∙◌, ap, inl, inr, arith}
use Rattle.std.specs.Prelude.{bit_and, bit_or, bit_xor, count_ones}
use Rattle.std.proofs.lemmas.Nat.{and_mask, or_mod, mod-pow-add, xor_block, or_block, and_block, xor_lt, or_lt, ones_cat, ones_le_self, zero_from_ones, one_shl}
use Rattle.std.proofs.lemmas.Bool.{cases_eq}
use Rattle.std.proofs.lemmas.List.Sums.{sum_by-cons}
use Rattle.cards.specs.declared.seats.Seat.{Seat}
use Rattle.cards.specs.declared.seats.Seat.TheVariants.{North, East, South, West}
use Rattle.cards.specs.Seats.{seat_number, is_same_seat}
use Rattle.patterns.specs.Words.{seat_at, owners_in, places_of}

-- the lower bit of each of so many places
abbrev pub each_place : ℕ → ℕ
each_place zero = 0
each_place (suc k) = 1 + 4 * each_place k

pub each_place-mod : (j k : ℕ) → k ≤ j → each_place j % 2 ^ (2 * k) ≡ each_place k
each_place-mod j zero h = omega arith
each_place-mod zero (suc k) h = absurd (omega arith)
each_place-mod (suc j) (suc k) h =
    let at : 2 ^ (2 * suc k) ≡ 2 ^ (2 * k + 2) = ap (λ e. 2 ^ e) (omega arith) in
    let whole : each_place (suc j) % 2 ^ (2 * suc k) ≡ each_place (suc j) / 4 % 2 ^ (2 * k) * 4 + each_place (suc j) % 4 = ap (λ m. each_place (suc j) % m) at ∙ mod-pow-add (each_place (suc j)) (2 * k) 2 in
    let high : each_place (suc j) / 4 ≡ each_place j = omega arith in
    let below : each_place (suc j) / 4 % 2 ^ (2 * k) ≡ each_place k = ap (λ m. m % 2 ^ (2 * k)) high ∙ each_place-mod j k (omega arith) in
    omega (arith, whole, below)

-- two bits that differ from a seat's number, or do not
differ : (seat : Seat) (d : ℕ) → d < 4 → bit_or (bit_xor d (seat_number seat) % 2) (bit_xor d (seat_number seat) / 2) + cond (is_same_seat seat (seat_at d)) 1 0 ≡ 1
differ North zero h = refl
differ North (suc zero) h = refl
differ North (suc (suc zero)) h = refl
differ North (suc (suc (suc zero))) h = refl
differ East zero h = refl
differ East (suc zero) h = refl
differ East (suc (suc zero)) h = refl
differ East (suc (suc (suc zero))) h = refl
differ South zero h = refl
differ South (suc zero) h = refl
differ South (suc (suc zero)) h = refl
differ South (suc (suc (suc zero))) h = refl
differ West zero h = refl
differ West (suc zero) h = refl
differ West (suc (suc zero)) h = refl
differ West (suc (suc (suc zero))) h = refl
differ seat (suc (suc (suc (suc d)))) h = absurd (omega arith)

small_number : (seat : Seat) → seat_number seat < 4
small_number North = omega arith
small_number East = omega arith
small_number South = omega arith
small_number West = omega arith

-- the owners' bits, each changed where the seat's number has a 1
abbrev pub apart : ℕ → ℕ → Seat → ℕ
apart j n seat = bit_xor n (each_place j * seat_number seat)

apart-suc : (j n : ℕ) (seat : Seat) → apart (suc j) n seat ≡ apart j (n / 4) seat * 4 + bit_xor (n % 4) (seat_number seat)
apart-suc j n seat =
    let s = seat_number seat in
    let split : n / 4 * 4 + n % 4 ≡ n = omega arith in
    let product : each_place j * s * 4 + s ≡ each_place (suc j) * s = grind arith in
    ap (λ m. bit_xor m (each_place (suc j) * s)) (sym split)
    ∙ (ap (λ m. bit_xor (n / 4 * 4 + n % 4) m) (sym product) ∙ xor_block 2 (n / 4) (each_place j * s) (n % 4) s (omega arith) (small_number seat))

-- one place: the lower bit is 1 where either bit of the two is
either_bit : (x f : ℕ) → f < 4 → bit_or (x * 4 + f) ((x * 4 + f) / 2) ≡ bit_or x (x / 2) * 4 + bit_or f (x % 2 * 2 + f / 2)
either_bit x f h =
    let half : (x * 4 + f) / 2 ≡ x / 2 * 4 + (x % 2 * 2 + f / 2) = omega arith in
    ap (bit_or (x * 4 + f)) half ∙ or_block 2 x (x / 2) f (x % 2 * 2 + f / 2) h (omega arith)

lower_bit : (x f : ℕ) → f < 4 → bit_and (bit_or f (x % 2 * 2 + f / 2)) 1 ≡ bit_or (f % 2) (f / 2)
lower_bit x f h =
    let low : (x % 2 * 2 + f / 2) % 2 ≡ f / 2 = omega arith in
    and_mask (bit_or f (x % 2 * 2 + f / 2)) 1 ∙ (or_mod f (x % 2 * 2 + f / 2) 1 ∙ ap (bit_or (f % 2)) low)

-- the places whose owner is another seat are all but the seat's
pub other_places : (k j n : ℕ) (seat : Seat) → k ≤ j → bit_and (bit_or (apart j n seat) (apart j n seat / 2)) (each_place k) + places_of seat (owners_in k n) ≡ each_place k
other_places zero j n seat h = let none = and_mask (bit_or (apart j n seat) (apart j n seat / 2)) 0 in omega (arith, none)
other_places (suc k) zero n seat h = absurd (omega arith)
other_places (suc k) (suc j) n seat h =
    let x = apart j (n / 4) seat in
    let f = bit_xor (n % 4) (seat_number seat) in
    let f4 : f < 4 = xor_lt 2 (n % 4) (seat_number seat) (omega arith) (small_number seat) in
    let r : x % 2 * 2 + f / 2 < 4 = omega arith in
    let g4 : bit_or f (x % 2 * 2 + f / 2) < 4 = or_lt 2 f (x % 2 * 2 + f / 2) f4 r in
    let e : 1 + 4 * each_place k ≡ each_place k * 4 + 1 = omega arith in
    let both : bit_or (apart (suc j) n seat) (apart (suc j) n seat / 2) ≡ bit_or x (x / 2) * 4 + bit_or f (x % 2 * 2 + f / 2) =
    ap (λ m. bit_or m (m / 2)) (apart-suc j n seat) ∙ either_bit x f f4 in
    let here : bit_and (bit_or (apart (suc j) n seat) (apart (suc j) n seat / 2)) (each_place (suc k)) ≡ bit_and (bit_or x (x / 2)) (each_place k) * 4 + bit_or (f % 2) (f / 2) =
    ap (λ m. bit_and m (each_place (suc k))) both
    ∙ (ap (bit_and (bit_or x (x / 2) * 4 + bit_or f (x % 2 * 2 + f / 2))) e
    ∙ (and_block 2 (bit_or x (x / 2)) (each_place k) (bit_or f (x % 2 * 2 + f / 2)) 1 g4 (omega arith) ∙ ap (λ m. bit_and (bit_or x (x / 2)) (each_place k) * 4 + m) (lower_bit x f f4))) in
    let rest = other_places k j (n / 4) seat (omega arith) in
    let one = differ seat (n % 4) (omega arith) in
    omega (arith, here, rest, one)

-- as the code computes it
pub record Owned (bits count : ℕ) (seat : Seat) (places apart : ℕ) : Type 0 where
  pub fits : bit_and (bit_or apart (apart / 2)) places ≤ places
  pub owned : places - bit_and (bit_or apart (apart / 2)) places ≡ places_of seat (owners_in count bits)

pub owned_places : (bits count : ℕ) (seat : Seat) → count ≤ 13 → Owned bits count seat (bit_and 22369621 (1 * 2 ^ (2 * count) % 2 ^ 64 - 1)) (bit_xor bits (22369621 * seat_number seat))
owned_places bits count seat within =
    let all : bit_and 22369621 (1 * 2 ^ (2 * count) % 2 ^ 64 - 1) ≡ each_place count =
    ap (λ m. bit_and 22369621 (m - 1)) (one_shl (2 * count) 64 (omega arith)) ∙ (and_mask 22369621 (2 * count) ∙ each_place-mod 13 count within) in
    let others = other_places count 13 bits seat within in
    rw all (record { fits = omega arith; owned = omega arith })

no_bit : count_ones 0 ≡ 0
no_bit = omega (arith, ones_le_self 0)

one_bit : (b : Bool) → count_ones (cond b 1 0) ≡ cond b 1 0
one_bit false = no_bit
one_bit true = elim (cases_eq (count_ones 1) 0) [
  | inl none ↦ absurd (omega (arith, zero_from_ones 1 none))
  | inr some ↦ omega (arith, ones_le_self 1)
]

small_bit : (b : Bool) → cond b 1 0 < 2 ^ 2
small_bit true = omega arith
small_bit false = omega arith

-- there are as many as the seat's tops
pub count_places : (seat : Seat) (owners : List Seat) → count_ones (places_of seat owners) ≡ count_by (is_same_seat seat) owners
count_places seat [] = no_bit
count_places seat (owner ∷ owners) =
    let here : ℕ = cond (is_same_seat seat owner) 1 0 in
    let e : here + 4 * places_of seat owners ≡ places_of seat owners * 2 ^ 2 + here = omega arith in
    let parts = ones_cat 2 (places_of seat owners) here (small_bit (is_same_seat seat owner)) in
    let more = sum_by-cons (λ x. cond (is_same_seat seat x) 1 0) owner owners in
    ap count_ones e ∙ omega (arith, parts, one_bit (is_same_seat seat owner), count_places seat owners, more)
