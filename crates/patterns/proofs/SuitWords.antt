-- A suit and its word tell each other.
use Rattle.std.proofs.Common.{◌≡◌, ℕ, zero, suc, ◌+◌, ◌-◌, ◌*◌, ◌/◌, ◌%◌, ◌^◌, ◌<◌, ◌≤◌, List, [], ◌∷◌, ◌++◌, length, get_or, take, drop, refl, sym, ◌∙◌, ap, subst, arith, ◌↔◌, Bool, true, false, nat_eq, leb, IsTrue, MatchBool, Some, inl, inr}
use Rattle.std.proofs.lemmas.Nat.{pow_pos, shl_whole, shr-shr, shr_split, shr_below, mod-pow-add, mod_below}
use Rattle.std.proofs.lemmas.Bool.{eqb-true, eq-eqb, leb-true, le-leb, false≢true, cases_lt}
use Rattle.std.proofs.lemmas.Option.{slice_get-get_or}
use Rattle.std.specs.Prelude.{slice_get}
use Rattle.std.proofs.lemmas.List.{take-append-drop, take_more, length-take-le}
use Rattle.std.proofs.Math.Nat.{pow-le-pow_right}
use Rattle.std.proofs.lemmas.List.Prefix.{front_fits}
use Rattle.std.proofs.Math.Seq.{take-append_seam}
use Rattle.cards.specs.declared.seats.Seat.{Seat}
use Rattle.cards.specs.declared.seats.Seat.TheVariants.{North, East, South, West}
use Rattle.cards.specs.Seats.{seat_number}
use Rattle.patterns.specs.Shapes.{SuitShape, Shape, len_of, tops_of, suit_size, BeginsWith, CoversSuit}
use Rattle.patterns.proofs.SeatLaws.{for_each_seat}
use Rattle.patterns.proofs.HolderLaws.{counts_add_up}
use Rattle.patterns.specs.WordLaws.{place_more, length-owners_in, owner_bits-owners_in, four_are, words_of-shape_in}
use Rattle.patterns.specs.Words.{seat_at, owners_in, owner_bits, owner_count, suit_in, word_of, HasWord, IsSuitWord, IsWrongWord, words_of, shape_in, AreWords}

pub at_number : (seat : Seat) → seat_at (seat_number seat) ≡ seat
at_number North = refl
at_number East = refl
at_number South = refl
at_number West = refl

pub number_below : (seat : Seat) → seat_number seat < 4
number_below North = omega arith
number_below East = omega arith
number_below South = omega arith
number_below West = omega arith

pub owner_bits-below : (owners : List Seat) → owner_bits owners < 2 ^ (2 * length owners)
owner_bits-below [] = omega arith
owner_bits-below (owner ∷ owners) =
    let more = place_more (length owners) in
    let rest = owner_bits-below owners in
    omega (arith, number_below owner)

-- the owners that their bits tell
pub owners_in-owner_bits : (owners : List Seat) → owners_in (length owners) (owner_bits owners) ≡ owners
owners_in-owner_bits [] = refl
owners_in-owner_bits (owner ∷ owners) =
    let low : (seat_number owner + 4 * owner_bits owners) % 4 ≡ seat_number owner = omega (arith, number_below owner) in
    let high : (seat_number owner + 4 * owner_bits owners) / 4 ≡ owner_bits owners = omega (arith, number_below owner) in
    rw (low, high, at_number owner, owners_in-owner_bits owners) refl

-- a suit of these lengths and owners
abbrev pub suit_with : List ℕ → List Seat → SuitShape
suit_with lens owners = record { lens = lens; owners = owners }

-- the fields of a word that is put together
pub record Fields (word n e s w k b : ℕ) : Type 0 where
  pub north : word % 2 ^ 4 ≡ n
  pub east : word / 2 ^ 4 % 2 ^ 4 ≡ e
  pub south : word / 2 ^ 8 % 2 ^ 4 ≡ s
  pub west : word / 2 ^ 12 % 2 ^ 4 ≡ w
  pub count : word / 2 ^ 16 % 2 ^ 4 ≡ k
  pub bits : word / 2 ^ 20 ≡ b

pub fields_of : (n e s w count bits : ℕ) → n < 16 → e < 16 → s < 16 → w < 16 → count < 16 →
    Fields (n + 2 ^ 4 * e + 2 ^ 8 * s + 2 ^ 12 * w + 2 ^ 16 * count + 2 ^ 20 * bits) n e s w count bits
fields_of n e s w count bits hn he hs hw hc = record {
  north = omega arith;
  east = omega arith;
  south = omega arith;
  west = omega arith;
  count = omega arith;
  bits = omega arith;
}

-- the suit that the word of a suit tells
pub suit_in-word_of : (suit : SuitShape) → HasWord suit → suit_in (word_of suit) ≡ suit
suit_in-word_of suit h =
    let f = fields_of (len_of suit North) (len_of suit East) (len_of suit South) (len_of suit West) (length suit.owners) (owner_bits suit.owners)
    (h.lens North) (h.lens East) (h.lens South) (h.lens West) (omega (arith, h.within)) in
    rw (f.north, f.east, f.south, f.west, f.count, f.bits, owners_in-owner_bits suit.owners) (ap (λ (l : List ℕ). suit_with l suit.owners) (four_are suit.lens h.four))

pub IsSuitWord-word_of : (suit : SuitShape) → HasWord suit → IsSuitWord (word_of suit)
IsSuitWord-word_of suit h =
    let f = fields_of (len_of suit North) (len_of suit East) (len_of suit South) (len_of suit West) (length suit.owners) (owner_bits suit.owners)
    (h.lens North) (h.lens East) (h.lens South) (h.lens West) (omega (arith, h.within)) in
    record { within = rw (f.count) h.within; blank = rw (f.count, f.bits) (owner_bits-below suit.owners) }

-- the words of a shape that words tell
pub words_told : {words : List ℕ} {shape : Shape} → AreWords words → shape_in words ≡ shape → words_of shape ≡ words
words_told {words} {shape} are told = ap words_of (sym told) ∙ words_of-shape_in words are

-- suits that have words are the same where their words are
pub same_from_word : (one other : SuitShape) → HasWord one → HasWord other → word_of one ≡ word_of other → one ≡ other
same_from_word one other h h' same = sym (suit_in-word_of one h) ∙ (ap suit_in same ∙ suit_in-word_of other h')

pub length-owners_in_of : (word : ℕ) → length (suit_in word).owners ≡ owner_count word
length-owners_in_of word = length-owners_in (owner_count word) (word / 2 ^ 20)

two_more : (i : ℕ) → 2 + 2 * i ≡ 2 * suc i
two_more i = omega arith

-- the owner in a place
pub get_or-owners_in : (k n i : ℕ) → i < k → get_or (owners_in k n) i North ≡ seat_at (n / 2 ^ (2 * i) % 4)
get_or-owners_in zero n i h = absurd (omega arith)
get_or-owners_in (suc k) n zero h = let e : n / 1 ≡ n = omega arith in ap (λ m. seat_at (m % 4)) (sym e)
get_or-owners_in (suc k) n (suc i) h =
    let there : n / 4 / 2 ^ (2 * i) ≡ n / 2 ^ (2 * suc i) = shr-shr n 2 (2 * i) ∙ ap (λ e. n / 2 ^ e) (two_more i) in
    get_or-owners_in k (n / 4) i (omega arith) ∙ ap (λ m. seat_at (m % 4)) there

pub slice_get-owners_in : (k n i : ℕ) → i < k → slice_get (owners_in k n) i ≡ Some (seat_at (n / 2 ^ (2 * i) % 4))
slice_get-owners_in k n i h =
    let within : i < length (owners_in k n) = omega (arith, length-owners_in k n) in
    slice_get-get_or (owners_in k n) i North within ∙ ap Some (get_or-owners_in k n i h)

-- the first owners
pub take-owners_in : (i k n : ℕ) → i ≤ k → take i (owners_in k n) ≡ owners_in i n
take-owners_in zero k n h = refl
take-owners_in (suc i) zero n h = absurd (omega arith)
take-owners_in (suc i) (suc k) n h = ap (λ owners. seat_at (n % 4) ∷ owners) (take-owners_in i k (n / 4) (omega arith))

-- bits above the owners do not matter
pub owners_in-mod : (k n : ℕ) → owners_in k (n % 2 ^ (2 * k)) ≡ owners_in k n
owners_in-mod zero n = refl
owners_in-mod (suc k) n =
    let more = place_more k in
    let split = mod-pow-add n (2 * k) 2 in
    let at : 2 ^ (2 * suc k) ≡ 2 ^ (2 * k + 2) = ap (λ e. 2 ^ e) (omega arith) in
    let whole : n % 2 ^ (2 * suc k) ≡ n / 4 % 2 ^ (2 * k) * 4 + n % 4 = ap (λ m. n % m) at ∙ split in
    let low : n % 2 ^ (2 * suc k) % 4 ≡ n % 4 = omega (arith, whole) in
    let high : n % 2 ^ (2 * suc k) / 4 ≡ n / 4 % 2 ^ (2 * k) = omega (arith, whole) in
    rw (low, high, owners_in-mod k (n / 4)) refl

-- the owners of one word begin with those of another
pub BeginsWith-owners_in : (k n j m : ℕ) → n < 2 ^ (2 * k) → (BeginsWith (owners_in j m) (owners_in k n)) ↔ ((k ≤ j) × (n ≡ m % 2 ^ (2 * k)))
BeginsWith-owners_in k n j m below = (
  λ begins.
      let fits = front_fits (owners_in j m) (owners_in k n) begins.0 begins.1 in
      let within : k ≤ j = omega (arith, length-owners_in k n, length-owners_in j m) in
      let front : take k (owners_in j m) ≡ owners_in k n =
      ap (take k) begins.1 ∙ (ap (λ l. take l (owners_in k n ++ begins.0)) (sym (length-owners_in k n)) ∙ take-append_seam (owners_in k n) begins.0) in
      let same : owners_in k (m % 2 ^ (2 * k)) ≡ owners_in k n = owners_in-mod k m ∙ (sym (take-owners_in k j m within) ∙ front) in
      (within, sym (owner_bits-owners_in k n below) ∙ (ap owner_bits (sym same) ∙ owner_bits-owners_in k (m % 2 ^ (2 * k)) (mod_below m (2 ^ (2 * k)) (pow_pos (2 * k))))),
  λ h.
      let front : take k (owners_in j m) ≡ owners_in k n = take-owners_in k j m h.0 ∙ (sym (owners_in-mod k m) ∙ ap (owners_in k) (sym h.1)) in
      (drop k (owners_in j m), sym (take-append-drop k (owners_in j m)) ∙ ap (λ xs. xs ++ drop k (owners_in j m)) front),
)

-- the length of a seat
pub len_of-suit_in : (word : ℕ) (seat : Seat) → len_of (suit_in word) seat ≡ word / 2 ^ (4 * seat_number seat) % 2 ^ 4
len_of-suit_in word North = omega arith
len_of-suit_in word East = refl
len_of-suit_in word South = refl
len_of-suit_in word West = refl

-- a suit of a pattern or a rest has a word
pub HasWord-fits : (suit : SuitShape) → length suit.lens ≡ 4 → suit_size suit ≤ 13 → ((seat : Seat) → tops_of suit seat ≤ len_of suit seat) → HasWord suit
HasWord-fits suit four fits owned =
    let all = counts_add_up suit.owners in
    record {
      four = four;
      lens = for_each_seat (λ seat. len_of suit seat < 16) (omega arith) (omega arith) (omega arith) (omega arith);
      within = omega (arith, all, owned North, owned East, owned South, owned West);
    }

-- whether there are bits after the last owner
pub tells_by_bits : (word k : ℕ) → k ≡ owner_count word → k ≤ 13 → MatchBool (nat_eq (word / 2 ^ 20 / 2 ^ (2 * k)) 0) (IsSuitWord word) (IsWrongWord word)
tells_by_bits word k is within = go (nat_eq above 0) refl
  where
    above : ℕ
    above = word / 2 ^ 20 / 2 ^ (2 * k)

    at : 2 ^ (2 * k) ≡ 2 ^ (2 * owner_count word)
    at = ap (λ n. 2 ^ (2 * n)) is

    go : (test : Bool) → nat_eq above 0 ≡ test → MatchBool test (IsSuitWord word) (IsWrongWord word)
    go true e =
        let none : above ≡ 0 = eqb-true above 0 e in
        let split : 0 * 2 ^ (2 * k) + word / 2 ^ 20 % 2 ^ (2 * k) ≡ word / 2 ^ 20 = ap (λ n. n * 2 ^ (2 * k) + word / 2 ^ 20 % 2 ^ (2 * k)) (sym none) ∙ shr_split (word / 2 ^ 20) (2 * k) in
        let low = mod_below (word / 2 ^ 20) (2 ^ (2 * k)) (pow_pos (2 * k)) in
        record { within = omega arith; blank = omega (arith, split, low, at) }
    go false e = elim (cases_lt (word / 2 ^ 20) (2 ^ (2 * k))) [
      | inl below ↦ absurd (false≢true (sym e ∙ eq-eqb above 0 (let z : 0 + 2 * k ≡ 2 * k = omega arith in let small = shr_below (word / 2 ^ 20) 0 (2 * k) (subst (λ n. word / 2 ^ 20 < 2 ^ n) (sym z) below) in omega arith)))
      | inr over ↦ inr (omega (arith, over, at))
    ]

-- the four lengths are the low sixteen bits
pub lens_by_word : (one other : ℕ) → ((suit_in one).lens ≡ (suit_in other).lens) ↔ (one % 2 ^ 16 ≡ other % 2 ^ 16)
lens_by_word one other = (
  λ e.
      let n : one % 2 ^ 4 ≡ other % 2 ^ 4 = cc in
      let e' : one / 2 ^ 4 % 2 ^ 4 ≡ other / 2 ^ 4 % 2 ^ 4 = cc in
      let s : one / 2 ^ 8 % 2 ^ 4 ≡ other / 2 ^ 8 % 2 ^ 4 = cc in
      let w : one / 2 ^ 12 % 2 ^ 4 ≡ other / 2 ^ 12 % 2 ^ 4 = cc in
      omega arith,
  λ e.
      let n : one % 2 ^ 4 ≡ other % 2 ^ 4 = omega arith in
      let e' : one / 2 ^ 4 % 2 ^ 4 ≡ other / 2 ^ 4 % 2 ^ 4 = omega arith in
      let s : one / 2 ^ 8 % 2 ^ 4 ≡ other / 2 ^ 8 % 2 ^ 4 = omega arith in
      let w : one / 2 ^ 12 % 2 ^ 4 ≡ other / 2 ^ 12 % 2 ^ 4 = omega arith in
      cc,
)

-- one word covers another
pub covers_by_words : (one other : ℕ) → IsSuitWord one → CoversSuit (suit_in one) (suit_in other) ↔
    (((one % 2 ^ 16 ≡ other % 2 ^ 16) × (owner_count one ≤ owner_count other)) × (one / 2 ^ 20 ≡ other / 2 ^ 20 % 2 ^ (2 * owner_count one)))
covers_by_words one other is =
    let begins = BeginsWith-owners_in (owner_count one) (one / 2 ^ 20) (owner_count other) (other / 2 ^ 20) is.blank in
    let lens = lens_by_word one other in (
      λ covers. let o = begins.0 covers.owners in ((lens.0 covers.lens, o.0), o.1),
      λ h. record { lens = lens.1 h.0.0; owners = begins.1 (h.0.1, h.1) },
    )

-- one owner more
pub owner_bits-push : (owners : List Seat) (x : Seat) → owner_bits (owners ++ x ∷ []) ≡ owner_bits owners + seat_number x * 2 ^ (2 * length owners)
owner_bits-push [] x = omega arith
owner_bits-push (owner ∷ owners) x =
    let more = place_more (length owners) in
    let rest = owner_bits-push owners x in
    let e : seat_number x * 2 ^ (2 * suc (length owners)) ≡ 4 * (seat_number x * 2 ^ (2 * length owners)) = ap (λ n. seat_number x * n) more ∙ grind arith in
    omega (arith, rest, e)

-- so many owners have so many bits
pub places_below : (k : ℕ) → k ≤ 13 → 2 ^ (2 * k) ≤ 2 ^ 26
places_below k h = let e : 2 * k ≤ 26 = omega arith in let two : 0 < 2 = omega arith in pow-le-pow_right two e

pub owner_bits-fit : (owners : List Seat) → length owners ≤ 13 → owner_bits owners < 2 ^ 26
owner_bits-fit owners h = omega (arith, owner_bits-below owners, places_below (length owners) h)

-- one owner more is added to the bits, as the code computes it
pub record MoreBits (owners : List Seat) (i n : ℕ) : Type 0 where
  pub whole : n * 2 ^ (2 * i) % 2 ^ 64 ≡ n * 2 ^ (2 * i)
  pub more : owner_bits (take i owners) + n * 2 ^ (2 * i) ≡ owner_bits (take (i + 1) owners)
  pub fits : owner_bits (take (i + 1) owners) < 2 ^ 26

pub more_bits : (owners : List Seat) (i n : ℕ) → i < length owners → length owners ≤ 13 → n ≡ seat_number (get_or owners i North) → MoreBits owners i n
more_bits owners i n less within is =
    let x = get_or owners i North in
    let below = number_below x in
    let len = length-take-le i owners (omega arith) in
    let len' = length-take-le (i + 1) owners (omega arith) in
    record {
      whole = shl_whole n 2 (2 * i) 64 (omega arith) (omega arith);
      more = sym (ap owner_bits (take_more owners i North less) ∙ (owner_bits-push (take i owners) x ∙ (ap (λ k. owner_bits (take i owners) + seat_number x * 2 ^ (2 * k)) len ∙ ap (λ m. owner_bits (take i owners) + m * 2 ^ (2 * i)) (sym is))));
      fits = owner_bits-fit (take (i + 1) owners) (omega (arith, len'));
    }

-- a word is put together, as the code computes it
pub put_together : (suit : SuitShape) (n e s w k b : ℕ) → HasWord suit → n ≡ len_of suit North → e ≡ len_of suit East → s ≡ len_of suit South → w ≡ len_of suit West →
    k ≡ length suit.owners → b ≡ owner_bits suit.owners →
    n + e * 16 % 2 ^ 64 + s * 256 % 2 ^ 64 + w * 4096 % 2 ^ 64 + k * 65536 % 2 ^ 64 + b * 1048576 % 2 ^ 64 ≡ word_of suit
put_together suit n e s w k b h hn he hs hw hk hb =
    let fits = owner_bits-fit suit.owners h.within in
    let within = h.within in
    omega (arith, h.lens North, h.lens East, h.lens South, h.lens West)

-- what comparisons of stored numbers tell
pub told_le : {stored stored' one other : ℕ} → stored ≡ one → stored' ≡ other → IsTrue (leb stored stored') ↔ (one ≤ other)
told_le is is' = (λ h. rw (← is, ← is') (leb-true _ _ h), λ fits. le-leb _ _ (rw (is, is') fits))

-- the owner in a place of a suit that a word tells
pub owner_told : (word i : ℕ) (suit : SuitShape) → suit_in word ≡ suit → i < length suit.owners → seat_at (word / 2 ^ 20 / 2 ^ (2 * i) % 4) ≡ get_or suit.owners i North
owner_told word i suit told less =
    let count = length-owners_in_of word in
    let len = ap (λ (s : SuitShape). length s.owners) told in
    sym (get_or-owners_in (owner_count word) (word / 2 ^ 20) i (omega arith)) ∙ ap (λ (s : SuitShape). get_or s.owners i North) told

-- lengths taken from a word, each no greater than its own
pub record LensTaken (word lens : ℕ) : Type 0 where
  pub fits : lens ≤ word
  pub high : (word - lens) / 2 ^ 16 ≡ word / 2 ^ 16
  pub each : (seat : Seat) → len_of (suit_in (word - lens)) seat ≡ len_of (suit_in word) seat - len_of (suit_in lens) seat

pub lens_taken : (word lens : ℕ) → lens < 2 ^ 16 → ((seat : Seat) → len_of (suit_in lens) seat ≤ len_of (suit_in word) seat) → LensTaken word lens
lens_taken word lens below within =
    let n : lens % 2 ^ 4 ≤ word % 2 ^ 4 = within North in
    let e : lens / 2 ^ 4 % 2 ^ 4 ≤ word / 2 ^ 4 % 2 ^ 4 = within East in
    let s : lens / 2 ^ 8 % 2 ^ 4 ≤ word / 2 ^ 8 % 2 ^ 4 = within South in
    let w : lens / 2 ^ 12 % 2 ^ 4 ≤ word / 2 ^ 12 % 2 ^ 4 = within West in
    let whole = fields (word % 2 ^ 4) (word / 2 ^ 4 % 2 ^ 4) (word / 2 ^ 8 % 2 ^ 4) (word / 2 ^ 12 % 2 ^ 4) (word / 2 ^ 16)
    (lens % 2 ^ 4) (lens / 2 ^ 4 % 2 ^ 4) (lens / 2 ^ 8 % 2 ^ 4) (lens / 2 ^ 12 % 2 ^ 4) n e s w
    (omega arith) (omega arith) (omega arith) (omega arith) (omega arith) (omega arith) in
    let parts = left (word % 2 ^ 4 - lens % 2 ^ 4) (word / 2 ^ 4 % 2 ^ 4 - lens / 2 ^ 4 % 2 ^ 4) (word / 2 ^ 8 % 2 ^ 4 - lens / 2 ^ 8 % 2 ^ 4) (word / 2 ^ 12 % 2 ^ 4 - lens / 2 ^ 12 % 2 ^ 4) (word / 2 ^ 16)
    (omega arith) (omega arith) (omega arith) (omega arith) whole.left in
    record { fits = whole.fits; high = parts.high; each = for_each_seat _ parts.north parts.east parts.south parts.west }
  where
    -- the fields of what is left
    left : (n e s w high : ℕ) → n < 16 → e < 16 → s < 16 → w < 16 → word - lens ≡ n + 2 ^ 4 * e + 2 ^ 8 * s + 2 ^ 12 * w + 2 ^ 16 * high →
        record { high : (word - lens) / 2 ^ 16 ≡ high; north : (word - lens) % 2 ^ 4 ≡ n; east : (word - lens) / 2 ^ 4 % 2 ^ 4 ≡ e; south : (word - lens) / 2 ^ 8 % 2 ^ 4 ≡ s; west : (word - lens) / 2 ^ 12 % 2 ^ 4 ≡ w }
    left n e s w high bn be bs bw is = record { high = omega arith; north = omega arith; east = omega arith; south = omega arith; west = omega arith }

    fields : (n e s w high n' e' s' w' : ℕ) → n' ≤ n → e' ≤ e → s' ≤ s → w' ≤ w → n < 16 → e < 16 → s < 16 → w < 16 →
        word ≡ n + 2 ^ 4 * e + 2 ^ 8 * s + 2 ^ 12 * w + 2 ^ 16 * high → lens ≡ n' + 2 ^ 4 * e' + 2 ^ 8 * s' + 2 ^ 12 * w' →
        record { fits : lens ≤ word; left : word - lens ≡ (n - n') + 2 ^ 4 * (e - e') + 2 ^ 8 * (s - s') + 2 ^ 12 * (w - w') + 2 ^ 16 * high }
    fields n e s w high n' e' s' w' hn he hs hw bn be bs bw is_word is_lens = record { fits = omega arith; left = omega arith }

-- and the suit that is told by what is left
pub record SuitLeft (suit : SuitShape) (word lens : ℕ) : Type 0 where
  pub fits : lens ≤ word
  pub is_word : IsSuitWord (word - lens)
  pub each : (seat : Seat) → len_of (suit_in (word - lens)) seat ≡ len_of suit seat - len_of (suit_in lens) seat
  pub owners : (suit_in (word - lens)).owners ≡ suit.owners

pub suit_left : (word lens : ℕ) (suit : SuitShape) → suit_in word ≡ suit → IsSuitWord word → lens < 2 ^ 16 → ((seat : Seat) → len_of (suit_in lens) seat ≤ len_of suit seat) → SuitLeft suit word lens
suit_left word lens suit told is below within =
    let taken = lens_taken word lens below (subst (λ (s : SuitShape). (seat : Seat) → len_of (suit_in lens) seat ≤ len_of s seat) (sym told) within) in
    let high = taken.high in
    let count : owner_count (word - lens) ≡ owner_count word = ap (λ n. n % 2 ^ 4) high in
    let bits : (word - lens) / 2 ^ 20 ≡ word / 2 ^ 20 = sym (shr-shr (word - lens) 16 4) ∙ (ap (λ n. n / 2 ^ 4) high ∙ shr-shr word 16 4) in
    record {
      fits = taken.fits;
      is_word = record { within = rw count is.within; blank = rw (count, bits) is.blank };
      each = λ seat. taken.each seat ∙ ap (λ (s : SuitShape). len_of s seat - len_of (suit_in lens) seat) told;
      owners = rw (count, bits) (ap (λ (s : SuitShape). s.owners) told);
    }
