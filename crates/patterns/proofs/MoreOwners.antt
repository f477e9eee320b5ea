-- A word whose owners are lengthened by one seat, and a suit that is completed so.
use Rattle.std.proofs.Common.{◌≡◌, ◌≢◌, ℕ, zero, suc, ◌+◌, ◌-◌, ◌*◌, ◌/◌, ◌%◌, ◌^◌, ◌<◌, ◌≤◌, List, [], ◌∷◌, ◌++◌, length, replicate, refl, sym, ◌∙◌, ap, arith}
use Rattle.std.specs.Prelude.{bit_and}
use Rattle.std.proofs.lemmas.Nat.{and_mask, one_shl, pow-add, pow_pos}
use Rattle.std.proofs.lemmas.List.{append-nil, length-append, length-replicate}
use Rattle.cards.specs.declared.seats.Seat.{Seat}
use Rattle.cards.specs.declared.seats.Seat.TheVariants.{North, East, South, West}
use Rattle.cards.specs.Seats.{seat_number}
use Rattle.patterns.specs.Shapes.{SuitShape, len_of, suit_size}
use Rattle.patterns.specs.Parts.{HasItsOwners}
use Rattle.patterns.specs.Words.{owner_bits, owner_count, suit_in, word_of, HasWord, IsSuitWord}
use Rattle.patterns.specs.WordLaws.{place_more, length-owners_in, word_of-suit_in}
use Rattle.patterns.specs.Completions.{lows_of, completed_suit}
use Rattle.patterns.proofs.SeatLaws.{for_each_seat}
use Rattle.patterns.proofs.HolderLaws.{counts_add_up}
use Rattle.patterns.proofs.EqualityLaws.{same_suits}
use Rattle.patterns.proofs.SuitWords.{suit_with, suit_in-word_of, IsSuitWord-word_of, owner_bits-fit}
use Rattle.patterns.proofs.OwnedPlaces.{each_place, each_place-mod}
use Rattle.patterns.proofs.CompletionLaws.{all_lows, one_alone, none_alone}

-- ---- the bits
owner_bits-append : (one other : List Seat) → owner_bits (one ++ other) ≡ owner_bits one + owner_bits other * 2 ^ (2 * length one)
owner_bits-append [] other = omega arith
owner_bits-append (owner ∷ one) other =
    let rest = owner_bits-append one other in
    let more : owner_bits other * 2 ^ (2 * suc (length one)) ≡ 4 * (owner_bits other * 2 ^ (2 * length one)) = ap (λ n. owner_bits other * n) (place_more (length one)) ∙ grind arith in
    omega (arith, rest, more)

owner_bits-replicate : (count : ℕ) (seat : Seat) → owner_bits (replicate count seat) ≡ each_place count * seat_number seat
owner_bits-replicate zero seat = omega arith
owner_bits-replicate (suc count) seat =
    let rest = owner_bits-replicate count seat in
    let more : (1 + 4 * each_place count) * seat_number seat ≡ seat_number seat + 4 * (each_place count * seat_number seat) = grind arith in
    omega (arith, rest, more)

-- ---- the word, as the code computes it
pub record Lengthened (word count each number from : ℕ) (seat : Seat) : Type 0 where
  pub product : each * number < 2 ^ 64
  pub sum : word + count * 65536 % 2 ^ 64 + each * number * 2 ^ from % 2 ^ 64 < 2 ^ 64
  pub is_word : IsSuitWord (word + count * 65536 % 2 ^ 64 + each * number * 2 ^ from % 2 ^ 64)
  pub lens : (suit_in (word + count * 65536 % 2 ^ 64 + each * number * 2 ^ from % 2 ^ 64)).lens ≡ (suit_in word).lens
  pub owners : (suit_in (word + count * 65536 % 2 ^ 64 + each * number * 2 ^ from % 2 ^ 64)).owners ≡ (suit_in word).owners ++ replicate count seat

pub lengthened : (word count k number : ℕ) (seat : Seat) → IsSuitWord word → k ≡ owner_count word → number ≡ seat_number seat → length (suit_in word).owners + count ≤ 13 →
    Lengthened word count (bit_and 22369621 (1 * 2 ^ (2 * count) % 2 ^ 64 - 1)) number (20 + 2 * k) seat
lengthened word count k number seat is counted numbered within =
    let owners = (suit_in word).owners in
    let longer = suit_with (suit_in word).lens (owners ++ replicate count seat) in
    let len : length owners ≡ k = length-owners_in (owner_count word) (word / 2 ^ 20) ∙ sym counted in
    let whole_len : length (owners ++ replicate count seat) ≡ length owners + count = length-append owners (replicate count seat) ∙ ap (λ n. length owners + n) (length-replicate count seat) in
    let has : HasWord longer = record {
      four = refl;
      lens = for_each_seat (λ seat. len_of longer seat < 16) (omega arith) (omega arith) (omega arith) (omega arith);
      within = omega (arith, whole_len, within);
    } in
    let each : bit_and 22369621 (1 * 2 ^ (2 * count) % 2 ^ 64 - 1) ≡ each_place count =
    ap (λ m. bit_and 22369621 (m - 1)) (one_shl (2 * count) 64 (omega arith)) ∙ (and_mask 22369621 (2 * count) ∙ each_place-mod 13 count (omega arith)) in
    let more : ℕ = each_place count * seat_number seat in
    let above : ℕ = more * 2 ^ (2 * k) in
    let bits : owner_bits (owners ++ replicate count seat) ≡ owner_bits owners + above =
    owner_bits-append owners (replicate count seat) ∙ (ap (λ n. owner_bits owners + n * 2 ^ (2 * length owners)) (owner_bits-replicate count seat) ∙ ap (λ n. owner_bits owners + more * 2 ^ (2 * n)) len) in
    let fits = owner_bits-fit (owners ++ replicate count seat) has.within in
    let high : more * 2 ^ (20 + 2 * k) ≡ 2 ^ 20 * above = ap (λ n. more * n) (pow-add 2 20 (2 * k)) ∙ grind arith in
    let least : more ≤ above = grind (arith, pow_pos (2 * k)) in
    let before : word_of (suit_in word) ≡ word = word_of-suit_in word is in
    let new : word + count * 65536 % 2 ^ 64 + more * 2 ^ (20 + 2 * k) % 2 ^ 64 ≡ word_of longer = omega (arith, high, bits, fits, before, whole_len, within) in
    let below : word_of longer < 2 ^ 64 = omega (arith, has.lens North, has.lens East, has.lens South, has.lens West, has.within, fits) in
    rw (each, numbered) (record {
      product = omega (arith, least, fits, bits);
      sum = rw new below;
      is_word = rw new (IsSuitWord-word_of longer has);
      lens = rw new (ap (λ (s : SuitShape). s.lens) (suit_in-word_of longer has));
      owners = rw new (ap (λ (s : SuitShape). s.owners) (suit_in-word_of longer has));
    })

-- ---- the suit
pub all_lows-is : (suit : SuitShape) → HasItsOwners suit → all_lows suit ≡ suit_size suit - length suit.owners
all_lows-is suit owned = omega (arith, counts_add_up suit.owners, owned North, owned East, owned South, owned West)

-- without low cards, or where no seat has all of them, the suit stays
pub stays : (suit : SuitShape) → HasItsOwners suit → (lows : ℕ) → lows ≡ suit_size suit - length suit.owners → ((seat : Seat) → lows ≢ lows_of suit seat) → suit ≡ completed_suit suit
stays suit owned lows are none =
    same_suits suit (completed_suit suit) refl
    (sym (append-nil suit.owners) ∙ ap (λ xs. suit.owners ++ xs) (sym (none_alone suit (λ seat all. none seat (are ∙ (sym (all_lows-is suit owned) ∙ all))))))

pub stays_without : (suit : SuitShape) → HasItsOwners suit → suit_size suit - length suit.owners ≡ 0 → suit ≡ completed_suit suit
stays_without suit owned none =
    let all : all_lows suit ≡ 0 = all_lows-is suit owned ∙ none in
    let north : lows_of suit North ≡ 0 = omega (arith, all) in
    same_suits suit (completed_suit suit) refl
    (sym (append-nil suit.owners) ∙ ap (λ xs. suit.owners ++ xs) (sym (one_alone suit North (all ∙ sym north) ∙ ap (λ n. replicate n North) north)))

-- where a seat has all of them it is added for each
pub gets_longer : (suit longer : SuitShape) → HasItsOwners suit → (lows : ℕ) (seat : Seat) → lows ≡ suit_size suit - length suit.owners → lows ≡ lows_of suit seat →
    longer.lens ≡ suit.lens → longer.owners ≡ suit.owners ++ replicate lows seat → longer ≡ completed_suit suit
gets_longer suit longer owned lows seat are has lens owners =
    same_suits longer (completed_suit suit) lens
    (owners ∙ ap (λ xs. suit.owners ++ xs) (ap (λ n. replicate n seat) has ∙ sym (one_alone suit seat (all_lows-is suit owned ∙ (sym are ∙ has)))))
