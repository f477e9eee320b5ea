-- What four words of bits tell of a layout.
use Rattle.std.proofs.Common.{◌≡◌, ◌≢◌, ℕ, zero, suc, ◌+◌, ◌-◌, ◌<◌, ◌≤◌, Bool, true, false, cond, eqb, List, [], ◌∷◌, ◌++◌, length, map, get_or, take, drop, Option, None, Some, ◌↔◌, refl, sym, ◌∙◌, ap, arith, count_by, IsTrue, nat_eq}
use Rattle.std.specs.Prelude.{count_ones, slice_index}
use Rattle.std.specs.Int.{bit_at}
use Rattle.std.specs.Option.{option_to_list}
use Rattle.std.specs.List.{filter_map, cons_option}
use lib.Lanes.{mask_l}
use Rattle.std.proofs.lemmas.Nat.Bits.{bit_at-lt, same_from_bits_below}
use Rattle.std.proofs.lemmas.Simd.{bit_mask_l, mask_l-lt, ones-mask_l}
use Rattle.std.proofs.lemmas.Bool.{eq-eqb, eqb-true, ne_eqb, false≢true}
use Rattle.std.proofs.lemmas.List.Elements.{filter_map-append}
use Rattle.std.proofs.lemmas.List.{get_or-map, take_more, take_all, take-append-le, take-append-drop, length-take, length-append, length-take-le}
use Rattle.std.proofs.lemmas.List.FromFn.{get_or-map-range_with_len}
use Rattle.cards.specs.declared.suits.Suit.{Suit}
use Rattle.cards.specs.declared.pack.Rank.{Rank}
use Rattle.cards.specs.declared.pack.Rank.TheVariants.{Two, Three, Four, Five, Six, Seven, Eight, Nine, Ten, Jack, Queen, King, Ace}
use Rattle.cards.specs.declared.seats.Seat.{Seat}
use Rattle.cards.specs.declared.seats.Seat.TheVariants.{North, East, South, West}
use Rattle.cards.specs.Deal.{Deal, holder_of, is_held_by}
use Rattle.cards.specs.Hands.{holder_by_bits, holder_by_words}
use Rattle.cards.specs.Pack.{card_of, rank_number, rank_at}
use Rattle.cards.proofs.PackLaws.{rank_number-rank_at}
use Rattle.cards.specs.Seats.{seat_number, is_same_seat}
use Rattle.patterns.specs.Holders.{falling_ranks, holders_of, count_in, MatchesSuit}
use Rattle.patterns.specs.Shapes.{SuitShape, len_of, BeginsWith}
use Rattle.patterns.specs.Holdings.{TellHolders, falling_numbers, holders_in}
use Rattle.patterns.proofs.HolderLaws.{count_in-filter_map, length-filter_map-le}
use Rattle.patterns.proofs.SeatLaws.{same_from_is_same, is_same_seat_self}

-- the seats that hold the highest so many of the suit's thirteen cards, that of the highest first
abbrev pub holders_above : List ℕ → ℕ → List Seat
holders_above words n = filter_map (holder_by_words words) (take n falling_numbers)

-- four bits name the holder
tells : (n e s w : ℕ) (holder : Option Seat) → (n ≡ 1) ↔ (holder ≡ Some North) → (e ≡ 1) ↔ (holder ≡ Some East) → (s ≡ 1) ↔ (holder ≡ Some South) → (w ≡ 1) ↔ (holder ≡ Some West) → holder_by_bits n e s w ≡ holder
tells n e s w None hn he hs hw =
    let no_n : eqb n 1 ≡ false = ne_eqb n 1 (λ h. let x = hn.0 h in cc) in
    let no_e : eqb e 1 ≡ false = ne_eqb e 1 (λ h. let x = he.0 h in cc) in
    let no_s : eqb s 1 ≡ false = ne_eqb s 1 (λ h. let x = hs.0 h in cc) in
    let no_w : eqb w 1 ≡ false = ne_eqb w 1 (λ h. let x = hw.0 h in cc) in
    rw (no_n, no_e, no_s, no_w) refl
tells n e s w (Some North) hn he hs hw = rw (eq-eqb n 1 (hn.1 refl)) refl
tells n e s w (Some East) hn he hs hw =
    let no_n : eqb n 1 ≡ false = ne_eqb n 1 (λ h. let x = hn.0 h in cc) in
    rw (no_n, eq-eqb e 1 (he.1 refl)) refl
tells n e s w (Some South) hn he hs hw =
    let no_n : eqb n 1 ≡ false = ne_eqb n 1 (λ h. let x = hn.0 h in cc) in
    let no_e : eqb e 1 ≡ false = ne_eqb e 1 (λ h. let x = he.0 h in cc) in
    rw (no_n, no_e, eq-eqb s 1 (hs.1 refl)) refl
tells n e s w (Some West) hn he hs hw =
    let no_n : eqb n 1 ≡ false = ne_eqb n 1 (λ h. let x = hn.0 h in cc) in
    let no_e : eqb e 1 ≡ false = ne_eqb e 1 (λ h. let x = he.0 h in cc) in
    let no_s : eqb s 1 ≡ false = ne_eqb s 1 (λ h. let x = hs.0 h in cc) in
    rw (no_n, no_e, no_s, eq-eqb w 1 (hw.1 refl)) refl

-- the words name the holder of each card
holder_in-is : (words : List ℕ) (deal : Deal) (suit : Suit) → TellHolders words deal suit → (rank : Rank) → holder_by_words words (rank_number rank) ≡ holder_of deal (card_of suit rank)
holder_in-is words deal suit told rank = tells _ _ _ _ _ (told.bits North rank) (told.bits East rank) (told.bits South rank) (told.bits West rank)

filter_map-same : {X Y : Type 0} (f g : X → Option Y) → ((x : X) → f x ≡ g x) → (xs : List X) → filter_map f xs ≡ filter_map g xs
filter_map-same f g same [] = refl
filter_map-same f g same (x ∷ xs) = rw (same x, filter_map-same f g same xs) refl

-- the words name the holders of the suit
pub holders_in-is : (words : List ℕ) (deal : Deal) (suit : Suit) → TellHolders words deal suit → holders_in words ≡ holders_of deal suit
unfolding holders_in holders_of
holders_in-is words deal suit told =
    filter_map-same (λ rank. holder_by_words words (rank_number rank)) (λ rank. holder_of deal (card_of suit rank)) (holder_in-is words deal suit told) falling_ranks

-- the ranks, the deuce first
abbrev rising_ranks : List Rank
rising_ranks = Two ∷ Three ∷ Four ∷ Five ∷ Six ∷ Seven ∷ Eight ∷ Nine ∷ Ten ∷ Jack ∷ Queen ∷ King ∷ Ace ∷ []

rising_at : (i : ℕ) → i < 13 → get_or rising_ranks i Two ≡ rank_at i
rising_at zero h = refl
rising_at (suc zero) h = refl
rising_at (suc (suc zero)) h = refl
rising_at (suc (suc (suc zero))) h = refl
rising_at (suc (suc (suc (suc zero)))) h = refl
rising_at (suc (suc (suc (suc (suc zero))))) h = refl
rising_at (suc (suc (suc (suc (suc (suc zero)))))) h = refl
rising_at (suc (suc (suc (suc (suc (suc (suc zero))))))) h = refl
rising_at (suc (suc (suc (suc (suc (suc (suc (suc zero)))))))) h = refl
rising_at (suc (suc (suc (suc (suc (suc (suc (suc (suc zero))))))))) h = refl
rising_at (suc (suc (suc (suc (suc (suc (suc (suc (suc (suc zero)))))))))) h = refl
rising_at (suc (suc (suc (suc (suc (suc (suc (suc (suc (suc (suc zero))))))))))) h = refl
rising_at (suc (suc (suc (suc (suc (suc (suc (suc (suc (suc (suc (suc zero)))))))))))) h = refl
rising_at (suc (suc (suc (suc (suc (suc (suc (suc (suc (suc (suc (suc (suc n))))))))))))) h = absurd (omega arith)

-- a bit that tells whether a seat is the holder
bit_is : (bit : ℕ) → bit < 2 → (holder : Option Seat) (seat : Seat) → (bit ≡ 1) ↔ (holder ≡ Some seat) → bit ≡ cond (is_held_by seat holder) 1 0
bit_is bit small None seat told =
    let not_one : bit ≢ 1 = λ h. let x = told.0 h in cc in
    omega arith
bit_is bit small (Some other) seat told = go (is_same_seat seat other) refl
  where
    go : (same : Bool) → is_same_seat seat other ≡ same → bit ≡ cond same 1 0
    go true e = told.1 (ap Some (sym (same_from_is_same seat other e)))
    go false e =
        let not_one : bit ≢ 1 = λ h. let x : other ≡ seat = let y = told.0 h in cc in false≢true (sym e ∙ (ap (λ o. is_same_seat seat o) x ∙ is_same_seat_self seat)) in
        omega arith

-- the word of a seat, bit by bit
word_is : (words : List ℕ) (deal : Deal) (suit : Suit) → TellHolders words deal suit → (seat : Seat) →
    slice_index words (seat_number seat) ≡ mask_l (map (λ rank. is_held_by seat (holder_of deal (card_of suit rank))) rising_ranks)
word_is words deal suit told seat =
    let word = slice_index words (seat_number seat) in
    let held : Rank → Bool = λ rank. is_held_by seat (holder_of deal (card_of suit rank)) in
    let mask = mask_l (map held rising_ranks) in
    same_from_bits_below 13 word mask (told.below seat) (mask_l-lt (map held rising_ranks))
    (λ i less.
    let number : rank_number (rank_at i) ≡ i = rank_number-rank_at i less in
    let there : get_or (map held rising_ranks) i false ≡ held (rank_at i) = get_or-map held rising_ranks i Two false less ∙ ap held (rising_at i less) in
    let by_rank = bit_is (bit_at word (rank_number (rank_at i))) (bit_at-lt word (rank_number (rank_at i))) (holder_of deal (card_of suit (rank_at i))) seat (told.bits seat (rank_at i)) in
    ap (bit_at word) (sym number) ∙ (by_rank ∙ (ap (λ b. cond b 1 0) (sym there) ∙ sym (bit_mask_l (map held rising_ranks) i))))

rising-falling : (p : Rank → Bool) → count_by p rising_ranks ≡ count_by p falling_ranks
rising-falling p = omega arith

-- the words have as many bits as the seats hold cards
pub count_ones-is : (words : List ℕ) (deal : Deal) (suit : Suit) → TellHolders words deal suit → (seat : Seat) → count_ones (slice_index words (seat_number seat)) ≡ count_in (holders_of deal suit) seat
unfolding holders_of
count_ones-is words deal suit told seat =
    let held : Rank → Bool = λ rank. is_held_by seat (holder_of deal (card_of suit rank)) in
    ap count_ones (word_is words deal suit told seat)
    ∙ (ones-mask_l held rising_ranks
    ∙ (rising-falling held ∙ sym (count_in-filter_map (λ rank. holder_of deal (card_of suit rank)) seat falling_ranks)))

-- one card more
pub holders_above-more : (words : List ℕ) (n : ℕ) → n < 13 → holders_above words (n + 1) ≡ holders_above words n ++ option_to_list (holder_by_words words (12 - n))
holders_above-more words n less =
    let number : get_or falling_numbers n 0 ≡ 12 - n = get_or-map-range_with_len (λ i. 12 - i) 0 13 n n 0 less (omega arith) in
    ap (filter_map (holder_by_words words)) (take_more falling_numbers n 0 less ∙ ap (λ x. take n falling_numbers ++ x ∷ []) number)
    ∙ (filter_map-append (holder_by_words words) (take n falling_numbers) ((12 - n) ∷ [])
    ∙ ap (λ xs. holders_above words n ++ xs) (last (holder_by_words words (12 - n))))
  where
    last : (holder : Option Seat) → cons_option holder [] ≡ option_to_list holder
    last None = refl
    last (Some seat) = refl

pub length-holders_above : (words : List ℕ) (n : ℕ) → n ≤ 13 → length (holders_above words n) ≤ n
length-holders_above words n within = omega (arith, length-filter_map-le (holder_by_words words) (take n falling_numbers), length-take-le n falling_numbers within)

-- the first so many, one more being added
pub take-more : (depth : ℕ) (holders : List Seat) (more : List Seat) → length (take depth holders) < depth → length more ≤ 1 → take depth (holders ++ more) ≡ take depth holders ++ more
take-more depth holders more short one =
    let fits : length holders < depth = omega (arith, short, length-take depth holders) in
    take_all depth (holders ++ more) (omega (arith, length-append holders more))
    ∙ ap (λ xs. xs ++ more) (sym (take_all depth holders (omega arith)))

pub take-full : (depth : ℕ) (holders : List Seat) (more : List Seat) → depth ≤ length (take depth holders) → take depth (holders ++ more) ≡ take depth holders
take-full depth holders more full =
    take-append-le depth holders more (omega (arith, full, length-take depth holders))

-- the holders, cut after some of the cards
pub holders_in-split : (words : List ℕ) (n : ℕ) → holders_in words ≡ holders_above words n ++ filter_map (holder_by_words words) (drop n falling_numbers)
unfolding holders_in
holders_in-split words n =
    ap (filter_map (holder_by_words words)) (sym (take-append-drop n falling_numbers)) ∙ filter_map-append (holder_by_words words) (take n falling_numbers) (drop n falling_numbers)

-- a suit matches where the words have its lengths and their holders begin with its owners
pub matches_by_words : (words : List ℕ) (deal : Deal) (suit : Suit) (shape : SuitShape) → TellHolders words deal suit →
    MatchesSuit shape (holders_of deal suit)
    ↔ (((seat : Seat) → len_of shape seat ≡ count_ones (slice_index words (seat_number seat))) × BeginsWith (holders_in words) shape.owners)
matches_by_words words deal suit shape told =
    let ones = count_ones-is words deal suit told in
    let holders = holders_in-is words deal suit told in (
      λ matches. (λ seat. matches.lens seat ∙ sym (ones seat), rw holders matches.owners),
      λ h. record { lens = λ seat. h.0 seat ∙ ones seat; owners = rw (← holders) h.1 },
    )

-- a comparison of a seat's length with what is counted
pub told_len : {ones from len : ℕ} → from ≡ len → IsTrue (nat_eq ones from) ↔ (len ≡ ones)
told_len is = (λ h. sym is ∙ sym (eqb-true _ _ h), λ e. eq-eqb _ _ (sym e ∙ sym is))
