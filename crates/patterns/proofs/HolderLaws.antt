-- The holders of a suit's cards in a layout, counted.
use Rattle.std.proofs.Common.{◌≡◌, ℕ, suc, ◌+◌, ◌≤◌, cond, List, [], ◌∷◌, ◌++◌, length, map, get_or, take, drop, Option, None, Some, refl, sym, ◌∙◌, ap, arith, count_by, sum_by}
use Rattle.std.specs.List.{filter_map, range_with_len, cons_option}
use Rattle.std.proofs.lemmas.List.Sums.{sum_by-cons, sum_by-append, sum_by-take-le}
use Rattle.std.proofs.lemmas.List.{same_lists, get_or_default, take-append-drop}
use Rattle.std.proofs.lemmas.List.FromFn.{get_or-map-range_with_len, length-map-range_with_len}
use Rattle.cards.specs.declared.suits.Suit.{Suit}
use Rattle.cards.specs.declared.suits.Suit.TheVariants.{Spades, Hearts, Diamonds, Clubs}
use Rattle.cards.specs.declared.seats.Seat.{Seat}
use Rattle.cards.specs.declared.seats.Seat.TheVariants.{North, East, South, West}
use Rattle.cards.specs.Deal.{Deal, IsLayout, holder_of, is_held_by, count_of}
use Rattle.cards.specs.Pack.{card_of}
use Rattle.cards.specs.Seats.{is_same_seat}
use Rattle.patterns.specs.Shapes.{suit_of, len_of, tops_of, suit_size, hand_size, IsPattern}
use Rattle.patterns.specs.Holders.{falling_ranks, holders_of, count_in, suit_of_layout, shape_of_layout, MatchesSuit, Matches}
use Rattle.patterns.proofs.SeatLaws.{for_each_suit, for_each_seat}

-- how often a seat is told
pub count_in-cons : (one : Seat) (holders : List Seat) (seat : Seat) → count_in (one ∷ holders) seat ≡ cond (is_same_seat seat one) 1 0 + count_in holders seat
count_in-cons one holders seat = sum_by-cons (λ x. cond (is_same_seat seat x) 1 0) one holders

-- each holder is one of the four
one_of_four : (one : Seat) → cond (is_same_seat North one) 1 0 + cond (is_same_seat East one) 1 0 + cond (is_same_seat South one) 1 0 + cond (is_same_seat West one) 1 0 ≡ 1
one_of_four North = refl
one_of_four East = refl
one_of_four South = refl
one_of_four West = refl

-- the four seats hold all the cards that are held
pub counts_add_up : (holders : List Seat) → count_in holders North + count_in holders East + count_in holders South + count_in holders West ≡ length holders
counts_add_up [] = refl
counts_add_up (one ∷ holders) =
    let n = count_in-cons one holders North in
    let e = count_in-cons one holders East in
    let s = count_in-cons one holders South in
    let w = count_in-cons one holders West in
    omega (arith, n, e, s, w, one_of_four one, counts_add_up holders)

-- a seat's places in a list of holders, where some cards have none
pub count_in-filter_map : {X : Type 0} (held : X → Option Seat) (seat : Seat) (xs : List X) → count_in (filter_map held xs) seat ≡ count_by (λ x. is_held_by seat (held x)) xs
count_in-filter_map held seat [] = refl
count_in-filter_map held seat (x ∷ xs) =
    go (held x) (count_in-filter_map held seat xs) ∙ sym (sum_by-cons (λ y. cond (is_held_by seat (held y)) 1 0) x xs)
  where
    go : (holder : Option Seat) → count_in (filter_map held xs) seat ≡ count_by (λ y. is_held_by seat (held y)) xs → count_in (cons_option holder (filter_map held xs)) seat ≡ cond (is_held_by seat holder) 1 0 + count_by (λ y. is_held_by seat (held y)) xs
    go None e = omega (arith, e)
    go (Some one) e = omega (arith, e, count_in-cons one (filter_map held xs) seat)

pub length-filter_map-le : {X : Type 0} (held : X → Option Seat) (xs : List X) → length (filter_map held xs) ≤ length xs
length-filter_map-le held [] = omega arith
length-filter_map-le held (x ∷ xs) = go (held x) (length-filter_map-le held xs)
  where
    go : (holder : Option Seat) → length (filter_map held xs) ≤ length xs → length (cons_option holder (filter_map held xs)) ≤ suc (length xs)
    go None e = omega (arith, e)
    go (Some one) e = omega (arith, e)

-- a suit has thirteen cards
pub length-holders_of : (deal : Deal) (suit : Suit) → length (holders_of deal suit) ≤ 13
unfolding holders_of
length-holders_of deal suit = length-filter_map-le (λ rank. holder_of deal (card_of suit rank)) falling_ranks

-- the holder of the card with this number
abbrev at : Deal → ℕ → Option Seat
at deal i = get_or deal i None

-- the cards with thirteen numbers in a row, those of one suit
abbrev held_in : Deal → Seat → ℕ → ℕ
held_in deal seat from = count_by (is_held_by seat) (map (at deal) (range_with_len from 13))

-- the number of a suit's first card
abbrev first_of : Suit → ℕ
first_of Spades = 0
first_of Hearts = 13
first_of Diamonds = 26
first_of Clubs = 39

-- a seat's cards of a suit, by their numbers
count_by_numbers : (deal : Deal) (seat : Seat) (suit : Suit) → count_by (λ rank. is_held_by seat (holder_of deal (card_of suit rank))) falling_ranks ≡ held_in deal seat (first_of suit)
count_by_numbers deal seat Spades = omega arith
count_by_numbers deal seat Hearts = omega arith
count_by_numbers deal seat Diamonds = omega arith
count_by_numbers deal seat Clubs = omega arith

-- how many cards of a suit a seat holds
count_in-holders_of : (deal : Deal) (seat : Seat) (suit : Suit) → count_in (holders_of deal suit) seat ≡ held_in deal seat (first_of suit)
unfolding holders_of
count_in-holders_of deal seat suit =
    count_in-filter_map (λ rank. holder_of deal (card_of suit rank)) seat falling_ranks ∙ count_by_numbers deal seat suit

-- a deal, card by card
by_cards : (deal : Deal) → length deal ≡ 52 → deal ≡ map (at deal) (range_with_len 0 52)
by_cards deal whole =
    same_lists deal (map (at deal) (range_with_len 0 52)) (whole ∙ sym (length-map-range_with_len (at deal) 0 52))
    (λ k d less. get_or_default deal k d None less ∙ sym (get_or-map-range_with_len (at deal) 0 52 k k d (omega arith) (omega arith)))

-- four suits are the whole pack
four_suits : (deal : Deal) → map (at deal) (range_with_len 0 52) ≡ map (at deal) (range_with_len 0 13) ++ (map (at deal) (range_with_len 13 13) ++ (map (at deal) (range_with_len 26 13) ++ map (at deal) (range_with_len 39 13)))
four_suits deal = refl

sum_of_four : (a b c d a' b' c' d' total rest last : ℕ) → a ≡ a' → b ≡ b' → c ≡ c' → d ≡ d' → total ≡ rest → rest ≡ a' + last → last ≡ b' + (c' + d') → a + b + c + d ≡ total
sum_of_four a b c d a' b' c' d' total rest last ea eb ec ed et er el = omega (arith, ea, eb, ec, ed, et, er, el)

-- a hand is a seat's cards of the four suits
pub suits_add_up : (deal : Deal) → length deal ≡ 52 → (seat : Seat) →
    count_in (holders_of deal Spades) seat + count_in (holders_of deal Hearts) seat + count_in (holders_of deal Diamonds) seat + count_in (holders_of deal Clubs) seat ≡ count_of deal seat
suits_add_up deal whole seat =
    let f : Option Seat → ℕ = λ holder. cond (is_held_by seat holder) 1 0 in
    let block = λ (from : ℕ). map (at deal) (range_with_len from 13) in
    let all : count_of deal seat ≡ sum_by f (block 0 ++ (block 13 ++ (block 26 ++ block 39))) = ap (λ xs. sum_by f xs) (by_cards deal whole ∙ four_suits deal) in
    let one = sum_by-append f (block 0) (block 13 ++ (block 26 ++ block 39)) in
    let two = sum_by-append f (block 13) (block 26 ++ block 39) in
    let three = sum_by-append f (block 26) (block 39) in
    let s = count_in-holders_of deal seat Spades in
    let h = count_in-holders_of deal seat Hearts in
    let d = count_in-holders_of deal seat Diamonds in
    let c = count_in-holders_of deal seat Clubs in
    sum_of_four _ _ _ _ _ _ _ _ _ _ _ s h d c all one (two ∙ ap (λ n. sum_by f (block 13) + n) three)

-- an owner list is no longer than the holders
count_in-take-le : (depth : ℕ) (holders : List Seat) (seat : Seat) → count_in (take depth holders) seat ≤ count_in holders seat
count_in-take-le depth holders seat = sum_by-take-le (λ x. cond (is_same_seat seat x) 1 0) holders depth

-- the suits of a layout, to any depths, are a pattern
pub IsPattern-of_layout : (deal : Deal) (depths : List ℕ) → IsLayout deal → IsPattern (shape_of_layout deal depths)
IsPattern-of_layout deal depths layout =
    let shape = shape_of_layout deal depths in
    let hands : (seat : Seat) → hand_size shape seat ≡ count_of deal seat = for_each_seat (λ seat. hand_size shape seat ≡ count_of deal seat)
    (suits_add_up deal layout.whole_pack North) (suits_add_up deal layout.whole_pack East)
    (suits_add_up deal layout.whole_pack South) (suits_add_up deal layout.whole_pack West) in
    record {
      four_seats = for_each_suit (λ suit. length (suit_of shape suit).lens ≡ 4) refl refl refl refl;
      suits = for_each_suit (λ suit. suit_size (suit_of shape suit) ≤ 13) (fits Spades) (fits Hearts) (fits Diamonds) (fits Clubs);
      hands = λ seat. hands seat ∙ (layout.equal_hands seat ∙ sym (hands North));
      some_cards = rw (hands North) layout.some_cards;
      not_over = rw (hands North) layout.at_most_13;
      owners = for_each_suit (λ suit. (seat : Seat) → tops_of (suit_of shape suit) seat ≤ len_of (suit_of shape suit) seat)
          (owned Spades _) (owned Hearts _) (owned Diamonds _) (owned Clubs _);
    }
  where
    fits : (suit : Suit) → count_in (holders_of deal suit) North + count_in (holders_of deal suit) East + count_in (holders_of deal suit) South + count_in (holders_of deal suit) West ≤ 13
    fits suit = omega (arith, counts_add_up (holders_of deal suit), length-holders_of deal suit)

    owned : (suit : Suit) (depth : ℕ) (seat : Seat) → tops_of (suit_of_layout deal suit depth) seat ≤ len_of (suit_of_layout deal suit depth) seat
    owned suit depth = for_each_seat (λ seat. tops_of (suit_of_layout deal suit depth) seat ≤ len_of (suit_of_layout deal suit depth) seat)
        (count_in-take-le depth _ North) (count_in-take-le depth _ East) (count_in-take-le depth _ South) (count_in-take-le depth _ West)

-- a layout matches each pattern that is made of it
pub Matches-of_layout : (deal : Deal) (depths : List ℕ) → Matches (shape_of_layout deal depths) deal
Matches-of_layout deal depths = for_each_suit (λ suit. MatchesSuit (suit_of (shape_of_layout deal depths) suit) (holders_of deal suit))
    (matches Spades _) (matches Hearts _) (matches Diamonds _) (matches Clubs _)
  where
    matches : (suit : Suit) (depth : ℕ) → MatchesSuit (suit_of_layout deal suit depth) (holders_of deal suit)
    matches suit depth = record {
      lens = for_each_seat (λ seat. len_of (suit_of_layout deal suit depth) seat ≡ count_in (holders_of deal suit) seat) refl refl refl refl;
      owners = (drop depth (holders_of deal suit), sym (take-append-drop depth (holders_of deal suit)));
    }
