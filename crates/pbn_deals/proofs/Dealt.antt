-- The cards that the printed text of a deal names.
use Rattle.std.proofs.Common.{◌≡◌, ℕ, zero, suc, ◌+◌, ◌≤◌, Bool, true, false, cond, eqb, List, [], ◌∷◌, length, map, get_or, Option, None, Some, filter, refl, sym, ◌∙◌, ap, subst, arith, count_by, sum_by, All, flat_map}
use Rattle.std.specs.Prelude.{Contains}
use Rattle.std.specs.List.{range_with_len}
use Rattle.std.proofs.lemmas.Bool.{eqb-true}
use Rattle.std.proofs.lemmas.List.{length-map, same_lists, get_or_default}
use Rattle.std.proofs.lemmas.List.Concat.{length-flat_map}
use Rattle.std.proofs.lemmas.List.Sums.{length-filter, sum_by-cons, sum_by-append}
use Rattle.std.proofs.lemmas.List.FromFn.{get_or-map-range_with_len, length-map-range_with_len}
use Rattle.std.proofs.lemmas.List.Elements.{Contains-append_left, Contains-append_right, All-nil, All-append, All-map, All-weaker, All-contains, filter_passes}
use Rattle.cards.specs.declared.suits.Suit.{Suit}
use Rattle.cards.specs.declared.suits.Suit.TheVariants.{Spades, Hearts, Diamonds, Clubs}
use Rattle.cards.specs.declared.seats.Seat.{Seat}
use Rattle.cards.specs.declared.seats.Seat.TheVariants.{North, East, South, West}
use Rattle.cards.specs.declared.pack.Rank.{Rank}
use Rattle.cards.specs.declared.pack.Card.{Card}
use Rattle.cards.specs.Pack.{card_of, card_number}
use Rattle.cards.proofs.PackLaws.{same_from_numbers}
use Rattle.cards.specs.SameDeal.{is_same_seat-refl}
use Rattle.cards.proofs.HandLaws.{held-is}
use Rattle.cards.specs.Seats.{is_same_seat}
use Rattle.cards.specs.Deal.{Deal, holder_of, is_held_by, count_of, IsLayout}
use Rattle.pbn_deals.specs.Dealing.{Holding, held_by, times_named, cards_named, NamesOnce, IsDealOf}
use Rattle.pbn_deals.specs.DealText.{ranks_falling}
use Rattle.pbn_deals.specs.DealValue.{suits_in_order}
use Rattle.pbn_deals.proofs.DealWords.{held, suit_cards, hand_of, held_of, four_seats, for_each_rank}

-- ---- sums over lists of lists
sum_flat : {X Y : Type 0} (f : Y → ℕ) (g : X → List Y) (xs : List X) → sum_by f (flat_map g xs) ≡ sum_by (λ x. sum_by f (g x)) xs
sum_flat f g [] = refl
sum_flat f g (x ∷ xs) = sum_by-append f (g x) (flat_map g xs) ∙ (ap (λ n. sum_by f (g x) + n) (sum_flat f g xs) ∙ sym (sum_by-cons (λ y. sum_by f (g y)) x xs))

sum_same : {X : Type 0} (f g : X → ℕ) → ((x : X) → f x ≡ g x) → (xs : List X) → sum_by f xs ≡ sum_by g xs
sum_same f g same [] = refl
sum_same f g same (x ∷ xs) = omega (arith, sum_by-cons f x xs, sum_by-cons g x xs, same x, sum_same f g same xs)

sum_map : {X Y : Type 0} (f : Y → ℕ) (g : X → Y) (xs : List X) → sum_by f (map g xs) ≡ sum_by (λ x. f (g x)) xs
sum_map f g [] = refl
sum_map f g (x ∷ xs) = omega (arith, sum_by-cons f (g x) (map g xs), sum_by-cons (λ y. f (g y)) x xs, sum_map f g xs)

none_more : (n : ℕ) → n ≡ 0 + n
none_more n = omega arith

-- where all that pass a test are kept, or none
count_kept : {X : Type 0} (q p : X → Bool) (b : Bool) → ((x : X) → q x ≡ true → p x ≡ b) → (xs : List X) → count_by q (filter p xs) ≡ cond b (count_by q xs) 0
count_kept q p true same [] = refl
count_kept q p false same [] = refl
count_kept q p b same (x ∷ xs) = go (q x) (p x) b (same x) (sum_by-cons (λ y. cond (q y) 1 0) x (filter p xs)) (sum_by-cons (λ y. cond (q y) 1 0) x xs) (count_kept q p b same xs) where
  go : (c d b : Bool) → (c ≡ true → d ≡ b) → count_by q (x ∷ filter p xs) ≡ cond c 1 0 + count_by q (filter p xs) → count_by q (x ∷ xs) ≡ cond c 1 0 + count_by q xs → count_by q (filter p xs) ≡ cond b (count_by q xs) 0 → count_by q (cond d (x ∷ filter p xs) (filter p xs)) ≡ cond b (count_by q (x ∷ xs)) 0
  go true true true f k a h = k ∙ (ap (λ n. 1 + n) h ∙ sym a)
  go true true false f k a h = absurd (let e = f refl in cc)
  go true false true f k a h = absurd (let e = f refl in cc)
  go true false false f k a h = h
  go false true true f k a h = k ∙ (ap (λ n. 0 + n) h ∙ sym a)
  go false true false f k a h = k ∙ ap (λ n. 0 + n) h
  go false false true f k a h = h ∙ (none_more (count_by q xs) ∙ sym a)
  go false false false f k a h = h

-- ---- how many cards a hand has
-- the holders of the thirteen cards of a suit
abbrev at : Deal → ℕ → Option Seat
at deal i = get_or deal i None

abbrev first_of : Suit → ℕ
first_of Spades = 0
first_of Hearts = 13
first_of Diamonds = 26
first_of Clubs = 39

abbrev holders : Deal → Suit → List (Option Seat)
holders deal suit = map (at deal) (range_with_len (first_of suit) 13)

count_by_numbers : (deal : Deal) (seat : Seat) (suit : Suit) → count_by (held deal seat suit) ranks_falling ≡ count_by (is_held_by seat) (holders deal suit)
count_by_numbers deal seat Spades = omega arith
count_by_numbers deal seat Hearts = omega arith
count_by_numbers deal seat Diamonds = omega arith
count_by_numbers deal seat Clubs = omega arith

suit_length : (deal : Deal) (seat : Seat) (suit : Suit) → length (suit_cards deal seat suit) ≡ count_by (is_held_by seat) (holders deal suit)
unfolding suit_cards
suit_length deal seat suit = length-map (filter (held deal seat suit) ranks_falling) (card_of suit) ∙ (length-filter (held deal seat suit) ranks_falling ∙ count_by_numbers deal seat suit)

-- a deal, suit by suit
by_suits : (deal : Deal) → length deal ≡ 52 → deal ≡ flat_map (holders deal) suits_in_order
by_suits deal whole =
    same_lists deal (map (at deal) (range_with_len 0 52)) (whole ∙ sym (length-map-range_with_len (at deal) 0 52))
    (λ k d less. get_or_default deal k d None less ∙ sym (get_or-map-range_with_len (at deal) 0 52 k k d (omega arith) (omega arith)))

length-hand_of : (deal : Deal) (seat : Seat) → length deal ≡ 52 → length (hand_of deal seat) ≡ count_of deal seat
length-hand_of deal seat whole =
    length-flat_map (suit_cards deal seat) suits_in_order
    ∙ (sum_same (λ suit. length (suit_cards deal seat suit)) (λ suit. count_by (is_held_by seat) (holders deal suit)) (suit_length deal seat) suits_in_order
    ∙ sym (ap (count_by (is_held_by seat)) (by_suits deal whole) ∙ sum_flat (λ holder. cond (is_held_by seat holder) 1 0) (holders deal) suits_in_order))

abbrev hand_held : Deal → Seat → List Holding
hand_held deal seat = map (held_by seat) (hand_of deal seat)

count_all : {X : Type 0} (b : Bool) (xs : List X) → sum_by (λ x. cond b 1 0) xs ≡ cond b (length xs) 0
count_all true [] = refl
count_all false [] = refl
count_all true (x ∷ xs) = omega (arith, sum_by-cons (λ y. 1) x xs, count_all true xs)
count_all false (x ∷ xs) = omega (arith, sum_by-cons (λ y. 0) x xs, count_all false xs)

pub cards_named-held_of : (deal : Deal) (seat : Seat) → length deal ≡ 52 → cards_named (held_of deal) seat ≡ count_of deal seat
cards_named-held_of deal seat whole =
    let f : Holding → ℕ = λ one. cond (is_same_seat seat one.seat) 1 0 in
    sum_flat f (hand_held deal) four_seats
    ∙ (sum_same (λ one. sum_by f (hand_held deal one)) (λ one. cond (is_same_seat seat one) (length (hand_of deal one)) 0)
    (λ one. sum_map f (held_by one) (hand_of deal one) ∙ count_all (is_same_seat seat one) (hand_of deal one)) four_seats
    ∙ go seat (length-hand_of deal seat whole))
  where
    go : (seat : Seat) → length (hand_of deal seat) ≡ count_of deal seat → sum_by (λ one. cond (is_same_seat seat one) (length (hand_of deal one)) 0) four_seats ≡ count_of deal seat
    go North e = omega (arith, e)
    go East e = omega (arith, e)
    go South e = omega (arith, e)
    go West e = omega (arith, e)

-- ---- how often a card is named
abbrev is_card : Card → Card → Bool
is_card card one = eqb (card_number one) (card_number card)

unfoldable rank_count : Card → Suit → ℕ
rank_count card suit = count_by (λ rank. is_card card (card_of suit rank)) ranks_falling

suit_times : (deal : Deal) (seat : Seat) (card : Card) (suit : Suit) → count_by (is_card card) (suit_cards deal seat suit) ≡ cond (is_held_by seat (holder_of deal card)) (rank_count card suit) 0
unfolding suit_cards rank_count
suit_times deal seat card suit =
    sum_map (λ one. cond (is_card card one) 1 0) (card_of suit) (filter (held deal seat suit) ranks_falling)
    ∙ count_kept (λ rank. is_card card (card_of suit rank)) (held deal seat suit) (is_held_by seat (holder_of deal card))
    (λ rank e. ap (λ (c : Card). is_held_by seat (holder_of deal c)) (same_from_numbers (card_of suit rank) card (eqb-true (card_number (card_of suit rank)) (card_number card) e))) ranks_falling

-- each card stands once in the pack
pack_once : (suit : Suit) (rank : Rank) → sum_by (rank_count (card_of suit rank)) suits_in_order ≡ 1
unfolding rank_count
pack_once Spades = for_each_rank (λ rank. sum_by (rank_count (card_of Spades rank)) suits_in_order ≡ 1) refl refl refl refl refl refl refl refl refl refl refl refl refl
pack_once Hearts = for_each_rank (λ rank. sum_by (rank_count (card_of Hearts rank)) suits_in_order ≡ 1) refl refl refl refl refl refl refl refl refl refl refl refl refl
pack_once Diamonds = for_each_rank (λ rank. sum_by (rank_count (card_of Diamonds rank)) suits_in_order ≡ 1) refl refl refl refl refl refl refl refl refl refl refl refl refl
pack_once Clubs = for_each_rank (λ rank. sum_by (rank_count (card_of Clubs rank)) suits_in_order ≡ 1) refl refl refl refl refl refl refl refl refl refl refl refl refl

hand_times : (deal : Deal) (seat : Seat) (card : Card) → count_by (is_card card) (hand_of deal seat) ≡ cond (is_held_by seat (holder_of deal card)) 1 0
hand_times deal seat card =
    sum_flat (λ one. cond (is_card card one) 1 0) (suit_cards deal seat) suits_in_order
    ∙ (sum_same (λ suit. count_by (is_card card) (suit_cards deal seat suit)) (λ suit. cond (is_held_by seat (holder_of deal card)) (rank_count card suit) 0) (suit_times deal seat card) suits_in_order
    ∙ go (is_held_by seat (holder_of deal card)))
  where
    go : (b : Bool) → sum_by (λ suit. cond b (rank_count card suit) 0) suits_in_order ≡ cond b 1 0
    go true = pack_once card.suit card.rank
    go false = refl

NamesOnce-held_of : (deal : Deal) → NamesOnce (held_of deal)
NamesOnce-held_of deal card =
    let f : Holding → ℕ = λ one. cond (is_card card one.card) 1 0 in
    go (holder_of deal card) (times_named (held_of deal) card)
    (sum_flat f (hand_held deal) four_seats
    ∙ sum_same (λ seat. sum_by f (hand_held deal seat)) (λ seat. cond (is_held_by seat (holder_of deal card)) 1 0) (λ seat. sum_map f (held_by seat) (hand_of deal seat) ∙ hand_times deal seat card) four_seats)
  where
    go : (holder : Option Seat) (n : ℕ) → n ≡ sum_by (λ seat. cond (is_held_by seat holder) 1 0) four_seats → n ≤ 1
    go None n e = omega (arith, e)
    go (Some North) n e = omega (arith, e)
    go (Some East) n e = omega (arith, e)
    go (Some South) n e = omega (arith, e)
    go (Some West) n e = omega (arith, e)

-- ---- which cards are named
all_flat : {X Y : Type 0} (P : Y → Type 0) (g : X → List Y) → ((x : X) → All P (g x)) → (xs : List X) → All P (flat_map g xs)
all_flat P g h [] = All-nil P
all_flat P g h (x ∷ xs) = All-append P (g x) (flat_map g xs) (h x) (all_flat P g h xs)

suit_held : (deal : Deal) (seat : Seat) (suit : Suit) → All (λ card. holder_of deal card ≡ Some seat) (suit_cards deal seat suit)
unfolding suit_cards
suit_held deal seat suit =
    All-map (λ card. holder_of deal card ≡ Some seat) (card_of suit) (filter (held deal seat suit) ranks_falling)
    (All-weaker (λ rank. held deal seat suit rank ≡ true) (λ rank. holder_of deal (card_of suit rank) ≡ Some seat) (λ rank e. held-is seat (holder_of deal (card_of suit rank)) e) (filter (held deal seat suit) ranks_falling) (filter_passes (held deal seat suit) ranks_falling))

all_held : (deal : Deal) → All (λ one. holder_of deal one.card ≡ Some one.seat) (held_of deal)
all_held deal =
    all_flat (λ one. holder_of deal one.card ≡ Some one.seat) (hand_held deal)
    (λ seat. All-map (λ one. holder_of deal one.card ≡ Some one.seat) (held_by seat) (hand_of deal seat) (all_flat (λ card. holder_of deal card ≡ Some seat) (suit_cards deal seat) (suit_held deal seat) suits_in_order)) four_seats

contains_map : {X Y : Type 0} (f : X → Y) (xs : List X) (x : X) → Contains xs x → Contains (map f xs) (f x)
contains_map f [] x h = absurd (omega (arith, h.1))
contains_map f (y ∷ ys) x (zero, less, e) = (0, omega arith, ap f e)
contains_map f (y ∷ ys) x (suc k, less, e) = Contains-append_right (f y ∷ []) (map f ys) (f x) (contains_map f ys x (k, omega (arith, less), e))

contains_flat : {X Y : Type 0} (g : X → List Y) (xs : List X) (x : X) (y : Y) → Contains xs x → Contains (g x) y → Contains (flat_map g xs) y
contains_flat g [] x y h within = absurd (omega (arith, h.1))
contains_flat g (z ∷ zs) x y (zero, less, e) within = Contains-append_left (g z) (flat_map g zs) y (subst (λ w. Contains (g w) y) (sym e) within)
contains_flat g (z ∷ zs) x y (suc k, less, e) within = Contains-append_right (g z) (flat_map g zs) y (contains_flat g zs x y (k, omega (arith, less), e) within)

contains_filter : {X : Type 0} (p : X → Bool) (xs : List X) (x : X) → p x ≡ true → Contains xs x → Contains (filter p xs) x
contains_filter p [] x t h = absurd (omega (arith, h.1))
contains_filter p (y ∷ ys) x t (zero, less, e) = subst (λ b. Contains (cond b (y ∷ filter p ys) (filter p ys)) x) (sym (ap p e ∙ t)) (0, omega arith, e)
contains_filter p (y ∷ ys) x t (suc k, less, e) = go (p y) (contains_filter p ys x t (k, omega (arith, less), e)) where
  go : (b : Bool) → Contains (filter p ys) x → Contains (cond b (y ∷ filter p ys) (filter p ys)) x
  go true h = Contains-append_right (y ∷ []) (filter p ys) x h
  go false h = h

rank_there : (rank : Rank) → Contains ranks_falling rank
rank_there = for_each_rank (Contains ranks_falling) (12, omega arith, refl) (11, omega arith, refl) (10, omega arith, refl) (9, omega arith, refl) (8, omega arith, refl) (7, omega arith, refl) (6, omega arith, refl) (5, omega arith, refl) (4, omega arith, refl) (3, omega arith, refl) (2, omega arith, refl) (1, omega arith, refl) (0, omega arith, refl)

suit_there : (suit : Suit) → Contains suits_in_order suit
suit_there Spades = (0, omega arith, refl)
suit_there Hearts = (1, omega arith, refl)
suit_there Diamonds = (2, omega arith, refl)
suit_there Clubs = (3, omega arith, refl)

seat_there : (seat : Seat) → Contains four_seats seat
seat_there North = (0, omega arith, refl)
seat_there East = (1, omega arith, refl)
seat_there South = (2, omega arith, refl)
seat_there West = (3, omega arith, refl)

suit_named : (deal : Deal) (seat : Seat) (suit : Suit) (rank : Rank) → held deal seat suit rank ≡ true → Contains (suit_cards deal seat suit) (card_of suit rank)
unfolding suit_cards
suit_named deal seat suit rank e = contains_map (card_of suit) (filter (held deal seat suit) ranks_falling) rank (contains_filter (held deal seat suit) ranks_falling rank e (rank_there rank))

holder_is_named : (deal : Deal) (card : Card) (seat : Seat) → holder_of deal card ≡ Some seat → Contains (held_of deal) (held_by seat card)
holder_is_named deal card seat e =
    contains_flat (hand_held deal) four_seats seat (held_by seat card) (seat_there seat)
    (contains_map (held_by seat) (hand_of deal seat) card
    (contains_flat (suit_cards deal seat) suits_in_order card.suit card (suit_there card.suit)
    (suit_named deal seat card.suit card.rank (ap (is_held_by seat) e ∙ is_same_seat-refl seat))))

-- the cards named are the deal
pub IsDealOf-held_of : (deal : Deal) → IsLayout deal → IsDealOf (held_of deal) deal
IsDealOf-held_of deal layout = record {
  once = NamesOnce-held_of deal;
  sized = record {
    some_cards = omega (arith, layout.some_cards, cards_named-held_of deal North layout.whole_pack);
    at_most_13 = omega (arith, layout.at_most_13, cards_named-held_of deal North layout.whole_pack);
    equal = λ seat. cards_named-held_of deal seat layout.whole_pack ∙ (layout.equal_hands seat ∙ sym (cards_named-held_of deal North layout.whole_pack));
  };
  holders = λ card seat. (holder_is_named deal card seat, All-contains (λ (one : Holding). holder_of deal one.card ≡ Some one.seat) (held_of deal) (held_by seat card) (all_held deal));
  layout = layout;
}
