-- The layout that is left after a trick matches every pattern that covers what is left of the pattern.
use Rattle.std.proofs.Common.{◌≡◌, ◌≢◌, ℕ, zero, suc, ◌+◌, ◌-◌, ◌<◌, ◌≤◌, Bool, true, false, cond, not, ◌&&◌, ◌||◌, eqb, List, [], ◌∷◌, ◌++◌, length, get_or, take, Option, None, Some, ◌⊎◌, inl, inr, refl, sym, ◌∙◌, ap, arith, count_by, zero-add}
use Rattle.std.specs.Prelude.{slice_get}
use Rattle.std.specs.List.{filter_map, cons_option, list_any}
use Rattle.std.proofs.lemmas.Bool.{cases_lt, eqb-true, eq-eqb, false≢true}
use Rattle.std.proofs.lemmas.List.Sums.{sum_by-cons}
use Rattle.std.proofs.lemmas.List.Elements.{filter_map-append}
use Rattle.std.proofs.lemmas.List.{append_assoc, length-append, take_more}
use Rattle.cards.specs.declared.pack.Rank.{Rank}
use Rattle.cards.specs.declared.pack.Card.{Card}
use Rattle.cards.specs.declared.suits.Suit.{Suit}
use Rattle.cards.specs.declared.seats.Seat.{Seat}
use Rattle.cards.specs.declared.seats.Seat.TheVariants.{North, East, South, West}
use Rattle.cards.specs.Deal.{Deal, holder_of}
use Rattle.cards.specs.Pack.{card_of, rank_number, suit_number, card_number}
use Rattle.cards.proofs.PackLaws.{rank_number-lt, same_from_numbers, same_from_suit_numbers, same_from_rank_numbers}
use Rattle.cards.specs.Seats.{is_same_seat, seat_number}
use Rattle.patterns.specs.Shapes.{Shape, suit_of, Covers}
use Rattle.patterns.specs.Holders.{falling_ranks, holders_of, count_in, Matches}
use Rattle.patterns.proofs.SeatLaws.{same_from_is_same, is_same_seat_self, for_each_seat}
use Rattle.pattern_step.specs.declared.pat_cards.PatCard.{PatCard}
use Rattle.pattern_step.specs.declared.pat_cards.PatCard.TheVariants.{Top, Low}
use Rattle.pattern_step.specs.PatCards.{suit_of_card, is_of_suit, is_top}
use Rattle.pattern_step.proofs.PatCardLaws.{slice_get-at, slice_get-within}
use Rattle.pattern_step.specs.Tricks.{played_by, IsLeft}
use Rattle.pattern_step.proofs.TrickLaws.{left_from, kept, owners_left-is}
use Rattle.pattern_step.specs.LayoutCards.{place_in_suit, StandsFor, real_by, ArePlayed, IsWithout}
use Rattle.pattern_step.proofs.LayoutLaws.{rank_there, there_rank, more_above, holder_at_place, stands_suit}

-- whether a test holds of some seat
unfoldable pub any_seat : (Seat → Bool) → Bool
any_seat test = test North || test East || test South || test West

any-yes : (a b c d : Bool) (s : Seat) → (test : Seat → Bool) → test North ≡ a → test East ≡ b → test South ≡ c → test West ≡ d → test s ≡ true → a || b || c || d ≡ true
any-yes true b c d s test n e so w h = refl
any-yes false true c d s test n e so w h = refl
any-yes false false true d s test n e so w h = refl
any-yes false false false true s test n e so w h = refl
any-yes false false false false North test n e so w h = absurd (false≢true (sym n ∙ h))
any-yes false false false false East test n e so w h = absurd (false≢true (sym e ∙ h))
any-yes false false false false South test n e so w h = absurd (false≢true (sym so ∙ h))
any-yes false false false false West test n e so w h = absurd (false≢true (sym w ∙ h))

pub any_seat-yes : (test : Seat → Bool) (s : Seat) → test s ≡ true → any_seat test ≡ true
unfolding any_seat
any_seat-yes test s h = any-yes (test North) (test East) (test South) (test West) s test refl refl refl refl h

pub any_seat-no : (test : Seat → Bool) → ((s : Seat) → test s ≡ false) → any_seat test ≡ false
unfolding any_seat
any_seat-no test h = rw (h North, h East, h South, h West) refl

pub to_false : (b : Bool) → (b ≡ true → ⊥) → b ≡ false
to_false true h = absurd (h refl)
to_false false h = refl

-- the four cards of a trick, seat by seat
turned_north : (a b c d : Bool) → a || (b || (c || (d || false))) ≡ a || b || c || d
turned_north false false false false = refl
turned_north false false false true = refl
turned_north false false true false = refl
turned_north false false true true = refl
turned_north false true false false = refl
turned_north false true false true = refl
turned_north false true true false = refl
turned_north false true true true = refl
turned_north true false false false = refl
turned_north true false false true = refl
turned_north true false true false = refl
turned_north true false true true = refl
turned_north true true false false = refl
turned_north true true false true = refl
turned_north true true true false = refl
turned_north true true true true = refl

turned_east : (a b c d : Bool) → b || (c || (d || (a || false))) ≡ a || b || c || d
turned_east false false false false = refl
turned_east false false false true = refl
turned_east false false true false = refl
turned_east false false true true = refl
turned_east false true false false = refl
turned_east false true false true = refl
turned_east false true true false = refl
turned_east false true true true = refl
turned_east true false false false = refl
turned_east true false false true = refl
turned_east true false true false = refl
turned_east true false true true = refl
turned_east true true false false = refl
turned_east true true false true = refl
turned_east true true true false = refl
turned_east true true true true = refl

turned_south : (a b c d : Bool) → c || (d || (a || (b || false))) ≡ a || b || c || d
turned_south false false false false = refl
turned_south false false false true = refl
turned_south false false true false = refl
turned_south false false true true = refl
turned_south false true false false = refl
turned_south false true false true = refl
turned_south false true true false = refl
turned_south false true true true = refl
turned_south true false false false = refl
turned_south true false false true = refl
turned_south true false true false = refl
turned_south true false true true = refl
turned_south true true false false = refl
turned_south true true false true = refl
turned_south true true true false = refl
turned_south true true true true = refl

turned_west : (a b c d : Bool) → d || (a || (b || (c || false))) ≡ a || b || c || d
turned_west false false false false = refl
turned_west false false false true = refl
turned_west false false true false = refl
turned_west false false true true = refl
turned_west false true false false = refl
turned_west false true false true = refl
turned_west false true true false = refl
turned_west false true true true = refl
turned_west true false false false = refl
turned_west true false false true = refl
turned_west true false true false = refl
turned_west true false true true = refl
turned_west true true false false = refl
turned_west true true false true = refl
turned_west true true true false = refl
turned_west true true true true = refl

pub any_card : (leader : Seat) (cards : List PatCard) (test : PatCard → Bool) → length cards ≡ 4 → list_any test cards ≡ any_seat (λ s. test (played_by leader cards s))
unfolding any_seat
any_card leader [] test four = absurd (omega arith)
any_card leader (a ∷ []) test four = absurd (omega arith)
any_card leader (a ∷ b ∷ []) test four = absurd (omega arith)
any_card leader (a ∷ b ∷ c ∷ []) test four = absurd (omega arith)
any_card leader (a ∷ b ∷ c ∷ d ∷ e ∷ rest) test four = absurd (omega arith)
any_card North (a ∷ b ∷ c ∷ d ∷ []) test four = turned_north (test a) (test b) (test c) (test d)
any_card East (a ∷ b ∷ c ∷ d ∷ []) test four = turned_east (test d) (test a) (test b) (test c)
any_card South (a ∷ b ∷ c ∷ d ∷ []) test four = turned_south (test c) (test d) (test a) (test b)
any_card West (a ∷ b ∷ c ∷ d ∷ []) test four = turned_west (test b) (test c) (test d) (test a)

left_from-append : {X : Type 0} (keep : ℕ → Bool) (a : ℕ) (xs ys : List X) → left_from keep a (xs ++ ys) ≡ left_from keep a xs ++ left_from keep (a + length xs) ys
unfolding left_from
left_from-append keep a [] ys = let e : a + 0 ≡ a = omega arith in ap (λ n. left_from keep n ys) (sym e)
left_from-append keep a (x ∷ xs) ys =
    let e : a + 1 + length xs ≡ a + suc (length xs) = omega arith in
    go (keep a) (left_from-append keep (a + 1) xs ys ∙ ap (λ n. left_from keep (a + 1) xs ++ left_from keep n ys) e)
  where
    go : (b : Bool) → left_from keep (a + 1) (xs ++ ys) ≡ left_from keep (a + 1) xs ++ left_from keep (a + suc (length xs)) ys →
        cond b (x ∷ left_from keep (a + 1) (xs ++ ys)) (left_from keep (a + 1) (xs ++ ys)) ≡ cond b (x ∷ left_from keep (a + 1) xs) (left_from keep (a + 1) xs) ++ left_from keep (a + suc (length xs)) ys
    go true e = ap (λ zs. x ∷ zs) e
    go false e = e

pub left_from-same : {X : Type 0} (keep keep' : ℕ → Bool) (a : ℕ) (xs : List X) → ((n : ℕ) → n < length xs → keep (a + n) ≡ keep' (a + n)) → left_from keep a xs ≡ left_from keep' a xs
unfolding left_from
left_from-same keep keep' a [] same = refl
left_from-same keep keep' a (x ∷ xs) same =
    let e : a + 0 ≡ a = omega arith in
    let here : keep a ≡ keep' a = ap keep (sym e) ∙ (same 0 (omega arith) ∙ ap keep' e) in
    let rest = left_from-same keep keep' (a + 1) xs (λ n less. let f : a + 1 + n ≡ a + suc n = omega arith in ap keep f ∙ (same (suc n) (omega arith) ∙ ap keep' (sym f))) in
    ap (λ b. cond b (x ∷ left_from keep (a + 1) xs) (left_from keep (a + 1) xs)) here ∙ ap (λ zs. cond (keep' a) (x ∷ zs) zs) rest

-- what the items give, where some give nothing any more
left-filter_map : {X : Type 0} (f f' : X → Option Seat) (keep : ℕ → Bool) (a : ℕ) (xs : List X) →
    ((i : ℕ) (x : X) → slice_get xs i ≡ Some x → f x ≡ None → f' x ≡ None) →
    ((i : ℕ) (x : X) (seat : Seat) → slice_get xs i ≡ Some x → f x ≡ Some seat → f' x ≡ cond (keep (a + length (filter_map f (take i xs)))) (Some seat) None) →
    filter_map f' xs ≡ left_from keep a (filter_map f xs)
unfolding left_from
left-filter_map f f' keep a [] none some = refl
left-filter_map f f' keep a (y ∷ ys) none some =
    go (f y) refl
    (λ e. left-filter_map f f' keep a ys (λ i x there gives. none (suc i) x there gives)
    (λ i x seat there gives. some (suc i) x seat there gives ∙ ap (λ o. cond (keep (a + length (cons_option o (filter_map f (take i ys))))) (Some seat) None) e))
    (λ z e. left-filter_map f f' keep (a + 1) ys (λ i x there gives. none (suc i) x there gives)
    (λ i x seat there gives. some (suc i) x seat there gives
    ∙ (ap (λ o. cond (keep (a + length (cons_option o (filter_map f (take i ys))))) (Some seat) None) e
    ∙ ap (λ n. cond (keep n) (Some seat) None) (shift a (length (filter_map f (take i ys)))))))
  where
    shift : (m n : ℕ) → m + suc n ≡ m + 1 + n
    shift m n = omega arith

    one : (b : Bool) (z : Seat) → filter_map f' ys ≡ left_from keep (a + 1) (filter_map f ys) →
        cons_option (cond b (Some z) None) (filter_map f' ys) ≡ cond b (z ∷ left_from keep (a + 1) (filter_map f ys)) (left_from keep (a + 1) (filter_map f ys))
    one true z e = ap (λ zs. z ∷ zs) e
    one false z e = e

    go : (o : Option Seat) → f y ≡ o → (f y ≡ None → filter_map f' ys ≡ left_from keep a (filter_map f ys)) → ((z : Seat) → f y ≡ Some z → filter_map f' ys ≡ left_from keep (a + 1) (filter_map f ys)) →
        cons_option (f' y) (filter_map f' ys) ≡ left_from keep a (cons_option o (filter_map f ys))
    go None e same more = ap (λ o. cons_option o (filter_map f' ys)) (none 0 y refl e) ∙ same e
    go (Some z) e same more =
        let zero_off : a + 0 ≡ a = omega arith in
        ap (λ o. cons_option o (filter_map f' ys)) (some 0 y z refl e ∙ ap (λ n. cond (keep n) (Some z) None) zero_off) ∙ one (keep a) z (more z e)

-- what is counted among the items left
count_left-all : (keep : ℕ → Bool) (p : Seat → Bool) (a : ℕ) (xs : List Seat) → ((n : ℕ) → n < length xs → p (get_or xs n North) ≡ true → keep (a + n) ≡ true) → count_by p (left_from keep a xs) ≡ count_by p xs
unfolding left_from
count_left-all keep p a [] all = refl
count_left-all keep p a (x ∷ xs) all =
    go (keep a) refl (p x) refl (count_left-all keep p (a + 1) xs (λ n less passes. let e : a + 1 + n ≡ a + suc n = omega arith in ap keep e ∙ all (suc n) (omega arith) passes))
  where
    off : (m : ℕ) → m ≡ m + 0
    off m = omega arith

    go : (b : Bool) → keep a ≡ b → (q : Bool) → p x ≡ q → count_by p (left_from keep (a + 1) xs) ≡ count_by p xs → count_by p (cond b (x ∷ left_from keep (a + 1) xs) (left_from keep (a + 1) xs)) ≡ count_by p (x ∷ xs)
    go true e q f ih = omega (arith, ih, sum_by-cons (λ y. cond (p y) 1 0) x (left_from keep (a + 1) xs), sum_by-cons (λ y. cond (p y) 1 0) x xs)
    go false e true f ih = absurd (false≢true (sym e ∙ (ap keep (off a) ∙ all 0 (omega arith) f)))
    go false e false f ih =
        let none = ap (λ (b : Bool). let n : ℕ = cond b 1 0 in n) f in
        omega (arith, ih, none, sum_by-cons (λ y. cond (p y) 1 0) x xs)

count_left-one : (keep : ℕ → Bool) (p : Seat → Bool) (a : ℕ) (xs : List Seat) (m : ℕ) → m < length xs → p (get_or xs m North) ≡ true → keep (a + m) ≡ false →
    ((n : ℕ) → n < length xs → n ≢ m → p (get_or xs n North) ≡ true → keep (a + n) ≡ true) → count_by p (left_from keep a xs) + 1 ≡ count_by p xs
unfolding left_from
count_left-one keep p a [] m less passes out all = absurd (omega arith)
count_left-one keep p a (x ∷ xs) zero less passes out all =
    let e : a + 0 ≡ a = omega arith in
    let out' : keep a ≡ false = ap keep (sym e) ∙ out in
    let rest : count_by p (left_from keep a (x ∷ xs)) ≡ count_by p (left_from keep (a + 1) xs) = ap (λ b. count_by p (cond b (x ∷ left_from keep (a + 1) xs) (left_from keep (a + 1) xs))) out' in
    let one = ap (λ (b : Bool). let n : ℕ = cond b 1 0 in n) passes in
    let others = count_left-all keep p (a + 1) xs (λ n below h. let f : a + 1 + n ≡ a + suc n = omega arith in ap keep f ∙ all (suc n) (omega arith) (λ z. omega arith) h) in
    omega (arith, rest, one, others, sum_by-cons (λ y. cond (p y) 1 0) x xs)
count_left-one keep p a (x ∷ xs) (suc m) less passes out all =
    let e : a + 1 + m ≡ a + suc m = omega arith in
    go (keep a) refl (p x) refl (count_left-one keep p (a + 1) xs m (omega arith) passes (ap keep e ∙ out)
    (λ n below apart h. let f : a + 1 + n ≡ a + suc n = omega arith in ap keep f ∙ all (suc n) (omega arith) (λ z. apart (omega arith)) h))
  where
    off : (m : ℕ) → m ≡ m + 0
    off m = omega arith

    go : (b : Bool) → keep a ≡ b → (q : Bool) → p x ≡ q → count_by p (left_from keep (a + 1) xs) + 1 ≡ count_by p xs → count_by p (cond b (x ∷ left_from keep (a + 1) xs) (left_from keep (a + 1) xs)) + 1 ≡ count_by p (x ∷ xs)
    go true e q f ih = omega (arith, ih, sum_by-cons (λ y. cond (p y) 1 0) x (left_from keep (a + 1) xs), sum_by-cons (λ y. cond (p y) 1 0) x xs)
    go false e true f ih = absurd (false≢true (sym e ∙ (ap keep (off a) ∙ all 0 (omega arith) (λ z. omega arith) f)))
    go false e false f ih =
        let none = ap (λ (b : Bool). let n : ℕ = cond b 1 0 in n) f in
        omega (arith, ih, none, sum_by-cons (λ y. cond (p y) 1 0) x xs)

-- one more where an item gives something
strictly_more : {X : Type 0} (f : X → Option Seat) (xs : List X) (m n : ℕ) (d : X) (seat : Seat) → m < n → m < length xs → f (get_or xs m d) ≡ Some seat → length (filter_map f (take m xs)) + 1 ≤ length (filter_map f (take n xs))
strictly_more f xs m n d seat less within gives =
    let step : length (filter_map f (take (m + 1) xs)) ≡ length (filter_map f (take m xs)) + 1 =
    ap (λ ys. length (filter_map f ys)) (take_more xs m d within)
    ∙ (ap length (filter_map-append f (take m xs) (get_or xs m d ∷ []))
    ∙ (length-append (filter_map f (take m xs)) (filter_map f (get_or xs m d ∷ []))
    ∙ ap (λ o. length (filter_map f (take m xs)) + length (cons_option o [])) gives)) in
    let more = more_above f xs (m + 1) n (omega arith) in
    omega arith

rank_at_place : (rank : Rank) → (12 - rank_number rank < 13) × (get_or falling_ranks (12 - rank_number rank) rank ≡ rank)
rank_at_place rank =
    let within : 12 - rank_number rank < 13 = omega (arith, rank_number-lt rank) in
    (within, (let e = sym (slice_get-at falling_ranks (12 - rank_number rank) rank within) ∙ rank_there rank in cc))

-- a card that is held counts in the place of each lower card
place_below : (deal : Deal) (suit : Suit) (high low : Rank) (seat : Seat) → rank_number low < rank_number high → holder_of deal (card_of suit high) ≡ Some seat → place_in_suit deal (card_of suit high) + 1 ≤ place_in_suit deal (card_of suit low)
place_below deal suit high low seat less held =
    let f : Rank → Option Seat = λ rank. holder_of deal (card_of suit rank) in
    let at = rank_at_place high in
    strictly_more f falling_ranks (12 - rank_number high) (12 - rank_number low) high seat (omega (arith, rank_number-lt high)) at.0 (ap f at.1 ∙ held)

-- two cards of a suit that are held in one place are one
same_place : (deal : Deal) (suit : Suit) (one other : Rank) (a b : Seat) → holder_of deal (card_of suit one) ≡ Some a → holder_of deal (card_of suit other) ≡ Some b → place_in_suit deal (card_of suit one) ≡ place_in_suit deal (card_of suit other) → one ≡ other
same_place deal suit one other a b ha hb same =
    elim (cases_lt (rank_number one) (rank_number other)) [
      | inl less ↦ absurd (omega (arith, place_below deal suit other one b less hb, same))
      | inr more ↦ elim (cases_lt (rank_number other) (rank_number one)) [
        | inl less ↦ absurd (omega (arith, place_below deal suit one other a less ha, same))
        | inr also ↦ same_from_rank_numbers one other (omega arith)
      ]
    ]

-- whether the card that the seat played stood in this place of the suit
hit : Deal → Seat → List Card → Suit → ℕ → Seat → Bool
hit deal leader real suit place seat = eqb (suit_number (real_by leader real seat).suit) (suit_number suit) && eqb (place_in_suit deal (real_by leader real seat)) place

-- the places whose cards were not played
stays_at : Deal → Seat → List Card → Suit → ℕ → Bool
stays_at deal leader real suit place = not (any_seat (hit deal leader real suit place))

and-both : (a b : Bool) → a && b ≡ true → (a ≡ true) × (b ≡ true)
and-both true b h = (refl, h)
and-both false b h = absurd (false≢true h)

hit-is : (deal : Deal) (leader : Seat) (real : List Card) (suit : Suit) (place : ℕ) (seat : Seat) → hit deal leader real suit place seat ≡ true → ((real_by leader real seat).suit ≡ suit) × (place_in_suit deal (real_by leader real seat) ≡ place)
unfolding hit
hit-is deal leader real suit place seat h =
    let both = and-both _ _ h in
    (same_from_suit_numbers _ suit (eqb-true _ _ both.0), eqb-true _ _ both.1)

is-hit : (deal : Deal) (leader : Seat) (real : List Card) (suit : Suit) (place : ℕ) (seat : Seat) → (real_by leader real seat).suit ≡ suit → place_in_suit deal (real_by leader real seat) ≡ place → hit deal leader real suit place seat ≡ true
unfolding hit
is-hit deal leader real suit place seat s p =
    ap (λ b. b && eqb (place_in_suit deal (real_by leader real seat)) place) (eq-eqb _ _ (ap suit_number s)) ∙ eq-eqb _ _ p

gone_at : (deal : Deal) (leader : Seat) (real : List Card) (suit : Suit) (place : ℕ) (seat : Seat) → (real_by leader real seat).suit ≡ suit → place_in_suit deal (real_by leader real seat) ≡ place → stays_at deal leader real suit place ≡ false
unfolding stays_at
gone_at deal leader real suit place seat s p = ap not (any_seat-yes (hit deal leader real suit place) seat (is-hit deal leader real suit place seat s p))

kept_at : (deal : Deal) (leader : Seat) (real : List Card) (suit : Suit) (place : ℕ) → ((seat : Seat) → (real_by leader real seat).suit ≡ suit → place_in_suit deal (real_by leader real seat) ≡ place → ⊥) → stays_at deal leader real suit place ≡ true
unfolding stays_at
kept_at deal leader real suit place none =
    ap not (any_seat-no (hit deal leader real suit place) (λ seat. to_false (hit deal leader real suit place seat) (λ h. let is = hit-is deal leader real suit place seat h in none seat is.0 is.1)))

-- whether a card was played
dec_card : (one other : Card) → (one ≡ other) ⊎ (one ≢ other)
dec_card one other = go (eqb (card_number one) (card_number other)) refl
  where
    go : (b : Bool) → eqb (card_number one) (card_number other) ≡ b → (one ≡ other) ⊎ (one ≢ other)
    go true e = inl (same_from_numbers one other (eqb-true _ _ e))
    go false e = inr (λ same. false≢true (sym e ∙ eq-eqb _ _ (ap card_number same)))

abbrev Played : Seat → List Card → Card → Type 0
Played leader real card = (seat : Seat) × (card ≡ real_by leader real seat)

dec_played : (leader : Seat) (real : List Card) (card : Card) → Played leader real card ⊎ ((seat : Seat) → card ≢ real_by leader real seat)
dec_played leader real card =
    elim (dec_card card (real_by leader real North)) [
      | inl h ↦ inl (North, h)
      | inr n ↦ elim (dec_card card (real_by leader real East)) [
        | inl h ↦ inl (East, h)
        | inr e ↦ elim (dec_card card (real_by leader real South)) [
          | inl h ↦ inl (South, h)
          | inr so ↦ elim (dec_card card (real_by leader real West)) [
            | inl h ↦ inl (West, h)
            | inr w ↦ inr (for_each_seat (λ seat. card ≢ real_by leader real seat) n e so w)
          ]
        ]
      ]
    ]

-- the holders left are those whose cards were not played
holders_left : (shape : Shape) (deal : Deal) (leader : Seat) (cards : List PatCard) (real : List Card) (left : Deal) → ArePlayed shape deal leader cards real → IsWithout deal leader real left → (suit : Suit) →
    holders_of left suit ≡ left_from (stays_at deal leader real suit) 0 (holders_of deal suit)
unfolding holders_of
holders_left shape deal leader cards real left played without suit =
    left-filter_map (λ rank. holder_of deal (card_of suit rank)) (λ rank. holder_of left (card_of suit rank)) (stays_at deal leader real suit) 0 falling_ranks none some
  where
    none : (i : ℕ) (x : Rank) → slice_get falling_ranks i ≡ Some x → holder_of deal (card_of suit x) ≡ None → holder_of left (card_of suit x) ≡ None
    none i x there gives = elim (dec_played leader real (card_of suit x)) [
      | inl h ↦ ap (holder_of left) h.1 ∙ without.gone h.0
      | inr n ↦ without.stays (card_of suit x) n ∙ gives
    ]

    by_place : (k : ℕ) (x : Rank) (seat : Seat) → place_in_suit deal (card_of suit x) ≡ k → holder_of deal (card_of suit x) ≡ Some seat → holder_of left (card_of suit x) ≡ cond (stays_at deal leader real suit k) (Some seat) None
    by_place k x seat place gives = elim (dec_played leader real (card_of suit x)) [
      | inl h ↦
          (let out = gone_at deal leader real suit k h.0 (ap (λ (c : Card). c.suit) (sym h.1)) (ap (place_in_suit deal) (sym h.1) ∙ place) in
          ap (holder_of left) h.1 ∙ (without.gone h.0 ∙ ap (λ b. cond b (Some seat) None) (sym out)))
      | inr n ↦
          (let kept = kept_at deal leader real suit k (λ t suit_is place_is. n t (is_real t suit_is place_is)) in
          without.stays (card_of suit x) n ∙ (gives ∙ ap (λ b. cond b (Some seat) None) (sym kept)))
    ]
      where
        is_real : (t : Seat) → (real_by leader real t).suit ≡ suit → place_in_suit deal (real_by leader real t) ≡ k → card_of suit x ≡ real_by leader real t
        is_real t suit_is place_is =
            let e : card_of suit (real_by leader real t).rank ≡ real_by leader real t = ap (λ s. card_of s (real_by leader real t).rank) (sym suit_is) in
            let held : holder_of deal (card_of suit (real_by leader real t).rank) ≡ Some t = ap (holder_of deal) e ∙ played.held t in
            let same = same_place deal suit x (real_by leader real t).rank seat t gives held (place ∙ (sym place_is ∙ ap (place_in_suit deal) (sym e))) in
            ap (card_of suit) same ∙ e

    some : (i : ℕ) (x : Rank) (seat : Seat) → slice_get falling_ranks i ≡ Some x → holder_of deal (card_of suit x) ≡ Some seat →
        holder_of left (card_of suit x) ≡ cond (stays_at deal leader real suit (0 + length (filter_map (λ rank. holder_of deal (card_of suit rank)) (take i falling_ranks)))) (Some seat) None
    some i x seat there gives =
        let e : place_in_suit deal (card_of suit x) ≡ 0 + length (filter_map (λ rank. holder_of deal (card_of suit rank)) (take i falling_ranks)) =
        ap (λ n. length (filter_map (λ rank. holder_of deal (card_of suit rank)) (take n falling_ranks))) (sym (there_rank i x there)) ∙ sym (zero-add _) in
        by_place (0 + length (filter_map (λ rank. holder_of deal (card_of suit rank)) (take i falling_ranks))) x seat e gives

-- a card stands in a place of the owners just where its pattern card is the top of that place
hit_top : (shape : Shape) (deal : Deal) (suit : Suit) (place : ℕ) (pat_card : PatCard) (card : Card) → place < length (suit_of shape suit).owners → StandsFor shape deal pat_card card →
    eqb (suit_number card.suit) (suit_number suit) && eqb (place_in_suit deal card) place ≡ is_top suit place pat_card
hit_top shape deal suit place (Top of other) card within stands =
    ap (λ s. eqb (suit_number s) (suit_number suit) && eqb (place_in_suit deal card) place) stands.0
    ∙ ap (λ n. eqb (suit_number of) (suit_number suit) && eqb n place) stands.1
hit_top shape deal suit place (Low of) card within stands =
    to_false _ (λ h.
    let both = and-both _ _ h in
    let same : of ≡ suit = sym stands.0 ∙ same_from_suit_numbers card.suit suit (eqb-true _ _ both.0) in
    let here : place_in_suit deal card ≡ place = eqb-true _ _ both.1 in
    let e : length (suit_of shape of).owners ≡ length (suit_of shape suit).owners = ap (λ s. length (suit_of shape s).owners) same in
    omega (arith, e, here, stands.1, within))

-- the owners left are the holders left of the owners' cards
keeps_owners : (shape : Shape) (deal : Deal) (leader : Seat) (cards : List PatCard) (real : List Card) → length cards ≡ 4 → ArePlayed shape deal leader cards real → (suit : Suit) (n : ℕ) → n < length (suit_of shape suit).owners →
    stays_at deal leader real suit n ≡ kept cards suit n
unfolding stays_at any_seat hit
keeps_owners shape deal leader cards real four played suit n within =
    let same : (seat : Seat) → hit deal leader real suit n seat ≡ is_top suit n (played_by leader cards seat) =
    λ seat. hit_top shape deal suit n (played_by leader cards seat) (real_by leader real seat) within (played.stands seat) in
    rw (any_card leader cards (is_top suit n) four)
    (ap (λ b. not (b || hit deal leader real suit n East || hit deal leader real suit n South || hit deal leader real suit n West)) (same North)
    ∙ (ap (λ b. not (is_top suit n (played_by leader cards North) || b || hit deal leader real suit n South || hit deal leader real suit n West)) (same East)
    ∙ (ap (λ b. not (is_top suit n (played_by leader cards North) || is_top suit n (played_by leader cards East) || b || hit deal leader real suit n West)) (same South)
    ∙ ap (λ b. not (is_top suit n (played_by leader cards North) || is_top suit n (played_by leader cards East) || is_top suit n (played_by leader cards South) || b)) (same West))))

-- how many of the holders left are the seat
count_holders_left : (shape : Shape) (deal : Deal) (leader : Seat) (cards : List PatCard) (real : List Card) → ArePlayed shape deal leader cards real → (suit : Suit) (seat : Seat) →
    cond (is_of_suit suit (played_by leader cards seat)) (count_in (holders_of deal suit) seat - 1) (count_in (holders_of deal suit) seat) ≡ count_in (left_from (stays_at deal leader real suit) 0 (holders_of deal suit)) seat
count_holders_left shape deal leader cards real played suit seat =
    go (is_of_suit suit (played_by leader cards seat)) refl
  where
    held_there : (t : Seat) → (real_by leader real t).suit ≡ suit → slice_get (holders_of deal suit) (place_in_suit deal (real_by leader real t)) ≡ Some t
    held_there t suit_is = ap (λ s. slice_get (holders_of deal s) (place_in_suit deal (real_by leader real t))) (sym suit_is) ∙ holder_at_place deal (real_by leader real t) t (played.held t)

    own_suit : (real_by leader real seat).suit ≡ suit_of_card (played_by leader cards seat)
    own_suit = stands_suit shape deal (played_by leader cards seat) (real_by leader real seat) (played.stands seat)

    -- a card of the seat that is gone is the one that it played
    own : (n : ℕ) → n < length (holders_of deal suit) → is_same_seat seat (get_or (holders_of deal suit) n North) ≡ true → (t : Seat) → (real_by leader real t).suit ≡ suit → place_in_suit deal (real_by leader real t) ≡ n → t ≡ seat
    own n within passes t suit_is place_is =
        let here : slice_get (holders_of deal suit) n ≡ Some t = ap (slice_get (holders_of deal suit)) (sym place_is) ∙ held_there t suit_is in
        let at : Some (get_or (holders_of deal suit) n North) ≡ Some t = sym (slice_get-at (holders_of deal suit) n North within) ∙ here in
        let e : get_or (holders_of deal suit) n North ≡ t = cc in
        sym (same_from_is_same seat (get_or (holders_of deal suit) n North) passes ∙ e)

    go : (b : Bool) → is_of_suit suit (played_by leader cards seat) ≡ b →
        cond b (count_in (holders_of deal suit) seat - 1) (count_in (holders_of deal suit) seat) ≡ count_in (left_from (stays_at deal leader real suit) 0 (holders_of deal suit)) seat
    go true e =
        let suit_is : (real_by leader real seat).suit ≡ suit = own_suit ∙ same_from_suit_numbers _ suit (eqb-true _ _ e) in
        let m : ℕ = place_in_suit deal (real_by leader real seat) in
        let there = held_there seat suit_is in
        let within = slice_get-within (holders_of deal suit) m seat there in
        let at : Some (get_or (holders_of deal suit) m North) ≡ Some seat = sym (slice_get-at (holders_of deal suit) m North within) ∙ there in
        let is : get_or (holders_of deal suit) m North ≡ seat = cc in
        let passes : is_same_seat seat (get_or (holders_of deal suit) m North) ≡ true = ap (is_same_seat seat) is ∙ is_same_seat_self seat in
        let out : stays_at deal leader real suit (0 + m) ≡ false = ap (stays_at deal leader real suit) (zero-add m) ∙ gone_at deal leader real suit m seat suit_is refl in
        let one = count_left-one (stays_at deal leader real suit) (is_same_seat seat) 0 (holders_of deal suit) m within passes out
        (λ n less apart h. ap (stays_at deal leader real suit) (zero-add n) ∙ kept_at deal leader real suit n
        (λ t s p. apart (sym p ∙ ap (λ x. place_in_suit deal (real_by leader real x)) (own n less h t s p)))) in
        omega (arith, one)
    go false e =
        sym (count_left-all (stays_at deal leader real suit) (is_same_seat seat) 0 (holders_of deal suit)
        (λ n less h. ap (stays_at deal leader real suit) (zero-add n) ∙ kept_at deal leader real suit n
        (λ t s p.
        let same : suit_of_card (played_by leader cards seat) ≡ suit = sym own_suit ∙ (ap (λ x. (real_by leader real x).suit) (sym (own n less h t s p)) ∙ s) in
        false≢true (sym e ∙ eq-eqb _ _ (ap suit_number same)))))

-- The deal that is left after a trick matches every pattern that covers what is left of the pattern.
pub Matches-left : (shape : Shape) (deal : Deal) (leader : Seat) (cards : List PatCard) (real : List Card) (rest : Shape) (left : Deal) (child : Shape) → length cards ≡ 4 →
    Matches shape deal → ArePlayed shape deal leader cards real → IsWithout deal leader real left → IsLeft shape leader cards rest → Covers child rest → Matches child left
Matches-left shape deal leader cards real rest left child four matches played without is_left covers = λ suit.
    let m = matches suit in
    let owners = (suit_of shape suit).owners in
    let keep = stays_at deal leader real suit in
    let holders = holders_left shape deal leader cards real left played without suit in
    let same : left_from keep 0 owners ≡ (suit_of rest suit).owners =
    left_from-same keep (kept cards suit) 0 owners
    (λ n less. ap keep (zero-add n) ∙ (keeps_owners shape deal leader cards real four played suit n less ∙ ap (kept cards suit) (sym (zero-add n))))
    ∙ (sym (owners_left-is cards suit owners) ∙ sym (is_left suit).owners) in
    let split : holders_of left suit ≡ left_from keep 0 owners ++ left_from keep (0 + length owners) m.owners.0 =
    holders ∙ (ap (left_from keep 0) m.owners.1 ∙ left_from-append keep 0 owners m.owners.0) in
    let begins = (covers suit).owners in
    record {
      lens = λ seat.
          ap (λ lens. get_or lens (seat_number seat) 0) (covers suit).lens
          ∙ ((is_left suit).lens seat
          ∙ (ap (λ n. cond (is_of_suit suit (played_by leader cards seat)) (n - 1) n) (m.lens seat)
          ∙ (count_holders_left shape deal leader cards real played suit seat ∙ ap (λ xs. count_in xs seat) (sym holders))));
      owners = (
        begins.0 ++ left_from keep (0 + length owners) m.owners.0,
        split ∙ (ap (λ xs. xs ++ left_from keep (0 + length owners) m.owners.0) (same ∙ begins.1)
            ∙ append_assoc (suit_of child suit).owners begins.0 (left_from keep (0 + length owners) m.owners.0)),
      );
    }
