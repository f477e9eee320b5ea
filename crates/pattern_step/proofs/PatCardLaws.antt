-- A seat's cards of a pattern, counted.
use Rattle.std.proofs.Common.{◌≡◌, ℕ, zero, suc, ◌+◌, ◌-◌, ◌<◌, ◌≤◌, Bool, true, false, cond, eqb, subst, inl, inr, List, [], ◌∷◌, ◌++◌, length, get_or, take, filter, Option, None, Some, ◌↔◌, refl, sym, ◌∙◌, ap, arith, count_by, nat_lt}
use Rattle.std.specs.Prelude.{slice_get, Contains}
use Rattle.std.proofs.lemmas.Bool.{lt-ltb, le-ltb, ltb-true, ne_eqb, false≢true}
use Rattle.std.proofs.lemmas.Bool.Decides.{nat_tests}
use Rattle.std.proofs.lemmas.List.Sums.{sum_by_more, sum_by-take-le}
use Rattle.std.proofs.lemmas.List.Elements.{filter_more, filter-append, Contains-append_left, Contains-append_right, Contains-append_cases}
use Rattle.std.proofs.lemmas.List.FromFn.{get_or-map-range_with_len}
use Rattle.std.proofs.lemmas.List.{length-append, take_all, append-nil, get_or_default}
use Rattle.cards.specs.declared.suits.Suit.{Suit}
use Rattle.cards.specs.declared.suits.Suit.TheVariants.{Spades, Hearts, Diamonds, Clubs}
use Rattle.cards.specs.declared.seats.Seat.{Seat}
use Rattle.cards.specs.declared.seats.Seat.TheVariants.{North, East, South, West}
use Rattle.cards.specs.Deal.{is_held_by}
use Rattle.cards.specs.Seats.{is_same_seat}
use Rattle.patterns.specs.Shapes.{Shape, suit_of, len_of, tops_of, IsPattern}
use Rattle.patterns.proofs.HolderLaws.{counts_add_up}
use Rattle.patterns.proofs.SeatLaws.{is_same_seat_self, same_from_is_same}
use Rattle.pattern_step.specs.declared.pat_cards.PatCard.{PatCard}
use Rattle.pattern_step.specs.declared.pat_cards.PatCard.TheVariants.{Top, Low}
use Rattle.pattern_step.specs.PatCards.{suit_of_card, HasCard, IsLegal}
use Rattle.pattern_step.specs.LegalCards.{has_card, tops_of_suit, cards_of_suit, cards_in, cards_held, legal_cards}

-- what stands in a place of a list
pub slice_get-at : {X : Type 0} (xs : List X) (n : ℕ) (d : X) → n < length xs → slice_get xs n ≡ Some (get_or xs n d)
slice_get-at [] n d h = absurd (omega arith)
slice_get-at (x ∷ xs) zero d h = refl
slice_get-at (x ∷ xs) (suc n) d h = slice_get-at xs n d (omega arith)

pub slice_get-past : {X : Type 0} (xs : List X) (n : ℕ) → length xs ≤ n → slice_get xs n ≡ None
slice_get-past [] n h = refl
slice_get-past (x ∷ xs) zero h = absurd (omega arith)
slice_get-past (x ∷ xs) (suc n) h = slice_get-past xs n (omega arith)

pub slice_get-within : {X : Type 0} (xs : List X) (n : ℕ) (x : X) → slice_get xs n ≡ Some x → n < length xs
slice_get-within [] n x h = cc
slice_get-within (y ∷ xs) zero x h = omega arith
slice_get-within (y ∷ xs) (suc n) x h = omega (arith, slice_get-within xs n x h)

-- a pattern's list of owners is no longer than thirteen
pub owners-le-13 : (shape : Shape) → IsPattern shape → (suit : Suit) → length (suit_of shape suit).owners ≤ 13
owners-le-13 shape pattern suit =
    let s = suit_of shape suit in
    omega (arith, counts_add_up s.owners, pattern.suits suit, pattern.owners suit North, pattern.owners suit East, pattern.owners suit South, pattern.owners suit West)

-- the tops that a seat has in the first so many places
abbrev pub tops_in : Shape → Seat → Suit → ℕ → List PatCard
tops_in shape seat suit n = filter (has_card shape seat) (take n (tops_of_suit suit))

top_at : (suit : Suit) (n : ℕ) → n < 13 → get_or (tops_of_suit suit) n (Low suit) ≡ Top suit n
top_at suit n h = get_or-map-range_with_len (Top suit) 0 13 n n (Low suit) h (omega arith)

-- one place more
pub tops_in-more : (shape : Shape) (seat : Seat) (suit : Suit) (n : ℕ) → n < 13 →
    tops_in shape seat suit (n + 1) ≡ tops_in shape seat suit n ++ cond (is_held_by seat (slice_get (suit_of shape suit).owners n)) (Top suit n ∷ []) []
tops_in-more shape seat suit n h =
    filter_more (has_card shape seat) (tops_of_suit suit) n (Low suit) h
    ∙ ap (λ card. tops_in shape seat suit n ++ cond (has_card shape seat card) (card ∷ []) []) (top_at suit n h)

-- the tops are counted by the owners
pub length-tops_in : (shape : Shape) (seat : Seat) (suit : Suit) (n : ℕ) → n ≤ 13 → n ≤ length (suit_of shape suit).owners → length (tops_in shape seat suit n) ≡ count_by (is_same_seat seat) (take n (suit_of shape suit).owners)
length-tops_in shape seat suit zero h within = refl
length-tops_in shape seat suit (suc n) h within =
    let owners = (suit_of shape suit).owners in
    let before = length-tops_in shape seat suit n (omega arith) (omega arith) in
    let more = tops_in-more shape seat suit n (omega arith) in
    let step = sum_by_more (λ x. cond (is_same_seat seat x) 1 0) owners n North (omega arith) in
    let here = slice_get-at owners n North (omega arith) in
    let e : suc n ≡ n + 1 = omega arith in
    let counted : length (tops_in shape seat suit (n + 1)) ≡ length (tops_in shape seat suit n) + cond (is_same_seat seat (get_or owners n North)) 1 0 =
    ap length more ∙ (length-append (tops_in shape seat suit n) _ ∙ ap (λ k. length (tops_in shape seat suit n) + k) (one_or_none (is_held_by seat (slice_get owners n)) ∙ ap (λ o. cond (is_held_by seat o) 1 0) here)) in
    ap (λ k. length (tops_in shape seat suit k)) e ∙ (counted ∙ (ap (λ k. k + cond (is_same_seat seat (get_or owners n North)) 1 0) before ∙ (sym step ∙ ap (λ k. count_by (is_same_seat seat) (take k owners)) (sym e))))
  where
    one_or_none : (b : Bool) → length (cond b (Top suit n ∷ []) []) ≡ cond b 1 0
    one_or_none true = refl
    one_or_none false = refl

-- after the owners there is no top
pub tops_in-past : (shape : Shape) (seat : Seat) (suit : Suit) (n : ℕ) (k : ℕ) → n + k ≤ 13 → length (suit_of shape suit).owners ≤ n → tops_in shape seat suit (n + k) ≡ tops_in shape seat suit n
tops_in-past shape seat suit n zero h past = ap (tops_in shape seat suit) (omega arith)
tops_in-past shape seat suit n (suc k) h past =
    let e : n + suc k ≡ n + k + 1 = omega arith in
    let none = slice_get-past (suit_of shape suit).owners (n + k) (omega arith) in
    ap (tops_in shape seat suit) e
    ∙ (tops_in-more shape seat suit (n + k) (omega arith)
    ∙ (ap (λ o. tops_in shape seat suit (n + k) ++ cond (is_held_by seat o) (Top suit (n + k) ∷ []) []) none
    ∙ (append-nil (tops_in shape seat suit (n + k)) ∙ tops_in-past shape seat suit n k (omega arith) past)))

-- all tops that a seat has
pub tops_in-all : (shape : Shape) → IsPattern shape → (seat : Seat) (suit : Suit) → tops_in shape seat suit 13 ≡ tops_in shape seat suit (length (suit_of shape suit).owners)
tops_in-all shape pattern seat suit =
    let n = length (suit_of shape suit).owners in
    let fits = owners-le-13 shape pattern suit in
    let e : 13 ≡ n + (13 - n) = omega arith in
    ap (tops_in shape seat suit) e ∙ tops_in-past shape seat suit n (13 - n) (omega arith) (omega arith)

-- a seat has as many tops as it is an owner
pub length-tops_in-all : (shape : Shape) → IsPattern shape → (seat : Seat) (suit : Suit) → length (tops_in shape seat suit (length (suit_of shape suit).owners)) ≡ tops_of (suit_of shape suit) seat
length-tops_in-all shape pattern seat suit =
    let owners = (suit_of shape suit).owners in
    length-tops_in shape seat suit (length owners) (owners-le-13 shape pattern suit) (omega arith) ∙ ap (count_by (is_same_seat seat)) (take_all (length owners) owners (omega arith))

-- the low card of a seat, if it has one
abbrev pub low_in : Shape → Seat → Suit → List PatCard
low_in shape seat suit = cond (nat_lt (tops_of (suit_of shape suit) seat) (len_of (suit_of shape suit) seat)) (Low suit ∷ []) []

-- a seat's cards of a suit are its tops and its low card
pub cards_in-is : (shape : Shape) → IsPattern shape → (seat : Seat) (suit : Suit) →
    cards_in shape seat suit ≡ tops_in shape seat suit (length (suit_of shape suit).owners) ++ low_in shape seat suit
unfolding cards_in
cards_in-is shape pattern seat suit =
    filter-append (has_card shape seat) (tops_of_suit suit) (Low suit ∷ [])
    ∙ ap (λ xs. xs ++ low_in shape seat suit) (tops_in-all shape pattern seat suit)

-- a seat has no more of them than cards
pub length-cards_in : (shape : Shape) → IsPattern shape → (seat : Seat) (suit : Suit) → length (cards_in shape seat suit) ≤ len_of (suit_of shape suit) seat
length-cards_in shape pattern seat suit =
    let tops = length-tops_in-all shape pattern seat suit in
    let all = ap length (cards_in-is shape pattern seat suit) ∙ length-append (tops_in shape seat suit (length (suit_of shape suit).owners)) (low_in shape seat suit) in
    let low = one_low (tops_of (suit_of shape suit) seat) (len_of (suit_of shape suit) seat) (pattern.owners suit seat) in
    omega (arith, tops, all, low)
  where
    one_low : (t l : ℕ) → t ≤ l → t + length (cond (nat_lt t l) (Low suit ∷ []) []) ≤ l
    one_low t l h = grind (arith, nat_tests)

-- a top that a seat has is one of its tops
pub top_counts : (shape : Shape) → IsPattern shape → (seat : Seat) (suit : Suit) (n : ℕ) → n < length (suit_of shape suit).owners → slice_get (suit_of shape suit).owners n ≡ Some seat →
    length (tops_in shape seat suit n) + 1 ≤ tops_of (suit_of shape suit) seat
top_counts shape pattern seat suit n h held =
    let owners = (suit_of shape suit).owners in
    let fits = owners-le-13 shape pattern suit in
    let more = tops_in-more shape seat suit n (omega arith) ∙ ap (λ o. tops_in shape seat suit n ++ cond (is_held_by seat o) (Top suit n ∷ []) []) held in
    let one : cond (is_held_by seat (Some seat)) (Top suit n ∷ []) [] ≡ Top suit n ∷ [] = ap (λ b. cond b (Top suit n ∷ []) []) (is_same_seat_self seat) in
    let len : length (tops_in shape seat suit (n + 1)) ≡ length (tops_in shape seat suit n) + 1 =
    ap length (more ∙ ap (λ xs. tops_in shape seat suit n ++ xs) one) ∙ length-append (tops_in shape seat suit n) (Top suit n ∷ []) in
    let counted = length-tops_in shape seat suit (n + 1) (omega arith) (omega arith) in
    let below = sum_by-take-le (λ x. cond (is_same_seat seat x) 1 0) owners (n + 1) in
    omega (arith, len, counted, below)

-- the low card of a seat that has one, and of one that has none
pub low_in-some : (shape : Shape) (seat : Seat) (suit : Suit) → tops_of (suit_of shape suit) seat < len_of (suit_of shape suit) seat → low_in shape seat suit ≡ Low suit ∷ []
low_in-some shape seat suit h = ap (λ b. cond b (Low suit ∷ []) []) (lt-ltb _ _ h)

pub low_in-none : (shape : Shape) (seat : Seat) (suit : Suit) → len_of (suit_of shape suit) seat ≤ tops_of (suit_of shape suit) seat → low_in shape seat suit ≡ []
low_in-none shape seat suit h = ap (λ b. cond b (Low suit ∷ []) []) (le-ltb _ _ h)

-- the test of a card tells whether the seat has it
pub has_card-is : (shape : Shape) (seat : Seat) (card : PatCard) → has_card shape seat card ≡ true → HasCard shape seat card
has_card-is shape seat (Top suit place) h = go (slice_get (suit_of shape suit).owners place) h
  where
    go : (holder : Option Seat) → is_held_by seat holder ≡ true → holder ≡ Some seat
    go None h = absurd (false≢true h)
    go (Some other) h = ap Some (sym (same_from_is_same seat other h))
has_card-is shape seat (Low suit) h = ltb-true _ _ h

pub is-has_card : (shape : Shape) (seat : Seat) (card : PatCard) → HasCard shape seat card → has_card shape seat card ≡ true
is-has_card shape seat (Top suit place) h = ap (is_held_by seat) h ∙ is_same_seat_self seat
is-has_card shape seat (Low suit) h = lt-ltb _ _ h

-- what a filter keeps
pub Contains-filter : {X : Type 0} (p : X → Bool) (xs : List X) (x : X) → Contains (filter p xs) x → (p x ≡ true) × Contains xs x
Contains-filter p [] x h = absurd (omega (arith, h.1))
Contains-filter p (y ∷ ys) x h = go (λ within. Contains-filter p ys x within) (p y) refl h
  where
    rest : (Contains (filter p ys) x → (p x ≡ true) × Contains ys x) → Contains (filter p ys) x → (p x ≡ true) × Contains (y ∷ ys) x
    rest below within = ((below within).0, Contains-append_right (y ∷ []) ys x (below within).1)

    at : (Contains (filter p ys) x → (p x ≡ true) × Contains ys x) → (b : Bool) → p y ≡ b → (k : ℕ) → k < length (cond b (y ∷ filter p ys) (filter p ys)) → get_or (cond b (y ∷ filter p ys) (filter p ys)) k x ≡ x → (p x ≡ true) × Contains (y ∷ ys) x
    at below true e zero less is = (ap p (sym is) ∙ e, (0, omega arith, is))
    at below true e (suc k) less is = rest below (k, omega arith, is)
    at below false e k less is = rest below (k, less, is)

    go : (Contains (filter p ys) x → (p x ≡ true) × Contains ys x) → (b : Bool) → p y ≡ b → Contains (cond b (y ∷ filter p ys) (filter p ys)) x → (p x ≡ true) × Contains (y ∷ ys) x
    go below b e within = at below b e within.0 within.1 within.2

pub filter-Contains : {X : Type 0} (p : X → Bool) (xs : List X) (x : X) → p x ≡ true → Contains xs x → Contains (filter p xs) x
filter-Contains p [] x passes h = absurd (omega (arith, h.1))
filter-Contains p (y ∷ ys) x passes h = at (λ within. filter-Contains p ys x passes within) h.0 h.1 h.2
  where
    more : (b : Bool) → Contains (filter p ys) x → Contains (cond b (y ∷ filter p ys) (filter p ys)) x
    more true within = Contains-append_right (y ∷ []) (filter p ys) x within
    more false within = within

    at : (Contains ys x → Contains (filter p ys) x) → (k : ℕ) → k < length (y ∷ ys) → get_or (y ∷ ys) k x ≡ x → Contains (cond (p y) (y ∷ filter p ys) (filter p ys)) x
    at below zero less is =
        let e : p y ≡ true = ap p is ∙ passes in
        let first : Contains (y ∷ filter p ys) x = (0, omega arith, is) in
        rw e first
    at below (suc k) less is = more (p y) (below (k, omega arith, is))

-- the pattern cards of a suit
suit_of-card : (suit : Suit) (card : PatCard) → Contains (cards_of_suit suit) card → suit_of_card card ≡ suit
suit_of-card suit card h =
    elim (Contains-append_cases (tops_of_suit suit) (Low suit ∷ []) card h) [
      | inl a ↦ (let e : get_or (tops_of_suit suit) a.0 (Low suit) ≡ Top suit a.0 = top_at suit a.0 a.1 in
          let f : get_or (tops_of_suit suit) a.0 (Low suit) ≡ card = get_or_default (tops_of_suit suit) a.0 (Low suit) card a.1 ∙ a.2 in
          ap suit_of_card (sym f ∙ e))
      | inr b ↦ one b.0 b.1 b.2
    ]
  where
    one : (k : ℕ) → k < 1 → get_or (Low suit ∷ []) k card ≡ card → suit_of_card card ≡ suit
    one zero less is = ap suit_of_card (sym is)
    one (suc k) less is = absurd (omega arith)

card_of-suit : (shape : Shape) → IsPattern shape → (seat : Seat) (card : PatCard) → HasCard shape seat card → Contains (cards_of_suit (suit_of_card card)) card
card_of-suit shape pattern seat (Top suit place) held =
    let within = slice_get-within (suit_of shape suit).owners place seat held in
    let fits = owners-le-13 shape pattern suit in
    let less : place < 13 = omega arith in
    Contains-append_left (tops_of_suit suit) (Low suit ∷ []) (Top suit place)
    (place, less, get_or_default (tops_of_suit suit) place (Top suit place) (Low suit) less ∙ top_at suit place less)
card_of-suit shape pattern seat (Low suit) held = Contains-append_right (tops_of_suit suit) (Low suit ∷ []) (Low suit) (0, omega arith, refl)

-- which cards a seat has of a suit
pub Contains-cards_in : (shape : Shape) → IsPattern shape → (seat : Seat) (suit : Suit) (card : PatCard) → Contains (cards_in shape seat suit) card ↔ (HasCard shape seat card × (suit_of_card card ≡ suit))
unfolding cards_in
Contains-cards_in shape pattern seat suit card = (
  λ h. let kept = Contains-filter (has_card shape seat) (cards_of_suit suit) card h in (has_card-is shape seat card kept.0, suit_of-card suit card kept.1),
  λ h. filter-Contains (has_card shape seat) (cards_of_suit suit) card (is-has_card shape seat card h.0)
      (ap_suit h.1 (card_of-suit shape pattern seat card h.0)),
)
  where
    ap_suit : suit_of_card card ≡ suit → Contains (cards_of_suit (suit_of_card card)) card → Contains (cards_of_suit suit) card
    ap_suit e within = subst (λ s. Contains (cards_of_suit s) card) e within

-- which cards a seat has
pub Contains-cards_held : (shape : Shape) → IsPattern shape → (seat : Seat) (card : PatCard) → Contains (cards_held shape seat) card ↔ HasCard shape seat card
Contains-cards_held shape pattern seat card = (
  λ h. elim (Contains-append_cases _ (cards_in shape seat Clubs) card h) [
    | inl a ↦ elim (Contains-append_cases _ (cards_in shape seat Diamonds) card a) [
      | inl b ↦ elim (Contains-append_cases (cards_in shape seat Spades) (cards_in shape seat Hearts) card b) [
        | inl d ↦ ((Contains-cards_in shape pattern seat Spades card).0 d).0
        | inr d ↦ ((Contains-cards_in shape pattern seat Hearts card).0 d).0
      ]
      | inr b ↦ ((Contains-cards_in shape pattern seat Diamonds card).0 b).0
    ]
    | inr a ↦ ((Contains-cards_in shape pattern seat Clubs card).0 a).0
  ],
  λ held. by_suit (suit_of_card card) refl held,
)
  where
    by_suit : (suit : Suit) → suit_of_card card ≡ suit → HasCard shape seat card → Contains (cards_held shape seat) card
    by_suit Spades e held =
        Contains-append_left _ (cards_in shape seat Clubs) card (Contains-append_left _ (cards_in shape seat Diamonds) card
        (Contains-append_left (cards_in shape seat Spades) (cards_in shape seat Hearts) card ((Contains-cards_in shape pattern seat Spades card).1 (held, e))))
    by_suit Hearts e held =
        Contains-append_left _ (cards_in shape seat Clubs) card (Contains-append_left _ (cards_in shape seat Diamonds) card
        (Contains-append_right (cards_in shape seat Spades) (cards_in shape seat Hearts) card ((Contains-cards_in shape pattern seat Hearts card).1 (held, e))))
    by_suit Diamonds e held =
        Contains-append_left _ (cards_in shape seat Clubs) card (Contains-append_right (cards_in shape seat Spades ++ cards_in shape seat Hearts) (cards_in shape seat Diamonds) card
        ((Contains-cards_in shape pattern seat Diamonds card).1 (held, e)))
    by_suit Clubs e held =
        Contains-append_right (cards_in shape seat Spades ++ cards_in shape seat Hearts ++ cards_in shape seat Diamonds) (cards_in shape seat Clubs) card
        ((Contains-cards_in shape pattern seat Clubs card).1 (held, e))

-- the legal cards are just those that are legal
pub Contains-legal_cards : (shape : Shape) → IsPattern shape → (seat : Seat) (led : Option Suit) (card : PatCard) → Contains (legal_cards shape seat led) card ↔ IsLegal shape seat led card
Contains-legal_cards shape pattern seat None card =
    let all = Contains-cards_held shape pattern seat card in
    (λ h. record { has = all.0 h; follows = tt }, λ legal. all.1 legal.has)
Contains-legal_cards shape pattern seat (Some led) card = go (len_of (suit_of shape led) seat) refl
  where
    go : (n : ℕ) → len_of (suit_of shape led) seat ≡ n → Contains (cond (eqb n 0) (cards_held shape seat) (cards_in shape seat led)) card ↔ IsLegal shape seat (Some led) card
    go zero e =
        let all = Contains-cards_held shape pattern seat card in
        (λ h. record { has = all.0 h; follows = λ some. absurd (omega (arith, e, some)) }, λ legal. all.1 legal.has)
    go (suc n) e =
        let one = Contains-cards_in shape pattern seat led card in
        let no : eqb (suc n) 0 ≡ false = ne_eqb (suc n) 0 (λ h. omega arith) in
        let some : 0 < len_of (suit_of shape led) seat = omega arith in
        rw no ((λ h. record { has = (one.0 h).0; follows = λ _. (one.0 h).1 }), λ legal. one.1 (legal.has, legal.follows some))
