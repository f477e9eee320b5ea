-- What the cards of a layout and of a pattern that it matches have to do with each other.
use Rattle.std.proofs.Common.{◌≡◌, ℕ, zero, suc, ◌+◌, ◌-◌, ◌<◌, ◌≤◌, Bool, true, false, cond, List, [], ◌∷◌, ◌++◌, length, take, drop, Option, None, Some, inl, inr, refl, sym, ◌∙◌, ap, arith, zero-add, ◌↔◌}
use Rattle.std.specs.Prelude.{slice_get, slice_index}
use Rattle.std.specs.List.{filter_map, cons_option}
use Rattle.std.proofs.lemmas.Bool.{cases_lt}
use Rattle.std.proofs.lemmas.List.Sums.{sum_by-append}
use Rattle.std.proofs.lemmas.List.Elements.{filter_map-append}
use Rattle.std.proofs.lemmas.List.{take-append-drop, length-append, take-take}
use Rattle.cards.specs.declared.pack.Rank.{Rank}
use Rattle.cards.specs.declared.pack.Rank.TheVariants.{Two, Three, Four, Five, Six, Seven, Eight, Nine, Ten, Jack, Queen, King, Ace}
use Rattle.cards.specs.declared.pack.Card.{Card}
use Rattle.cards.specs.declared.suits.Suit.{Suit}
use Rattle.cards.specs.declared.suits.Suit.TheVariants.{Spades, Hearts, Diamonds, Clubs}
use Rattle.cards.specs.declared.seats.Seat.{Seat}
use Rattle.cards.specs.Deal.{Deal, holder_of, count_of}
use Rattle.cards.specs.Pack.{card_of, rank_number}
use Rattle.cards.specs.Seats.{is_same_seat, seat_number}
use Rattle.patterns.specs.Shapes.{Shape, SuitShape, suit_of, len_of, tops_of, hand_size, Covers}
use Rattle.patterns.specs.Holders.{falling_ranks, holders_of, count_in, MatchesSuit, Matches}
use Rattle.patterns.proofs.HolderLaws.{count_in-cons, suits_add_up}
use Rattle.patterns.proofs.SeatLaws.{is_same_seat_self, same_from_is_same}
use Rattle.pattern_step.specs.declared.pat_cards.PatCard.{PatCard}
use Rattle.pattern_step.specs.declared.pat_cards.PatCard.TheVariants.{Top, Low}
use Rattle.pattern_step.specs.PatCards.{suit_of_card, HasCard}
use Rattle.pattern_step.proofs.PatCardLaws.{slice_get-within}
use Rattle.pattern_step.specs.LayoutCards.{ranks_above, place_in_suit, StandsFor, IsOnePatCard, IsSomeCard, HoldsSuit, IsBelowTop}

-- an item that gives something stands, among what all items give, after what those before it give
at_place : {X : Type 0} (f : X → Option Seat) (xs : List X) (i : ℕ) (x : X) (seat : Seat) → slice_get xs i ≡ Some x → f x ≡ Some seat → slice_get (filter_map f xs) (length (filter_map f (take i xs))) ≡ Some seat
at_place f [] i x seat there gives = absurd (let e : None ≡ Some x = there in cc)
at_place f (y ∷ ys) zero x seat there gives =
    let e : y ≡ x = cc in
    ap (λ o. slice_get (cons_option o (filter_map f ys)) 0) (ap f e ∙ gives)
at_place f (y ∷ ys) (suc i) x seat there gives = go (f y) (at_place f ys i x seat there gives)
  where
    go : (o : Option Seat) → slice_get (filter_map f ys) (length (filter_map f (take i ys))) ≡ Some seat → slice_get (cons_option o (filter_map f ys)) (length (cons_option o (filter_map f (take i ys)))) ≡ Some seat
    go None h = h
    go (Some z) h = h

-- where something stands among what all items give, it comes from an item
pub record ComesFrom {X : Type 0} (f : X → Option Seat) (xs : List X) (k : ℕ) (seat : Seat) : Type 0 where
  pub index : ℕ
  pub item : X
  pub there : slice_get xs index ≡ Some item
  pub gives : f item ≡ Some seat
  pub place : length (filter_map f (take index xs)) ≡ k

comes_from : {X : Type 0} (f : X → Option Seat) (xs : List X) (k : ℕ) (seat : Seat) → slice_get (filter_map f xs) k ≡ Some seat → ComesFrom f xs k seat
comes_from f [] k seat h = absurd (let e : None ≡ Some seat = h in cc)
comes_from f (y ∷ ys) k seat h = go (λ n g. comes_from f ys n seat g) (f y) refl k h
  where
    go : ((n : ℕ) → slice_get (filter_map f ys) n ≡ Some seat → ComesFrom f ys n seat) → (o : Option Seat) → f y ≡ o → (n : ℕ) → slice_get (cons_option o (filter_map f ys)) n ≡ Some seat → ComesFrom f (y ∷ ys) n seat
    go below None e n g =
        let r = below n g in
        record { index = suc r.index; item = r.item; there = r.there; gives = r.gives; place = ap (λ o. length (cons_option o (filter_map f (take r.index ys)))) e ∙ r.place }
    go below (Some z) e zero g = record { index = 0; item = y; there = refl; gives = e ∙ g; place = refl }
    go below (Some z) e (suc n) g =
        let r = below n g in
        record { index = suc r.index; item = r.item; there = r.there; gives = r.gives; place = ap (λ o. length (cons_option o (filter_map f (take r.index ys)))) e ∙ ap suc r.place }

-- more items give no less
pub more_above : {X : Type 0} (f : X → Option Seat) (xs : List X) (m n : ℕ) → m ≤ n → length (filter_map f (take m xs)) ≤ length (filter_map f (take n xs))
more_above f xs m n h =
    let all = ap (λ ys. length (filter_map f ys)) (sym (take-append-drop m (take n xs))) in
    let split = ap length (filter_map-append f (take m (take n xs)) (drop m (take n xs))) ∙ length-append (filter_map f (take m (take n xs))) (filter_map f (drop m (take n xs))) in
    let same = ap (λ ys. length (filter_map f ys)) (take-take m n xs h) in
    omega (arith, all, split, same)

-- where a rank stands among the falling ranks
pub rank_there : (rank : Rank) → slice_get falling_ranks (12 - rank_number rank) ≡ Some rank
rank_there Two = refl
rank_there Three = refl
rank_there Four = refl
rank_there Five = refl
rank_there Six = refl
rank_there Seven = refl
rank_there Eight = refl
rank_there Nine = refl
rank_there Ten = refl
rank_there Jack = refl
rank_there Queen = refl
rank_there King = refl
rank_there Ace = refl

pub there_rank : (i : ℕ) (rank : Rank) → slice_get falling_ranks i ≡ Some rank → i ≡ 12 - rank_number rank
there_rank i rank h = go i rank (slice_get-within falling_ranks i rank h) h
  where
    go : (n : ℕ) (r : Rank) → n < 13 → slice_get falling_ranks n ≡ Some r → n ≡ 12 - rank_number r
    go zero r less e = let f : Ace ≡ r = cc in ap (λ x. 12 - rank_number x) f
    go (suc zero) r less e = let f : King ≡ r = cc in ap (λ x. 12 - rank_number x) f
    go (suc (suc zero)) r less e = let f : Queen ≡ r = cc in ap (λ x. 12 - rank_number x) f
    go (suc (suc (suc zero))) r less e = let f : Jack ≡ r = cc in ap (λ x. 12 - rank_number x) f
    go (suc (suc (suc (suc zero)))) r less e = let f : Ten ≡ r = cc in ap (λ x. 12 - rank_number x) f
    go (suc (suc (suc (suc (suc zero))))) r less e = let f : Nine ≡ r = cc in ap (λ x. 12 - rank_number x) f
    go (suc (suc (suc (suc (suc (suc zero)))))) r less e = let f : Eight ≡ r = cc in ap (λ x. 12 - rank_number x) f
    go (suc (suc (suc (suc (suc (suc (suc zero))))))) r less e = let f : Seven ≡ r = cc in ap (λ x. 12 - rank_number x) f
    go (suc (suc (suc (suc (suc (suc (suc (suc zero)))))))) r less e = let f : Six ≡ r = cc in ap (λ x. 12 - rank_number x) f
    go (suc (suc (suc (suc (suc (suc (suc (suc (suc zero))))))))) r less e = let f : Five ≡ r = cc in ap (λ x. 12 - rank_number x) f
    go (suc (suc (suc (suc (suc (suc (suc (suc (suc (suc zero)))))))))) r less e = let f : Four ≡ r = cc in ap (λ x. 12 - rank_number x) f
    go (suc (suc (suc (suc (suc (suc (suc (suc (suc (suc (suc zero))))))))))) r less e = let f : Three ≡ r = cc in ap (λ x. 12 - rank_number x) f
    go (suc (suc (suc (suc (suc (suc (suc (suc (suc (suc (suc (suc zero)))))))))))) r less e = let f : Two ≡ r = cc in ap (λ x. 12 - rank_number x) f
    go (suc (suc (suc (suc (suc (suc (suc (suc (suc (suc (suc (suc (suc n))))))))))))) r less e = absurd (omega arith)

-- the holder of a card stands in its place among the holders of its suit
pub holder_at_place : (deal : Deal) (card : Card) (seat : Seat) → holder_of deal card ≡ Some seat → slice_get (holders_of deal card.suit) (place_in_suit deal card) ≡ Some seat
unfolding holders_of
holder_at_place deal card seat held =
    at_place (λ rank. holder_of deal (card_of card.suit rank)) falling_ranks (12 - rank_number card.rank) card.rank seat (rank_there card.rank) held

-- and each of those holders holds a card in that place
pub record HoldsAtPlace (deal : Deal) (suit : Suit) (k : ℕ) (seat : Seat) : Type 0 where
  pub card : Card
  pub suit_is : card.suit ≡ suit
  pub held : holder_of deal card ≡ Some seat
  pub place : place_in_suit deal card ≡ k

pub card_at_place : (deal : Deal) (suit : Suit) (k : ℕ) (seat : Seat) → slice_get (holders_of deal suit) k ≡ Some seat → HoldsAtPlace deal suit k seat
unfolding holders_of
card_at_place deal suit k seat h =
    let from = comes_from (λ rank. holder_of deal (card_of suit rank)) falling_ranks k seat h in
    record {
      card = card_of suit from.item;
      suit_is = refl;
      held = from.gives;
      place = ap (λ i. length (filter_map (λ rank. holder_of deal (card_of suit rank)) (take i falling_ranks))) (sym (there_rank from.index from.item from.there)) ∙ from.place;
    }

-- of two cards of a suit the one in the lesser place ranks above
pub lesser_place_ranks_above : (deal : Deal) (suit : Suit) (higher lower : Card) → higher.suit ≡ suit → lower.suit ≡ suit → place_in_suit deal higher < place_in_suit deal lower → rank_number lower.rank < rank_number higher.rank
lesser_place_ranks_above deal suit higher lower hs ls less =
    elim (cases_lt (rank_number lower.rank) (rank_number higher.rank)) [
      | inl h ↦ h
      | inr h ↦ (let more = more_above (λ rank. holder_of deal (card_of suit rank)) falling_ranks (12 - rank_number lower.rank) (12 - rank_number higher.rank) (omega arith) in
          let a : place_in_suit deal higher ≡ length (filter_map (λ rank. holder_of deal (card_of suit rank)) (ranks_above higher.rank)) = ap (λ s. length (filter_map (λ rank. holder_of deal (card_of s rank)) (ranks_above higher.rank))) hs in
          let b : place_in_suit deal lower ≡ length (filter_map (λ rank. holder_of deal (card_of suit rank)) (ranks_above lower.rank)) = ap (λ s. length (filter_map (λ rank. holder_of deal (card_of s rank)) (ranks_above lower.rank))) ls in
          absurd (omega (arith, more, a, b, less)))
    ]

slice_get-front : {X : Type 0} (xs ys : List X) (k : ℕ) → k < length xs → slice_get (xs ++ ys) k ≡ slice_get xs k
slice_get-front [] ys k h = absurd (omega arith)
slice_get-front (x ∷ xs) ys zero h = refl
slice_get-front (x ∷ xs) ys (suc k) h = slice_get-front xs ys k (omega arith)

slice_get-back : {X : Type 0} (xs ys : List X) (j : ℕ) → slice_get (xs ++ ys) (length xs + j) ≡ slice_get ys j
slice_get-back [] ys j = ap (slice_get ys) (zero-add j)
slice_get-back (x ∷ xs) ys j = let e : suc (length xs) + j ≡ suc (length xs + j) = omega arith in ap (slice_get (x ∷ (xs ++ ys))) e ∙ slice_get-back xs ys j

-- who stands in a list is counted
counted : (xs : List Seat) (k : ℕ) (seat : Seat) → slice_get xs k ≡ Some seat → 1 ≤ count_in xs seat
counted [] k seat h = absurd (let e : None ≡ Some seat = h in cc)
counted (x ∷ xs) zero seat h =
    let e : x ≡ seat = cc in
    let one : is_same_seat seat x ≡ true = ap (is_same_seat seat) e ∙ is_same_seat_self seat in
    let n = ap (λ (b : Bool). let m : ℕ = cond b 1 0 in m) one in
    omega (arith, n, count_in-cons x xs seat)
counted (x ∷ xs) (suc k) seat h = omega (arith, counted xs k seat h, count_in-cons x xs seat)

-- and who is counted stands there
stands_there : (xs : List Seat) (seat : Seat) → 1 ≤ count_in xs seat → (k : ℕ) × (slice_get xs k ≡ Some seat)
stands_there [] seat h = absurd (omega arith)
stands_there (x ∷ xs) seat h = go (λ below. stands_there xs seat below) (is_same_seat seat x) refl
  where
    go : (1 ≤ count_in xs seat → (k : ℕ) × (slice_get xs k ≡ Some seat)) → (b : Bool) → is_same_seat seat x ≡ b → (k : ℕ) × (slice_get (x ∷ xs) k ≡ Some seat)
    go below true e = (0, ap Some (sym (same_from_is_same seat x e)))
    go below false e =
        let n = ap (λ (b : Bool). let m : ℕ = cond b 1 0 in m) e in
        let r = below (omega (arith, n, h, count_in-cons x xs seat)) in
        (suc r.0, r.1)

-- the suit of a card is that of the pattern card that stands for it
pub stands_suit : (shape : Shape) (deal : Deal) (pat_card : PatCard) (card : Card) → StandsFor shape deal pat_card card → card.suit ≡ suit_of_card pat_card
stands_suit shape deal (Top suit place) card stands = stands.0
stands_suit shape deal (Low suit) card stands = stands.0

-- a seat has a length above 0 just in the suits of which it holds a card
pub length_is_held : (shape : Shape) (deal : Deal) (suit : Suit) (seat : Seat) → Matches shape deal → (0 < len_of (suit_of shape suit) seat) ↔ HoldsSuit deal suit seat
length_is_held shape deal suit seat matches = (
  λ some.
      let there = stands_there (holders_of deal suit) seat (omega (arith, some, (matches suit).lens seat)) in
      let card = card_at_place deal suit there.0 seat there.1 in
      (card.card, card.held, card.suit_is),
  λ h.
      let there : slice_get (holders_of deal suit) (place_in_suit deal h.0) ≡ Some seat =
      ap (λ s. slice_get (holders_of deal s) (place_in_suit deal h.0)) (sym h.2) ∙ holder_at_place deal h.0 seat h.1 in
      omega (arith, counted (holders_of deal suit) (place_in_suit deal h.0) seat there, (matches suit).lens seat),
)

four_same : (a b c d a' b' c' d' : ℕ) → a ≡ a' → b ≡ b' → c ≡ c' → d ≡ d' → a + b + c + d ≡ a' + b' + c' + d'
four_same a b c d a' b' c' d' ea eb ec ed = omega (arith, ea, eb, ec, ed)

-- a hand of a pattern has as many cards as it has in a deal that matches
pub hand_size-dealt : (shape : Shape) (deal : Deal) (seat : Seat) → length deal ≡ 52 → Matches shape deal → hand_size shape seat ≡ count_of deal seat
hand_size-dealt shape deal seat whole matches =
    four_same _ _ _ _ _ _ _ _ ((matches Spades).lens seat) ((matches Hearts).lens seat) ((matches Diamonds).lens seat) ((matches Clubs).lens seat)
    ∙ suits_add_up deal whole seat

-- and as many as in a rest that it covers
pub hand_size-covered : (pattern rest : Shape) (seat : Seat) → Covers pattern rest → hand_size pattern seat ≡ hand_size rest seat
hand_size-covered pattern rest seat covers = four_same _ _ _ _ _ _ _ _ (same Spades) (same Hearts) (same Diamonds) (same Clubs)
  where
    same : (suit : Suit) → len_of (suit_of pattern suit) seat ≡ len_of (suit_of rest suit) seat
    same suit = ap (λ lens. slice_index lens (seat_number seat)) (covers suit).lens

-- how many of a suit a seat has after the owners
after_owners : (suit : SuitShape) (holders : List Seat) (m : MatchesSuit suit holders) (seat : Seat) → len_of suit seat ≡ tops_of suit seat + count_in m.owners.0 seat
after_owners suit holders m seat =
    m.lens seat ∙ (ap (λ xs. count_in xs seat) m.owners.1 ∙ sum_by-append (λ x. cond (is_same_seat seat x) 1 0) suit.owners m.owners.0)

-- Each card of a matching layout is exactly one pattern card of the seat that holds it.
pub IsOnePatCard-of : (shape : Shape) (deal : Deal) (seat : Seat) (card : Card) → Matches shape deal → holder_of deal card ≡ Some seat → IsOnePatCard shape deal seat card
IsOnePatCard-of shape deal seat card matches held =
    elim (cases_lt (place_in_suit deal card) (length (suit_of shape card.suit).owners)) [
      | inl less ↦ record { one = Top card.suit (place_in_suit deal card); has = owns less; stands = (refl, refl, less); alone = λ other stands. no_other_top less other stands }
      | inr more ↦ record { one = Low card.suit; has = has_low more; stands = (refl, more); alone = λ other stands. no_other_low more other stands }
    ]
  where
    there : slice_get (holders_of deal card.suit) (place_in_suit deal card) ≡ Some seat
    there = holder_at_place deal card seat held

    owns : place_in_suit deal card < length (suit_of shape card.suit).owners → slice_get (suit_of shape card.suit).owners (place_in_suit deal card) ≡ Some seat
    owns less =
        let m = matches card.suit in
        sym (ap (λ xs. slice_get xs (place_in_suit deal card)) m.owners.1 ∙ slice_get-front (suit_of shape card.suit).owners m.owners.0 (place_in_suit deal card) less) ∙ there

    has_low : length (suit_of shape card.suit).owners ≤ place_in_suit deal card → tops_of (suit_of shape card.suit) seat < len_of (suit_of shape card.suit) seat
    has_low more =
        let m = matches card.suit in
        let owners = (suit_of shape card.suit).owners in
        let j : ℕ = place_in_suit deal card - length owners in
        let e : length owners + j ≡ place_in_suit deal card = omega arith in
        let at : slice_get m.owners.0 j ≡ Some seat =
        sym (slice_get-back owners m.owners.0 j) ∙ (ap (slice_get (owners ++ m.owners.0)) e ∙ (ap (λ xs. slice_get xs (place_in_suit deal card)) (sym m.owners.1) ∙ there)) in
        omega (arith, counted m.owners.0 j seat at, after_owners (suit_of shape card.suit) (holders_of deal card.suit) m seat)

    no_other_top : place_in_suit deal card < length (suit_of shape card.suit).owners → (other : PatCard) → StandsFor shape deal other card → other ≡ Top card.suit (place_in_suit deal card)
    no_other_top less (Top suit place) stands = ap (λ s. Top s place) (sym stands.0) ∙ ap (Top card.suit) (sym stands.1)
    no_other_top less (Low suit) stands =
        let e : length (suit_of shape suit).owners ≡ length (suit_of shape card.suit).owners = ap (λ s. length (suit_of shape s).owners) (sym stands.0) in
        absurd (omega (arith, e, stands.1, less))

    no_other_low : length (suit_of shape card.suit).owners ≤ place_in_suit deal card → (other : PatCard) → StandsFor shape deal other card → other ≡ Low card.suit
    no_other_low more (Top suit place) stands =
        let e : length (suit_of shape suit).owners ≡ length (suit_of shape card.suit).owners = ap (λ s. length (suit_of shape s).owners) (sym stands.0) in
        absurd (omega (arith, e, stands.1, stands.2, more))
    no_other_low more (Low suit) stands = ap Low (sym stands.0)

-- Each pattern card of a seat stands for at least one card that the seat holds, in every matching layout.
pub IsSomeCard-of : (shape : Shape) (deal : Deal) (seat : Seat) (pat_card : PatCard) → Matches shape deal → HasCard shape seat pat_card → IsSomeCard shape deal seat pat_card
IsSomeCard-of shape deal seat (Top suit place) matches has =
    let m = matches suit in
    let owners = (suit_of shape suit).owners in
    let within = slice_get-within owners place seat has in
    let there : slice_get (holders_of deal suit) place ≡ Some seat = ap (λ xs. slice_get xs place) m.owners.1 ∙ (slice_get-front owners m.owners.0 place within ∙ has) in
    let held = card_at_place deal suit place seat there in
    record { card = held.card; held = held.held; stands = (held.suit_is, held.place, within) }
IsSomeCard-of shape deal seat (Low suit) matches has =
    let m = matches suit in
    let owners = (suit_of shape suit).owners in
    let some = stands_there m.owners.0 seat (omega (arith, has, after_owners (suit_of shape suit) (holders_of deal suit) m seat)) in
    let there : slice_get (holders_of deal suit) (length owners + some.0) ≡ Some seat =
    ap (λ xs. slice_get xs (length owners + some.0)) m.owners.1 ∙ (slice_get-back owners m.owners.0 some.0 ∙ some.1) in
    let held = card_at_place deal suit (length owners + some.0) seat there in
    record { card = held.card; held = held.held; stands = (held.suit_is, omega (arith, held.place)) }

-- A top ranks above every card of a greater place and above every low card of its suit.
pub top_ranks_above : (shape : Shape) (deal : Deal) (suit : Suit) (place : ℕ) (below : PatCard) (higher lower : Card) → IsBelowTop suit place below → StandsFor shape deal (Top suit place) higher → StandsFor shape deal below lower → rank_number lower.rank < rank_number higher.rank
top_ranks_above shape deal suit place (Top of other) higher lower is_below top low =
    lesser_place_ranks_above deal suit higher lower top.0 (low.0 ∙ is_below.0) (omega (arith, top.1, low.1, is_below.1))
top_ranks_above shape deal suit place (Low of) higher lower is_below top low =
    let e : length (suit_of shape of).owners ≡ length (suit_of shape suit).owners = ap (λ s. length (suit_of shape s).owners) is_below in
    lesser_place_ranks_above deal suit higher lower top.0 (low.0 ∙ is_below) (omega (arith, e, top.1, top.2, low.1))
