-- Lines that have higher cards of runs: who may win does not change, nor what is left.
use Rattle.std.proofs.Common.{◌≡◌, ◌≢◌, ℕ, zero, suc, ◌+◌, ◌-◌, ◌<◌, ◌≤◌, Bool, true, false, cond, not, ◌&&◌, eqb, List, [], ◌∷◌, length, get_or, Some, ◌⊎◌, inl, inr, refl, sym, ◌∙◌, ap, subst, arith, zero-add}
use Rattle.std.specs.Prelude.{slice_get, Contains}
use Rattle.std.specs.List.{list_any}
use Rattle.std.proofs.lemmas.Bool.{cases_lt, eqb-true, eq-eqb, false≢true}
use Rattle.std.proofs.lemmas.List.{get_or_default}
use Rattle.std.proofs.lemmas.List.Elements.{Contains-get_or}
use Rattle.cards.specs.declared.suits.Suit.{Suit}
use Rattle.cards.specs.declared.suits.Suit.TheVariants.{Spades}
use Rattle.cards.specs.declared.suits.Trump.{Trump}
use Rattle.cards.specs.declared.suits.Trump.TheVariants as trump
use Rattle.cards.specs.declared.seats.Seat.{Seat}
use Rattle.cards.specs.declared.seats.Seat.TheVariants.{North, East, South, West}
use Rattle.cards.specs.Pack.{suit_number}
use Rattle.cards.specs.Seats.{is_same_seat, seat_in_place, place_of}
use Rattle.cards.proofs.PackLaws.{same_from_suit_numbers}
use Rattle.patterns.specs.Shapes.{Shape, suit_of, len_of}
use Rattle.patterns.proofs.SeatLaws.{same_from_is_same, is_same_seat_self}
use Rattle.pattern_step.specs.declared.pat_cards.PatCard.{PatCard}
use Rattle.pattern_step.specs.declared.pat_cards.PatCard.TheVariants.{Top, Low}
use Rattle.pattern_step.specs.PatCards.{suit_of_card, HasCard, is_of_suit, is_top}
use Rattle.pattern_step.specs.Tricks.{played_in_place, played_by, suit_of_lead, winning_suit, OwnsHighest, PlayedLow, AreLegalInTurn, owners_left}
use Rattle.pattern_step.specs.Runs.{IsLowerInRun, IsAlikeIn}
use Rattle.pattern_step.specs.Laws.{LinesAreAlike}
use Rattle.pattern_step.proofs.PatCardLaws.{slice_get-at, slice_get-within}
use Rattle.pattern_step.proofs.TurnLaws.{place_of-lt, seat_in_place-place_of, place_of-seat_in_place}
use Rattle.pattern_step.proofs.TrickLaws.{left_from, kept, owners_left-is, played_is_held}
use Rattle.pattern_step.proofs.LeftLaws.{any_seat, any_seat-yes, any_seat-no, any_card, left_from-same, to_false}

-- ---- a run of items, one of which is taken out: it does not matter which
-- the first is kept on the one side, and one after it on the other
passed : {X : Type 0} (keep keep' : ℕ → Bool) (a : ℕ) (xs : List X) (one : X) (last : ℕ) → last < length xs → ((n : ℕ) → n ≤ last → get_or xs n one ≡ one) →
    ((n : ℕ) → n < last → keep (a + n) ≡ true) → keep (a + last) ≡ false → ((n : ℕ) → n ≤ last → keep' (a + n) ≡ true) → ((n : ℕ) → last < n → n < length xs → keep (a + n) ≡ keep' (a + n)) →
    one ∷ left_from keep a xs ≡ left_from keep' a xs
unfolding left_from
passed keep keep' a [] one last within run before out stays after = absurd (omega arith)
passed keep keep' a (x ∷ xs) one zero within run before out stays after =
    let off : a + 0 ≡ a = omega arith in
    let is : x ≡ one = run 0 (omega arith) in
    let out' : keep a ≡ false = ap keep (sym off) ∙ out in
    let stays' : keep' a ≡ true = ap keep' (sym off) ∙ stays 0 (omega arith) in
    let rest = left_from-same keep keep' (a + 1) xs (λ n less. let f : a + 1 + n ≡ a + suc n = omega arith in ap keep f ∙ (after (suc n) (omega arith) (omega arith) ∙ ap keep' (sym f))) in
    ap (λ b. one ∷ cond b (x ∷ left_from keep (a + 1) xs) (left_from keep (a + 1) xs)) out'
    ∙ (ap (λ y. y ∷ left_from keep (a + 1) xs) (sym is) ∙ (ap (λ ys. x ∷ ys) rest
    ∙ ap (λ b. cond b (x ∷ left_from keep' (a + 1) xs) (left_from keep' (a + 1) xs)) (sym stays')))
passed keep keep' a (x ∷ xs) one (suc last) within run before out stays after =
    let off : a + 0 ≡ a = omega arith in
    let is : x ≡ one = run 0 (omega arith) in
    let in' : keep a ≡ true = ap keep (sym off) ∙ before 0 (omega arith) in
    let stays' : keep' a ≡ true = ap keep' (sym off) ∙ stays 0 (omega arith) in
    let shift : (n : ℕ) → a + 1 + n ≡ a + suc n = λ n. omega arith in
    let rest = passed keep keep' (a + 1) xs one last (omega arith) (λ n less. run (suc n) (omega arith)) (λ n less. ap keep (shift n) ∙ before (suc n) (omega arith)) (ap keep (shift last) ∙ out)
    (λ n less. ap keep' (shift n) ∙ stays (suc n) (omega arith)) (λ n more less. ap keep (shift n) ∙ (after (suc n) (omega arith) (omega arith) ∙ ap keep' (sym (shift n)))) in
    ap (λ b. one ∷ cond b (x ∷ left_from keep (a + 1) xs) (left_from keep (a + 1) xs)) in'
    ∙ (ap (λ y. one ∷ y ∷ left_from keep (a + 1) xs) is ∙ (ap (λ ys. one ∷ ys) rest ∙ (ap (λ y. y ∷ left_from keep' (a + 1) xs) (sym is)
    ∙ ap (λ b. cond b (x ∷ left_from keep' (a + 1) xs) (left_from keep' (a + 1) xs)) (sym stays'))))

-- one item of the run is taken out on the one side, and one before it on the other
exchanged : {X : Type 0} (keep keep' : ℕ → Bool) (a : ℕ) (xs : List X) (one : X) (first last : ℕ) → first < last → last < length xs → ((n : ℕ) → first ≤ n → n ≤ last → get_or xs n one ≡ one) →
    ((n : ℕ) → first ≤ n → n < last → keep (a + n) ≡ true) → keep (a + last) ≡ false → keep' (a + first) ≡ false → ((n : ℕ) → first < n → n ≤ last → keep' (a + n) ≡ true) →
    ((n : ℕ) → n < length xs → n ≢ first → n ≢ last → keep (a + n) ≡ keep' (a + n)) → left_from keep a xs ≡ left_from keep' a xs
unfolding left_from
exchanged keep keep' a [] one first last below within run before out out' after others = absurd (omega arith)
exchanged keep keep' a (x ∷ xs) one zero zero below within run before out out' after others = absurd (omega arith)
exchanged keep keep' a (x ∷ xs) one (suc first) zero below within run before out out' after others = absurd (omega arith)
exchanged keep keep' a (x ∷ xs) one zero (suc last) below within run before out out' after others =
    let off : a + 0 ≡ a = omega arith in
    let is : x ≡ one = run 0 (omega arith) (omega arith) in
    let here : keep a ≡ true = ap keep (sym off) ∙ before 0 (omega arith) (omega arith) in
    let gone : keep' a ≡ false = ap keep' (sym off) ∙ out' in
    let shift : (n : ℕ) → a + 1 + n ≡ a + suc n = λ n. omega arith in
    let rest = passed keep keep' (a + 1) xs one last (omega arith) (λ n less. run (suc n) (omega arith) (omega arith)) (λ n less. ap keep (shift n) ∙ before (suc n) (omega arith) (omega arith)) (ap keep (shift last) ∙ out)
    (λ n less. ap keep' (shift n) ∙ after (suc n) (omega arith) (omega arith)) (λ n more less. ap keep (shift n) ∙ (others (suc n) (omega arith) (λ e. omega arith) (λ e. omega arith) ∙ ap keep' (sym (shift n)))) in
    ap (λ b. cond b (x ∷ left_from keep (a + 1) xs) (left_from keep (a + 1) xs)) here
    ∙ (ap (λ y. y ∷ left_from keep (a + 1) xs) is ∙ (rest ∙ ap (λ b. cond b (x ∷ left_from keep' (a + 1) xs) (left_from keep' (a + 1) xs)) (sym gone)))
exchanged keep keep' a (x ∷ xs) one (suc first) (suc last) below within run before out out' after others =
    let off : a + 0 ≡ a = omega arith in
    let shift : (n : ℕ) → a + 1 + n ≡ a + suc n = λ n. omega arith in
    let here : keep a ≡ keep' a = ap keep (sym off) ∙ (others 0 (omega arith) (λ e. omega arith) (λ e. omega arith) ∙ ap keep' off) in
    let rest = exchanged keep keep' (a + 1) xs one first last (omega arith) (omega arith) (λ n more less. run (suc n) (omega arith) (omega arith)) (λ n more less. ap keep (shift n) ∙ before (suc n) (omega arith) (omega arith))
    (ap keep (shift last) ∙ out) (ap keep' (shift first) ∙ out') (λ n more less. ap keep' (shift n) ∙ after (suc n) (omega arith) (omega arith))
    (λ n less apart apart'. ap keep (shift n) ∙ (others (suc n) (omega arith) (λ e. apart (omega arith)) (λ e. apart' (omega arith)) ∙ ap keep' (sym (shift n)))) in
    ap (λ b. cond b (x ∷ left_from keep (a + 1) xs) (left_from keep (a + 1) xs)) here ∙ ap (λ ys. cond (keep' a) (x ∷ ys) ys) rest

-- ---- tops played, seat by seat
-- the seats' cards
abbrev Cards : Type 0
Cards = Seat → PatCard

top_is : (suit : Suit) (place : ℕ) (card : PatCard) → is_top suit place card ≡ true → card ≡ Top suit place
top_is suit place (Top of other) h = go (eqb (suit_number of) (suit_number suit)) refl (eqb other place) refl h
  where
    go : (a : Bool) → eqb (suit_number of) (suit_number suit) ≡ a → (b : Bool) → eqb other place ≡ b → a && b ≡ true → Top of other ≡ Top suit place
    go true s true p h = ap (λ (t : Suit). Top t other) (same_from_suit_numbers of suit (eqb-true _ _ s)) ∙ ap (Top suit) (eqb-true _ _ p)
    go true s false p h = absurd (false≢true h)
    go false s b p h = absurd (false≢true h)
top_is suit place (Low of) h = absurd (false≢true h)

is_top_self : (suit : Suit) (place : ℕ) → is_top suit place (Top suit place) ≡ true
is_top_self suit place = ap (λ b. b && eqb place place) (eq-eqb (suit_number suit) (suit_number suit) refl) ∙ eq-eqb place place refl

-- whether no seat played the top of this place
keeps : Cards → Suit → ℕ → Bool
keeps cards suit place = not (any_seat (λ seat. is_top suit place (cards seat)))

kept-is : (leader : Seat) (cards : List PatCard) (suit : Suit) (place : ℕ) → length cards ≡ 4 → kept cards suit place ≡ keeps (played_by leader cards) suit place
unfolding keeps
kept-is leader cards suit place four = ap not (any_card leader cards (is_top suit place) four)

gone_top : (cards : Cards) (suit : Suit) (place : ℕ) (seat : Seat) → cards seat ≡ Top suit place → keeps cards suit place ≡ false
unfolding keeps
gone_top cards suit place seat is = ap not (any_seat-yes (λ s. is_top suit place (cards s)) seat (ap (is_top suit place) is ∙ is_top_self suit place))

kept_top : (cards : Cards) (suit : Suit) (place : ℕ) → ((seat : Seat) → cards seat ≡ Top suit place → ⊥) → keeps cards suit place ≡ true
unfolding keeps
kept_top cards suit place none = ap not (any_seat-no (λ s. is_top suit place (cards s)) (λ s. to_false (is_top suit place (cards s)) (λ h. none s (top_is suit place (cards s) h))))

kept_alike : (one other : Cards) (suit : Suit) (place : ℕ) → ((seat : Seat) → is_top suit place (one seat) ≡ is_top suit place (other seat)) → keeps one suit place ≡ keeps other suit place
unfolding keeps any_seat
kept_alike one other suit place same = rw (same North, same East, same South, same West) refl

any_alike : (one other : Seat → Bool) → ((seat : Seat) → one seat ≡ other seat) → any_seat one ≡ any_seat other
unfolding any_seat
any_alike one other same = rw (same North, same East, same South, same West) refl

-- ---- one seat plays a higher card
dec_seat : (one other : Seat) → (one ≡ other) ⊎ (one ≢ other)
dec_seat one other = go (is_same_seat one other) refl
  where
    go : (b : Bool) → is_same_seat one other ≡ b → (one ≡ other) ⊎ (one ≢ other)
    go true e = inl (same_from_is_same one other e)
    go false e = inr (λ same. false≢true (sym e ∙ (ap (is_same_seat one) (sym same) ∙ is_same_seat_self one)))

dec_suit : (one other : Suit) → (one ≡ other) ⊎ (one ≢ other)
dec_suit one other = go (eqb (suit_number one) (suit_number other)) refl
  where
    go : (b : Bool) → eqb (suit_number one) (suit_number other) ≡ b → (one ≡ other) ⊎ (one ≢ other)
    go true e = inl (same_from_suit_numbers one other (eqb-true _ _ e))
    go false e = inr (λ same. false≢true (sym e ∙ eq-eqb _ _ (ap suit_number same)))

-- each seat has its card
abbrev Have : Shape → Cards → Type 0
Have shape cards = (seat : Seat) → HasCard shape seat (cards seat)

-- the top of an owner's place is played by that owner alone
owner_plays : (shape : Shape) (cards : Cards) (suit : Suit) (place : ℕ) (owner seat : Seat) → Have shape cards → slice_get (suit_of shape suit).owners place ≡ Some owner → cards seat ≡ Top suit place → seat ≡ owner
owner_plays shape cards suit place owner seat have owns plays =
    let has : slice_get (suit_of shape suit).owners place ≡ Some seat = subst (HasCard shape seat) plays (have seat) in
    let both : Some seat ≡ Some owner = sym has ∙ owns in
    cc

same_tops : (suit suit' : Suit) (place place' : ℕ) → Top suit place ≡ Top suit' place' → (suit ≡ suit') × (place ≡ place')
same_tops suit suit' place place' e = (cc, cc)

-- all other seats play the same card
abbrev OthersSame : Seat → Cards → Cards → Type 0
OthersSame seat one other = (s : Seat) → s ≢ seat → one s ≡ other s

-- a top that is neither of the seat's two
not_theirs : (one other : Cards) (seat : Seat) (suit : Suit) (place : ℕ) → OthersSame seat one other → (one seat ≡ Top suit place → ⊥) → (other seat ≡ Top suit place → ⊥) → keeps one suit place ≡ keeps other suit place
not_theirs one other seat suit place others none none' = kept_alike one other suit place (λ s. elim (dec_seat s seat) [
  | inl same ↦ to_false (is_top suit place (one s)) (λ h. none (ap one (sym same) ∙ top_is suit place (one s) h))
      ∙ sym (to_false (is_top suit place (other s)) (λ h. none' (ap other (sym same) ∙ top_is suit place (other s) h)))
  | inr apart ↦ ap (is_top suit place) (others s apart)
])

-- the owners left of the run's suit
run_left : (shape : Shape) (one other : Cards) (seat : Seat) → Have shape one → Have shape other → OthersSame seat one other → (run : IsLowerInRun shape seat (one seat) (other seat)) →
    left_from (keeps one run.suit) 0 (suit_of shape run.suit).owners ≡ left_from (keeps other run.suit) 0 (suit_of shape run.suit).owners
run_left shape one other seat have have' others run =
    exchanged (keeps one suit) (keeps other suit) 0 owners seat run.first run.last run.below
    (slice_get-within owners run.last seat (run.owned run.last (omega (arith, run.below)) (omega arith)))
    (λ n more less. owner_there n (run.owned n more less))
    (λ n more less. ap (keeps one suit) (zero-add n) ∙ kept_top one suit n (λ s plays. not_last n (omega (arith, less)) (is_seat one have n more (omega (arith, less)) s plays)))
    (ap (keeps one suit) (zero-add run.last) ∙ gone_top one suit run.last seat run.is_last)
    (ap (keeps other suit) (zero-add run.first) ∙ gone_top other suit run.first seat run.is_first)
    (λ n more less. ap (keeps other suit) (zero-add n) ∙ kept_top other suit n (λ s plays. not_first n (omega (arith, more)) (is_seat other have' n (omega (arith, more)) less s plays)))
    (λ n less apart apart'. ap (keeps one suit) (zero-add n) ∙ (not_theirs one other seat suit n others (λ e. apart' (sym (same_tops suit suit run.last n (sym run.is_last ∙ e)).1)) (λ e. apart (sym (same_tops suit suit run.first n (sym run.is_first ∙ e)).1)) ∙ ap (keeps other suit) (sym (zero-add n))))
  where
    suit : Suit
    suit = run.suit

    owners : List Seat
    owners = (suit_of shape run.suit).owners

    owner_there : (n : ℕ) → slice_get owners n ≡ Some seat → get_or owners n seat ≡ seat
    owner_there n there =
        let at : Some (get_or owners n seat) ≡ Some seat = sym (slice_get-at owners n seat (slice_get-within owners n seat there)) ∙ there in
        cc

    -- who plays a top of the run is the seat
    is_seat : (cards : Cards) → Have shape cards → (n : ℕ) → run.first ≤ n → n ≤ run.last → (s : Seat) → cards s ≡ Top suit n → cards seat ≡ Top suit n
    is_seat cards have n more less s plays = ap cards (sym (owner_plays shape cards suit n seat s have (run.owned n more less) plays)) ∙ plays

    not_last : (n : ℕ) → n < run.last → one seat ≡ Top suit n → ⊥
    not_last n less plays = let same = (same_tops suit suit run.last n (sym run.is_last ∙ plays)).1 in omega arith

    not_first : (n : ℕ) → run.first < n → other seat ≡ Top suit n → ⊥
    not_first n more plays = let same = (same_tops suit suit run.first n (sym run.is_first ∙ plays)).1 in omega arith

-- and of each suit
one_higher : (shape : Shape) (one other : Cards) (seat : Seat) → Have shape one → Have shape other → OthersSame seat one other → IsLowerInRun shape seat (one seat) (other seat) → (suit : Suit) →
    left_from (keeps one suit) 0 (suit_of shape suit).owners ≡ left_from (keeps other suit) 0 (suit_of shape suit).owners
one_higher shape one other seat have have' others run suit = elim (dec_suit run.suit suit) [
  | inl same ↦ subst (λ s. left_from (keeps one s) 0 (suit_of shape s).owners ≡ left_from (keeps other s) 0 (suit_of shape s).owners) same (run_left shape one other seat have have' others run)
  | inr apart ↦ left_from-same (keeps one suit) (keeps other suit) 0 (suit_of shape suit).owners
      (λ n less. not_theirs one other seat suit (0 + n) others (λ e. apart (same_tops run.suit suit run.last (0 + n) (sym run.is_last ∙ e)).0) (λ e. apart (same_tops run.suit suit run.first (0 + n) (sym run.is_first ∙ e)).0))
]

-- ---- all four do
-- a seat has the same card as before, or a higher one in a run of it
abbrev AlikeAt : Shape → Cards → Cards → Seat → Type 0
AlikeAt shape one other seat = (one seat ≡ other seat) ⊎ IsLowerInRun shape seat (one seat) (other seat)

-- the one's cards, but for the seat's
with_of : Seat → Cards → Cards → Cards
with_of seat one other s = cond (is_same_seat seat s) (other s) (one s)

here : (seat : Seat) (one other : Cards) → with_of seat one other seat ≡ other seat
unfolding with_of
here seat one other = ap (λ b. cond b (other seat) (one seat)) (is_same_seat_self seat)

elsewhere : (seat : Seat) (one other : Cards) → OthersSame seat one (with_of seat one other)
unfolding with_of
elsewhere seat one other s apart = go (is_same_seat seat s) refl
  where
    go : (b : Bool) → is_same_seat seat s ≡ b → one s ≡ cond b (other s) (one s)
    go true e = absurd (apart (sym (same_from_is_same seat s e)))
    go false e = refl

have_with : (shape : Shape) (seat : Seat) (one other : Cards) → Have shape one → Have shape other → Have shape (with_of seat one other)
unfolding with_of
have_with shape seat one other have have' s = go (is_same_seat seat s)
  where
    go : (b : Bool) → HasCard shape s (cond b (other s) (one s))
    go true = have' s
    go false = have s

left_with : (shape : Shape) (seat : Seat) (one other : Cards) → Have shape one → Have shape other → AlikeAt shape one other seat → (suit : Suit) →
    left_from (keeps one suit) 0 (suit_of shape suit).owners ≡ left_from (keeps (with_of seat one other) suit) 0 (suit_of shape suit).owners
left_with shape seat one other have have' (inl same) suit =
    left_from-same (keeps one suit) (keeps (with_of seat one other) suit) 0 (suit_of shape suit).owners
    (λ n less. kept_alike one (with_of seat one other) suit (0 + n) (λ s. ap (is_top suit (0 + n)) (elim (dec_seat s seat) [
      | inl e ↦ ap one e ∙ (same ∙ (sym (here seat one other) ∙ ap (with_of seat one other) (sym e)))
      | inr apart ↦ elsewhere seat one other s apart
    ])))
left_with shape seat one other have have' (inr run) suit =
    one_higher shape one (with_of seat one other) seat have (have_with shape seat one other have have') (elsewhere seat one other)
    (subst (λ (card : PatCard). IsLowerInRun shape seat (one seat) card) (sym (here seat one other)) run) suit

all_left : (shape : Shape) (one other : Cards) → Have shape one → Have shape other → ((seat : Seat) → AlikeAt shape one other seat) → (suit : Suit) →
    left_from (keeps one suit) 0 (suit_of shape suit).owners ≡ left_from (keeps other suit) 0 (suit_of shape suit).owners
unfolding with_of
all_left shape one other have have' alike suit =
    let n = with_of North one other in
    let e = with_of East n other in
    let s = with_of South e other in
    let w = with_of West s other in
    let have_n = have_with shape North one other have have' in
    let have_e = have_with shape East n other have_n have' in
    let have_s = have_with shape South e other have_e have' in
    left_with shape North one other have have' (alike North) suit
    ∙ (left_with shape East n other have_n have' (alike East) suit
    ∙ (left_with shape South e other have_e have' (alike South) suit
    ∙ (left_with shape West s other have_s have' (alike West) suit
    ∙ left_from-same (keeps w suit) (keeps other suit) 0 (suit_of shape suit).owners (λ i less. kept_alike w other suit (0 + i) (four w other refl refl refl refl (is_top suit (0 + i)))))))
  where
    four : (one other : Cards) → one North ≡ other North → one East ≡ other East → one South ≡ other South → one West ≡ other West → (test : PatCard → Bool) → (seat : Seat) → test (one seat) ≡ test (other seat)
    four one other n e s w test North = ap test n
    four one other n e s w test East = ap test e
    four one other n e s w test South = ap test s
    four one other n e s w test West = ap test w

-- ---- who may win
-- a card that was played was played by a seat
some_seat : (leader : Seat) (cards : List PatCard) (card : PatCard) → length cards ≡ 4 → Contains cards card → (seat : Seat) × (played_by leader cards seat ≡ card)
some_seat leader cards card four (k, less, is) = (
  seat_in_place leader k,
  ap (played_in_place cards) (place_of-seat_in_place leader k (omega (arith, four, less))) ∙ (get_or_default cards k (Top Spades 0) card less ∙ is),
)

by_seat : (leader : Seat) (cards : List PatCard) (card : PatCard) (seat : Seat) → length cards ≡ 4 → played_by leader cards seat ≡ card → Contains cards card
by_seat leader cards card seat four is = subst (Contains cards) is (Contains-get_or cards (place_of leader seat) (Top Spades 0) (omega (arith, place_of-lt leader seat, four)))

-- cards that are alike are of one suit
same_suit : (shape : Shape) (one other : Cards) (seat : Seat) → AlikeAt shape one other seat → (suit : Suit) → is_of_suit suit (one seat) ≡ is_of_suit suit (other seat)
same_suit shape one other seat (inl same) suit = ap (is_of_suit suit) same
same_suit shape one other seat (inr run) suit = ap (is_of_suit suit) run.is_last ∙ sym (ap (is_of_suit suit) run.is_first)

-- two lists, seat by seat
record AreAlike (shape : Shape) (leader : Seat) (cards higher : List PatCard) : Type 0 where
  four : length cards ≡ 4
  four' : length higher ≡ 4
  have : Have shape (played_by leader cards)
  have' : Have shape (played_by leader higher)
  alike : (seat : Seat) → AlikeAt shape (played_by leader cards) (played_by leader higher) seat

-- the same suit decides
same_decides : (shape : Shape) (trump : Trump) (leader : Seat) (cards higher : List PatCard) → AreAlike shape leader cards higher → IsAlikeIn shape leader cards higher 0 → winning_suit trump cards ≡ winning_suit trump higher
same_decides shape of leader cards higher are first = by_trump of
  where
    lead : suit_of_lead cards ≡ suit_of_lead higher
    lead = elim first [ inl same ↦ ap suit_of_card same | inr run ↦ ap suit_of_card run.is_last ∙ sym (ap suit_of_card run.is_first) ]

    by_trump : (trump : Trump) → winning_suit trump cards ≡ winning_suit trump higher
    by_trump trump.Nt = lead
    by_trump (trump.Suit suit) =
        let any : list_any (is_of_suit suit) cards ≡ list_any (is_of_suit suit) higher =
        any_card leader cards (is_of_suit suit) are.four
        ∙ (any_alike (λ s. is_of_suit suit (played_by leader cards s)) (λ s. is_of_suit suit (played_by leader higher s)) (λ s. same_suit shape (played_by leader cards) (played_by leader higher) s (are.alike s) suit)
        ∙ sym (any_card leader higher (is_of_suit suit) are.four')) in
        ap (λ b. cond b suit (suit_of_lead cards)) any ∙ ap (λ of. cond (list_any (is_of_suit suit) higher) suit of) lead

-- a seat that played a top plays one of the suit that is no lower, and its own
record TopAfter (shape : Shape) (higher : Cards) (suit : Suit) (seat : Seat) (place : ℕ) : Type 0 where
  after : ℕ
  plays : higher seat ≡ Top suit after
  no_lower : after ≤ place
  owner : slice_get (suit_of shape suit).owners after ≡ Some seat

top_after : (shape : Shape) (one other : Cards) (suit : Suit) (seat : Seat) (place : ℕ) → Have shape one → AlikeAt shape one other seat → one seat ≡ Top suit place → TopAfter shape other suit seat place
top_after shape one other suit seat place have (inl same) plays =
    record { after = place; plays = sym same ∙ plays; no_lower = omega arith; owner = subst (HasCard shape seat) plays (have seat) }
top_after shape one other suit seat place have (inr run) plays =
    let same = same_tops run.suit suit run.last place (sym run.is_last ∙ plays) in
    record {
      after = run.first;
      plays = run.is_first ∙ ap (λ (s : Suit). Top s run.first) same.0;
      no_lower = omega (arith, run.below, same.1);
      owner = subst (λ (s : Suit). slice_get (suit_of shape s).owners run.first ≡ Some seat) same.0 (run.owned run.first (omega arith) (omega (arith, run.below)));
    }

-- a top that is played in place of another comes of one that is no higher, and the owners between are the seat
record TopBefore (shape : Shape) (one : Cards) (suit : Suit) (seat : Seat) (place : ℕ) : Type 0 where
  before : ℕ
  played : one seat ≡ Top suit before
  no_higher : place ≤ before
  owned : (n : ℕ) → place ≤ n → n ≤ before → slice_get (suit_of shape suit).owners n ≡ Some seat

top_before : (shape : Shape) (one other : Cards) (suit : Suit) (seat : Seat) (place : ℕ) → Have shape other → AlikeAt shape one other seat → other seat ≡ Top suit place → TopBefore shape one suit seat place
top_before shape one other suit seat place have (inl same) plays = record {
  before = place;
  played = same ∙ plays;
  no_higher = omega arith;
  owned = λ n more less. let e : place ≡ n = omega arith in subst (λ (m : ℕ). slice_get (suit_of shape suit).owners m ≡ Some seat) e (subst (HasCard shape seat) plays (have seat));
}
top_before shape one other suit seat place have (inr run) plays =
    let same = same_tops run.suit suit run.first place (sym run.is_first ∙ plays) in
    record {
      before = run.last;
      played = run.is_last ∙ ap (λ (s : Suit). Top s run.last) same.0;
      no_higher = omega (arith, run.below, same.1);
      owned = λ n more less. subst (λ (s : Suit). slice_get (suit_of shape s).owners n ≡ Some seat) same.0 (run.owned n (omega (arith, same.1)) less);
    }

-- who may win by a top, and by a low card
wins_by_top : (shape : Shape) (leader : Seat) (cards higher : List PatCard) (suit : Suit) (seat : Seat) → AreAlike shape leader cards higher → OwnsHighest shape cards suit seat → OwnsHighest shape higher suit seat
wins_by_top shape leader cards higher suit seat are owns =
    let one = played_by leader cards in
    let other = played_by leader higher in
    let played = some_seat leader cards (Top suit owns.place) are.four owns.played in
    let is : seat ≡ played.0 = sym (owner_plays shape one suit owns.place seat played.0 are.have owns.owner played.1) in
    let mine : one seat ≡ Top suit owns.place = ap one is ∙ played.1 in
    let top = top_after shape one other suit seat owns.place are.have (are.alike seat) mine in
    record {
      place = top.after;
      played = by_seat leader higher (Top suit top.after) seat are.four' top.plays;
      least = λ n there.
          let rival = some_seat leader higher (Top suit n) are.four' there in
          let was = top_before shape one other suit rival.0 n are.have' (are.alike rival.0) rival.1 in
          let no_lower = owns.least was.before (by_seat leader cards (Top suit was.before) rival.0 are.four was.played) in
          elim (cases_lt n top.after) [
            | inl less ↦ (let same : seat ≡ rival.0 = owner_plays shape other suit top.after rival.0 seat are.have' (was.owned top.after (omega arith) (omega (arith, top.no_lower, no_lower))) top.plays in
                let twice = same_tops suit suit top.after n (sym top.plays ∙ (ap other same ∙ rival.1)) in
                absurd (omega (arith, twice.1, less)))
            | inr more ↦ more
          ];
      owner = top.owner;
    }

wins_by_low : (shape : Shape) (leader : Seat) (cards higher : List PatCard) (suit : Suit) (seat : Seat) → AreAlike shape leader cards higher → PlayedLow leader cards suit seat → PlayedLow leader higher suit seat
wins_by_low shape leader cards higher suit seat are low = record {
  no_top = λ n there.
      let rival = some_seat leader higher (Top suit n) are.four' there in
      let was = top_before shape (played_by leader cards) (played_by leader higher) suit rival.0 n are.have' (are.alike rival.0) rival.1 in
      low.no_top was.before (by_seat leader cards (Top suit was.before) rival.0 are.four was.played);
  low = elim (are.alike seat) [
    | inl same ↦ sym same ∙ low.low
    | inr run ↦ (let both : Low suit ≡ Top run.suit run.last = sym low.low ∙ run.is_last in cc)
  ];
}

-- ---- the law
alike_seats : (shape : Shape) (leader : Seat) (cards higher : List PatCard) → length cards ≡ 4 → length higher ≡ 4 → AreLegalInTurn shape leader cards → AreLegalInTurn shape leader higher →
    ((place : ℕ) → place < 4 → IsAlikeIn shape leader cards higher place) → AreAlike shape leader cards higher
alike_seats shape leader cards higher four four' legal legal' alike = record {
  four = four;
  four' = four';
  have = played_is_held shape leader cards legal;
  have' = played_is_held shape leader higher legal';
  alike = λ seat. elim (alike (place_of leader seat) (place_of-lt leader seat)) [
    | inl same ↦ inl same
    | inr run ↦ inr (subst (λ s. IsLowerInRun shape s (played_by leader cards seat) (played_by leader higher seat)) (seat_in_place-place_of leader seat) run)
  ];
}

owners_alike : (shape : Shape) (leader : Seat) (cards higher : List PatCard) → AreAlike shape leader cards higher → (suit : Suit) → owners_left cards suit (suit_of shape suit).owners ≡ owners_left higher suit (suit_of shape suit).owners
owners_alike shape leader cards higher are suit =
    let owners = (suit_of shape suit).owners in
    let seen : (cards : List PatCard) → length cards ≡ 4 → owners_left cards suit owners ≡ left_from (keeps (played_by leader cards) suit) 0 owners =
    λ cards four. owners_left-is cards suit owners ∙ left_from-same (kept cards suit) (keeps (played_by leader cards) suit) 0 owners (λ n less. kept-is leader cards suit (0 + n) four) in
    seen cards are.four ∙ (all_left shape (played_by leader cards) (played_by leader higher) are.have are.have' are.alike suit ∙ sym (seen higher are.four'))

pub lines_alike : LinesAreAlike
lines_alike shape trump leader cards higher four four' legal legal' alike = (
  λ seat wins. elim wins [
    | inl owns ↦ inl (subst (λ suit. OwnsHighest shape higher suit seat) decides (wins_by_top shape leader cards higher (winning_suit trump cards) seat are owns))
    | inr low ↦ inr (subst (λ suit. PlayedLow leader higher suit seat) decides (wins_by_low shape leader cards higher (winning_suit trump cards) seat are low))
  ],
  λ left is_left suit. record {
    four_seats = (is_left suit).four_seats;
    lens = λ seat. (is_left suit).lens seat ∙ ap (λ b. cond b (len_of (suit_of shape suit) seat - 1) (len_of (suit_of shape suit) seat)) (sym (same_suit shape (played_by leader cards) (played_by leader higher) seat (are.alike seat) suit));
    owners = (is_left suit).owners ∙ sym (owners_alike shape leader cards higher are suit);
  },
)
  where
    are : AreAlike shape leader cards higher
    are = alike_seats shape leader cards higher four four' legal legal' alike

    decides : winning_suit trump cards ≡ winning_suit trump higher
    decides = same_decides shape trump leader cards higher are (alike 0 (omega arith))
