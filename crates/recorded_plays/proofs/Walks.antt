-- A play on its way.
use Rattle.std.proofs.Common.{◌≡◌, ℕ, zero, suc, ltb, ◌+◌, ◌-◌, ◌%◌, ◌*◌, ◌/◌, ◌<◌, Bool, true, false, cond, List, [], ◌∷◌, ◌++◌, length, get_or, slice_index_or, take, Option, None, Some, Err, refl, sym, ◌∙◌, ap, subst, arith}
use Rattle.std.specs.List.{slice_get, slice_set}
use Rattle.std.proofs.lemmas.List.{length_push, take-append-le, take_at}
use Rattle.arrayvec.specs.ArrayVec.{ArrayVec}
use Rattle.std.specs.Borrow.{Bor}
use Rattle.std.specs.Slice.{IsItemAt}
use Rattle.std.proofs.lemmas.Option.{slice_get_read, slice_get_within}
use Rattle.std.proofs.lemmas.Bool.{ltb-true, ltb-false}
use Rattle.cards.specs.declared.suits.Suit.{Suit}
use Rattle.cards.specs.declared.suits.Trump.{Trump}
use Rattle.cards.specs.declared.seats.Seat.{Seat}
use Rattle.cards.specs.declared.pack.Card.{Card}
use Rattle.cards.specs.Pack.{card_number}
use Rattle.cards.specs.Seats.{next_of, place_of, seat_number}
use Rattle.cards.specs.Deal.{Deal, holder_of}
use Rattle.play_rules.specs.declared.faults.PlayFault.{PlayFault}
use Rattle.play_rules.specs.declared.faults.PlayFault.TheVariants.{NotHeld, MustFollow, Over}
use Rattle.play_rules.specs.History.{Opening, trick_of, suit_led}
use Rattle.play_rules.specs.Left.{left_of, without}
use Rattle.play_rules.specs.Legal.{StillHolds, CanFollow, IsUnfinished, seat_to_play, cards_in_play, IsLegalHistory}
use Rattle.play_rules.specs.Position.{Position, IsReached, turn_of, with_card}
use Rattle.play_rules.specs.Plays.{FailsToFollow, PlaysOrRefuses}
use Rattle.play_rules.proofs.LeftLaws.{still_held, left_when_held, left_of-push}
use Rattle.recorded_plays.specs.declared.follow.Walk.{Walk}
use Rattle.recorded_plays.specs.declared.plays.Slot.{Slot}
use Rattle.recorded_plays.specs.declared.plays.Slot.TheVariants.{Played}
use Rattle.recorded_plays.specs.declared.plays.IllegalReason.TheVariants as reason
use Rattle.recorded_plays.specs.Follow.{IsRefused, slot_to_play, AreGiven, IsEnd, IsRead}
use Rattle.recorded_plays.specs.Slots.{slots_of, is_irregular}
use Rattle.recorded_plays.specs.declared.plays.PlayEnd.{PlayEnd}
use Rattle.recorded_plays.specs.Values.{IsWalk, Plays, Stops}

-- ---- before the first card
pub none_played : (deal : Deal) (opening : Opening) (cards : List Card) (left : Deal) → left ≡ deal → opening.deal ≡ deal → cards ≡ [] → left ≡ left_of opening.deal cards
unfolding left_of
none_played deal opening cards left e is none = e ∙ (sym is ∙ ap (left_of opening.deal) (sym none))

-- ---- refusals
-- the card that was led to the trick in progress
pub lead_of : (history : List Card) (led : Suit) (d : Card) → suit_led history ≡ Some led → (length history / 4 * 4 < length history) × ((get_or history (length history / 4 * 4) d).suit ≡ led)
unfolding trick_of
lead_of [] led d h = absurd (cc)
lead_of (a ∷ []) led d h = (omega arith, cc)
lead_of (a ∷ b ∷ []) led d h = (omega arith, cc)
lead_of (a ∷ b ∷ c ∷ []) led d h = (omega arith, cc)
lead_of (a ∷ b ∷ c ∷ e ∷ rest) led d h =
    let (within, same) = lead_of rest led d h in
    let n = length rest in
    let place : suc (suc (suc (suc n))) / 4 * 4 ≡ suc (suc (suc (suc (n / 4 * 4)))) = omega arith in
    (omega (arith, within, place), subst (λ p. (get_or (a ∷ b ∷ c ∷ e ∷ rest) p d).suit ≡ led) (sym place) same)

holds_suit : (opening : Opening) (history : List Card) (card d : Card) → FailsToFollow (record { opening = opening; history = history }) card → (length history / 4 * 4 < length history) × IsRefused opening history card (reason.HoldsSuit (get_or history (length history / 4 * 4) d).suit)
holds_suit opening history card d f =
    let (within, same) = lead_of history f.led d f.is_led in (
      within,
      (
        f.held,
        subst (λ s. suit_led history ≡ Some s) (sym same) f.is_led,
        subst (λ s. CanFollow opening history s) (sym same) f.can_follow,
        λ e. f.other_suit (e ∙ same),
      ),
    )

lacks : (position : Position) (card : Card) (fault : PlayFault) → IsUnfinished position.opening position.history → (fault ≡ MustFollow → ⊥) → PlaysOrRefuses position card (Err fault) → StillHolds position.opening.deal position.history (seat_to_play position.opening position.history) card → ⊥
lacks position card Over more other h held = omega (arith, more, h)
lacks position card NotHeld more other h held = h.1 held
lacks position card MustFollow more other h held = other refl

module _ (walk : Walk) (card : Card) (fault : PlayFault) (w : IsWalk walk) (refused : PlaysOrRefuses walk.table card (Err fault)) where
  abbrev cards : List Card
  cards = walk.cards.items

  pub is_revoke : fault ≡ MustFollow → (d : Card) → (length cards / 4 * 4 < length cards) × IsRefused walk.table.opening cards card (reason.HoldsSuit (get_or cards (length cards / 4 * 4) d).suit)
  is_revoke is d =
      let f = (subst (λ f. PlaysOrRefuses walk.table card (Err f)) is refused).1 in
      holds_suit walk.table.opening cards card d (subst (λ h. FailsToFollow (record { opening = walk.table.opening; history = h }) card) w.history f)

  module _ (more : IsUnfinished walk.table.opening cards) (other : fault ≡ MustFollow → ⊥) (n : ℕ) (place : n ≡ card_number card) where
    lacks_here : StillHolds walk.table.opening.deal cards (seat_to_play walk.table.opening cards) card → ⊥
    lacks_here =
        subst (λ h. StillHolds walk.table.opening.deal h (seat_to_play walk.table.opening h) card → ⊥) w.history
        (lacks walk.table card fault (subst (λ h. IsUnfinished walk.table.opening h) (sym w.history) more) other refused)

    left_here : slice_index_or walk.left n None ≡ holder_of (left_of walk.table.opening.deal cards) card
    left_here = ap (λ m. slice_index_or walk.left m None) place ∙ ap (λ (l : Deal). slice_index_or l (card_number card) None) w.left

    pub is_out_of_turn : (holder : Seat) → slice_index_or walk.left n None ≡ Some holder → IsRefused walk.table.opening cards card (reason.OutOfTurn holder)
    is_out_of_turn holder is =
        let held = still_held walk.table.opening.deal cards holder card (sym left_here ∙ is) in
        (held, λ e. lacks_here (subst (λ s. StillHolds walk.table.opening.deal cards s card) (sym e) held))

    pub is_not_held : slice_index_or walk.left n None ≡ None → IsRefused walk.table.opening cards card reason.NotHeld
    is_not_held is seat held =
        let some : None ≡ Some seat = sym is ∙ (left_here ∙ left_when_held walk.table.opening.deal cards seat card held) in cc

-- ---- turns
pub turn_is : (position : Position) (seat : Seat) → Some seat ≡ turn_of position → IsUnfinished position.opening position.history × (seat_to_play position.opening position.history ≡ seat)
turn_is position seat is = go (ltb (length position.history) (cards_in_play position.opening)) refl is where
  go : (b : Bool) → ltb (length position.history) (cards_in_play position.opening) ≡ b → Some seat ≡ cond b (Some (seat_to_play position.opening position.history)) None → IsUnfinished position.opening position.history × (seat_to_play position.opening position.history ≡ seat)
  go true less is = (ltb-true _ _ less, cc)
  go false less is = absurd (cc)

-- the table's history is that of the cards
module _ (walk : Walk) (w : IsWalk walk) (seat : Seat) (is : Some seat ≡ turn_of walk.table) where
  pub unfinished : IsUnfinished walk.table.opening walk.cards.items
  unfinished = subst (λ h. IsUnfinished walk.table.opening h) w.history (turn_is walk.table seat is).0

  pub its_turn : seat ≡ seat_to_play walk.table.opening walk.cards.items
  its_turn = subst (λ h. seat ≡ seat_to_play walk.table.opening h) w.history (sym (turn_is walk.table seat is).1)

  pub slot_is : (first : Seat) (slots : List Slot) → slice_get slots (4 * (length walk.cards.items / 4) + place_of first seat) ≡ slot_to_play walk.table.opening first slots walk.cards.items
  slot_is first slots = ap (λ s. slice_get slots (4 * (length walk.cards.items / 4) + place_of first s)) its_turn

  module _ (first : Seat) (slots : List Slot) (count one two : ℕ) (length_is : count ≡ length walk.cards.items) (one_is : one ≡ seat_number seat) (two_is : two ≡ seat_number first) where
    abbrev found_place : ℕ
    found_place = 4 * (count / 4) + (one + 4 - two) % 4

    same_place : found_place ≡ 4 * (length walk.cards.items / 4) + place_of first seat
    same_place =
        ap (λ n. 4 * (n / 4) + (one + 4 - two) % 4) length_is
        ∙ (ap (λ n. 4 * (length walk.cards.items / 4) + (n + 4 - two) % 4) one_is
        ∙ ap (λ n. 4 * (length walk.cards.items / 4) + (seat_number seat + 4 - n) % 4) two_is)

    pub slot_found : (card : Card) (found : Option (Bor Slot)) (slot : Bor Slot) → IsItemAt slots found_place found → found ≡ Some slot → slot.now ≡ Played card → slot_to_play walk.table.opening first slots walk.cards.items ≡ Some (Played card)
    slot_found card found slot item is card_is =
        let its = subst (λ f. IsItemAt slots found_place f) is item in
        let read = slice_get_read slots (length slots) found_place slot.now refl its.3.0 its.1 in
        sym (slot_is first slots) ∙ (ap (slice_get slots) (sym same_place) ∙ (read ∙ ap Some card_is))

pub legal_so_far : (walk : Walk) → IsWalk walk → IsReached walk.table → IsLegalHistory walk.table.opening walk.cards.items
legal_so_far walk w reached = subst (λ h. IsLegalHistory walk.table.opening h) w.history reached.legal

-- there is room for a card more
pub some_room : (walk : Walk) → IsWalk walk → IsReached walk.table → IsUnfinished walk.table.opening walk.cards.items → length walk.cards.items < 52
some_room walk w reached more = omega (arith, reached.layout.at_most_13, more)

-- a card more
pub one_more : (walk : Walk) → IsWalk walk → IsUnfinished walk.table.opening walk.cards.items → (table : Position) (cards : ArrayVec Card) (card : Card) (left : Deal) (n : ℕ) → table ≡ with_card walk.table card → cards.items ≡ walk.cards.items ++ card ∷ [] → n ≡ card_number card → left ≡ slice_set walk.left n None → (first : Seat) (slots : List Slot) → slot_to_play walk.table.opening first slots walk.cards.items ≡ Some (Played card) → Plays first slots walk (record { table = table; cards = cards; left = left })
unfolding without
one_more walk w more table cards card left n table_is cards_is place left_is first slots slot = record {
  walk = record {
    history = ap (λ (t : Position). t.history) table_is ∙ (ap (λ h. h ++ card ∷ []) w.history ∙ sym cards_is);
    left =
        left_is ∙ (ap (λ m. slice_set walk.left m None) place ∙ (ap (λ (l : Deal). slice_set l (card_number card) None) w.left
        ∙ (sym (left_of-push walk.table.opening.deal walk.cards.items card)
        ∙ (ap (λ (o : Opening). left_of o.deal (walk.cards.items ++ card ∷ [])) (sym (ap (λ (t : Position). t.opening) table_is))
        ∙ ap (left_of table.opening.deal) (sym cards_is)))));
  };
  opening = ap (λ (t : Position). t.opening) table_is;
  card = card;
  cards = cards_is;
  slot = slot;
  within = omega (arith, more, ap length cards_is, length_push walk.cards.items card);
}

-- ---- all the cards of a section
pub get_front : {X : Type 0} (xs ys : List X) (n : ℕ) → n < length xs → slice_get (xs ++ ys) n ≡ slice_get xs n
get_front [] ys n h = absurd (omega (arith, h))
get_front (x ∷ xs) ys zero h = refl
get_front (x ∷ xs) ys (suc n) h = get_front xs ys n (omega (arith, h))

get_seam : {X : Type 0} (xs : List X) (y : X) → slice_get (xs ++ y ∷ []) (length xs) ≡ Some y
get_seam [] y = refl
get_seam (x ∷ xs) y = get_seam xs y

given_more : (opening : Opening) (first : Seat) (slots : List Slot) (cards : List Card) (card : Card) → AreGiven opening first slots cards → slot_to_play opening first slots cards ≡ Some (Played card) → AreGiven opening first slots (cards ++ card ∷ [])
given_more opening first slots cards card given slot count other is = go (ltb count (length cards)) refl where
  within : count < length cards + 1
  within = omega (arith, slice_get_within (cards ++ card ∷ []) count other is, length_push cards card)

  go : (b : Bool) → ltb count (length cards) ≡ b → slot_to_play opening first slots (take count (cards ++ card ∷ [])) ≡ Some (Played other)
  go true less =
      let below = ltb-true count (length cards) less in
      ap (slot_to_play opening first slots) (take-append-le count cards (card ∷ []) (omega (arith, below)))
      ∙ given count other (sym (get_front cards (card ∷ []) count below) ∙ is)
  go false more =
      let last : count ≡ length cards = omega (arith, within, ltb-false count (length cards) more) in
      let same : Some card ≡ Some other = sym (get_seam cards card) ∙ (ap (slice_get (cards ++ card ∷ [])) (sym last) ∙ is) in
      ap (slot_to_play opening first slots) (take_at cards (card ∷ []) count (sym last)) ∙ (slot ∙ ap (λ (c : Card). Some (Played c)) (let e : card ≡ other = cc in e))

none_given : (opening : Opening) (first : Seat) (slots : List Slot) (cards : List Card) → cards ≡ [] → AreGiven opening first slots cards
none_given opening first slots cards none count card is =
    absurd (let some : None ≡ Some card = ap (λ l. slice_get l count) (sym none) ∙ is in cc)

-- the play of the deal by this declarer
abbrev begun : Deal → Seat → Trump → Opening
begun deal declarer trump = record { deal = deal; leader = next_of declarer; trump = trump }

pub record IsOnItsWay (first : Seat) (slots : List Slot) (deal : Deal) (declarer : Seat) (trump : Trump) (walk : Walk) : Type 0 where
  pub walk_is : IsWalk walk
  pub opening : walk.table.opening ≡ record { deal = deal; leader = next_of declarer; trump = trump }
  pub given : AreGiven walk.table.opening first slots walk.cards.items

module _ (first : Seat) (slots : List Slot) (deal : Deal) (declarer : Seat) (trump : Trump) where
  pub begins : (walk : Walk) → IsWalk walk → walk.table.opening ≡ begun deal declarer trump → walk.cards.items ≡ [] → IsOnItsWay first slots deal declarer trump walk
  begins walk w opening none = record {
    walk_is = w;
    opening = opening;
    given = none_given walk.table.opening first slots walk.cards.items none;
  }

  pub goes_on : (walk next : Walk) → IsOnItsWay first slots deal declarer trump walk → Plays first slots walk next → IsOnItsWay first slots deal declarer trump next
  goes_on walk next s p = record {
    walk_is = p.walk;
    opening = p.opening ∙ s.opening;
    given =
        subst (λ o. AreGiven o first slots next.cards.items) (sym p.opening)
        (subst (λ l. AreGiven walk.table.opening first slots l) (sym p.cards)
        (given_more walk.table.opening first slots walk.cards.items p.card s.given p.slot));
  }

  pub ends_so : (irregular : Bool) (text : List ℕ) (end : PlayEnd) (walk last : Walk) → IsOnItsWay first slots deal declarer trump walk → Stops first slots irregular end walk last → slots ≡ slots_of text → irregular ≡ is_irregular text → IsRead first text (record { deal = deal; declarer = declarer; trump = trump; cards = last.cards; end = end })
  ends_so irregular text end walk last s stop slots_are irregular_is = record {
    legal = subst (λ l. IsLegalHistory (begun deal declarer trump) l) (sym stop.cards) (subst (λ o. IsLegalHistory o walk.cards.items) s.opening stop.legal);
    given =
        subst (λ g. AreGiven (begun deal declarer trump) first g last.cards.items) slots_are
        (subst (λ l. AreGiven (begun deal declarer trump) first slots l) (sym stop.cards)
        (subst (λ o. AreGiven o first slots walk.cards.items) s.opening s.given));
    ends =
        subst (λ i. IsEnd (begun deal declarer trump) last.cards.items (slot_to_play (begun deal declarer trump) first (slots_of text) last.cards.items) i end) irregular_is
        (subst (λ g. IsEnd (begun deal declarer trump) last.cards.items (slot_to_play (begun deal declarer trump) first g last.cards.items) irregular end) slots_are
        (subst (λ l. IsEnd (begun deal declarer trump) l (slot_to_play (begun deal declarer trump) first slots l) irregular end) (sym stop.cards)
        (subst (λ o. IsEnd o walk.cards.items (slot_to_play o first slots walk.cards.items) irregular end) s.opening stop.ends)));
  }

pub nearer : (first : Seat) (slots : List Slot) (walk next : Walk) → Plays first slots walk next → cards_in_play next.table.opening - length next.cards.items < cards_in_play walk.table.opening - length walk.cards.items
nearer first slots walk next p =
    omega (arith, p.within, ap length p.cards, length_push walk.cards.items p.card, ap cards_in_play p.opening)
