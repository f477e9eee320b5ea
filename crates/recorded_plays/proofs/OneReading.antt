-- A section has one play.
use Rattle.std.proofs.Common.{◌≡◌, ℕ, zero, suc, ltb, ◌+◌, ◌<◌, ◌≤◌, Bool, true, false, List, [], ◌∷◌, ◌++◌, length, get_or, take, Option, None, Some, refl, sym, ◌∙◌, ap, subst, append_assoc, append-nil, arith}
use Rattle.std.specs.List.{slice_get}
use Rattle.std.proofs.lemmas.Bool.{ltb-true, ltb-false}
use Rattle.std.proofs.lemmas.List.{take_all, take_more}
use Rattle.std.proofs.lemmas.Option.{slice_get-get_or}
use Rattle.cards.specs.declared.seats.Seat.{Seat}
use Rattle.cards.specs.declared.suits.Suit.TheVariants.{Spades}
use Rattle.cards.specs.declared.pack.Rank.TheVariants.{Two}
use Rattle.cards.specs.declared.pack.Card.{Card}
use Rattle.cards.specs.Pack.{card_of}
use Rattle.play_rules.specs.History.{Opening}
use Rattle.play_rules.specs.Legal.{CanPlay, IsLegalAfter, IsLegalHistory, seat_to_play, cards_in_play}
use Rattle.recorded_plays.specs.declared.plays.Slot.{Slot}
use Rattle.recorded_plays.specs.declared.plays.Slot.TheVariants.{Played, Unknown, Unread}
use Rattle.recorded_plays.specs.declared.plays.IllegalReason.{IllegalReason}
use Rattle.recorded_plays.specs.declared.plays.IllegalReason.TheVariants as reason
use Rattle.recorded_plays.specs.declared.plays.PlayEnd.{PlayEnd}
use Rattle.recorded_plays.specs.declared.plays.PlayEnd.TheVariants as ends
use Rattle.recorded_plays.specs.declared.plays.RecordedPlay.{RecordedPlay}
use Rattle.recorded_plays.specs.Slots.{slots_of, is_irregular}
use Rattle.recorded_plays.specs.Follow.{slot_to_play, AreGiven, IsRefused, IsEnd, opening_of, IsRead}
use Rattle.recorded_plays.specs.Laws.{OneReading}
use Rattle.recorded_plays.proofs.OneEnd.{one_end}

abbrev no_card : Card
no_card = card_of Spades Two

-- each card of a legal history may be played after those before it
legal_at : (opening : Opening) (history cards : List Card) (count : ℕ) (card : Card) → IsLegalAfter opening history cards → slice_get cards count ≡ Some card → CanPlay opening (history ++ take count cards) card
legal_at opening history [] count card legal is = absurd (cc)
legal_at opening history (one ∷ cards) zero card legal is =
    subst (λ h. CanPlay opening h card) (sym (append-nil history)) (subst (λ c. CanPlay opening history c) (let e : one ≡ card = cc in e) legal.0)
legal_at opening history (one ∷ cards) (suc count) card legal is =
    subst (λ h. CanPlay opening h card) (append_assoc history (one ∷ []) (take count cards)) (legal_at opening (history ++ one ∷ []) cards count card legal.1 is)

-- a card that may be played is refused for no reason
not_refused : (opening : Opening) (history : List Card) (card : Card) (why : IllegalReason) → CanPlay opening history card → IsRefused opening history card why → ⊥
not_refused opening history card reason.NotHeld can no_seat = no_seat (seat_to_play opening history) can.held
not_refused opening history card (reason.OutOfTurn seat) can (held, other) =
    other (let same : Some (seat_to_play opening history) ≡ Some seat = sym can.held.dealt ∙ held.dealt in cc)
not_refused opening history card (reason.HoldsSuit suit) can (held, led, can_follow, other) = other (can.follows suit led can_follow)

-- after the end no card follows
no_more : (opening : Opening) (history : List Card) (slot : Option Slot) (irregular : Bool) (end : PlayEnd) (card : Card) → IsEnd opening history slot irregular end → slot ≡ Some (Played card) → CanPlay opening history card → length history < cards_in_play opening → ⊥
no_more opening history slot irregular ends.Whole card h is can less = omega (arith, h, less)
no_more opening history slot irregular ends.Early card h is can less = let no : None ≡ Some (Played card) = sym h.1 ∙ is in cc
no_more opening history slot irregular ends.Irregular card h is can less = let no : None ≡ Some (Played card) = sym h.1 ∙ is in cc
no_more opening history slot irregular ends.Unknown card h is can less = let no : Some Unknown ≡ Some (Played card) = sym h.1 ∙ is in cc
no_more opening history slot irregular ends.Unread card h is can less = let no : Some Unread ≡ Some (Played card) = sym h.1 ∙ is in cc
no_more opening history slot irregular (ends.Illegal illegal) card h is can less =
    let same : Some (Played illegal.card) ≡ Some (Played card) = sym h.1 ∙ is in
    not_refused opening history illegal.card illegal.reason (subst (λ c. CanPlay opening history c) (let e : card ≡ illegal.card = cc in e) can) h.2.reason

end_within : (opening : Opening) (history : List Card) (slot : Option Slot) (irregular : Bool) (end : PlayEnd) → IsEnd opening history slot irregular end → length history ≤ cards_in_play opening
end_within opening history slot irregular ends.Whole h = omega (arith, h)
end_within opening history slot irregular ends.Early h = omega (arith, h.0)
end_within opening history slot irregular ends.Irregular h = omega (arith, h.0)
end_within opening history slot irregular ends.Unknown h = omega (arith, h.0)
end_within opening history slot irregular ends.Unread h = omega (arith, h.0)
end_within opening history slot irregular (ends.Illegal illegal) h = omega (arith, h.0)

module _ (opening : Opening) (first : Seat) (slots : List Slot) where
  agree : (xs ys : List Card) → AreGiven opening first slots xs → AreGiven opening first slots ys → (n : ℕ) → n ≤ length xs → n ≤ length ys → take n xs ≡ take n ys
  agree xs ys given given' zero h h' = refl
  agree xs ys given given' (suc n) h h' =
      let within : n < length xs = omega (arith, h) in
      let within' : n < length ys = omega (arith, h') in
      let so_far = agree xs ys given given' n (omega (arith, h)) (omega (arith, h')) in
      let one = given n (get_or xs n no_card) (slice_get-get_or xs n no_card within) in
      let other = given' n (get_or ys n no_card) (slice_get-get_or ys n no_card within') in
      let same : Some (Played (get_or xs n no_card)) ≡ Some (Played (get_or ys n no_card)) = sym one ∙ (ap (slot_to_play opening first slots) so_far ∙ other) in
      let card : get_or xs n no_card ≡ get_or ys n no_card = cc in
      let more : suc n ≡ n + 1 = omega arith in
      ap (λ k. take k xs) more ∙ (take_more xs n no_card within
      ∙ (ap (λ l. l ++ get_or xs n no_card ∷ []) so_far ∙ (ap (λ c. take n ys ++ c ∷ []) card
      ∙ (sym (take_more ys n no_card within') ∙ ap (λ k. take k ys) (sym more)))))

  -- no card follows these
  abbrev pub Stops : List Card → Type 0
  Stops xs = (card : Card) → slot_to_play opening first slots xs ≡ Some (Played card) → CanPlay opening xs card → length xs < cards_in_play opening → ⊥

  -- cards after which none follows are no fewer than others
  not_shorter : (xs ys : List Card) → AreGiven opening first slots xs → AreGiven opening first slots ys → IsLegalHistory opening ys → length ys ≤ cards_in_play opening → Stops xs → length ys ≤ length xs
  not_shorter xs ys given given' legal within stop = go (ltb (length xs) (length ys)) refl where
    go : (b : Bool) → ltb (length xs) (length ys) ≡ b → length ys ≤ length xs
    go false not_less = ltb-false (length xs) (length ys) not_less
    go true is_less =
        let less = ltb-true (length xs) (length ys) is_less in
        let card = get_or ys (length xs) no_card in
        let is = slice_get-get_or ys (length xs) no_card less in
        let same : take (length xs) ys ≡ xs = sym (agree xs ys given given' (length xs) (omega arith) (omega (arith, less))) ∙ take_all (length xs) xs (omega arith) in
        absurd (stop card
        (subst (λ l. slot_to_play opening first slots l ≡ Some (Played card)) same (given' (length xs) card is))
        (subst (λ l. CanPlay opening l card) same (legal_at opening [] ys (length xs) card legal is))
        (omega (arith, less, within)))

  pub same_cards : (xs ys : List Card) → AreGiven opening first slots xs → AreGiven opening first slots ys → IsLegalHistory opening xs → IsLegalHistory opening ys → length xs ≤ cards_in_play opening → length ys ≤ cards_in_play opening → Stops xs → Stops ys → xs ≡ ys
  same_cards xs ys given given' legal legal' within within' stop stop' =
      let le = not_shorter xs ys given given' legal' within' stop in
      let ge = not_shorter ys xs given' given legal within stop' in
      sym (take_all (length xs) xs (omega arith)) ∙ (agree xs ys given given' (length xs) (omega arith) (omega (arith, ge)) ∙ take_all (length xs) ys (omega (arith, le)))

-- a play that is read goes as far as it may
module _ (first : Seat) (text : List ℕ) (play : RecordedPlay) (h : IsRead first text play) where
  abbrev slot : Option Slot
  slot = slot_to_play (opening_of play) first (slots_of text) play.cards.items

  pub read_within : length play.cards.items ≤ cards_in_play (opening_of play)
  read_within = end_within (opening_of play) play.cards.items slot (is_irregular text) play.end h.ends

  pub read_stops : Stops (opening_of play) first (slots_of text) play.cards.items
  read_stops card is can less = no_more (opening_of play) play.cards.items slot (is_irregular text) play.end card h.ends is can less

pub one_reading : OneReading
one_reading first text one other h h' same =
    let opening = opening_of one in
    let slots = slots_of text in
    let given = subst (λ o. AreGiven o first slots other.cards.items) (sym same) h'.given in
    let legal = subst (λ o. IsLegalHistory o other.cards.items) (sym same) h'.legal in
    let within = subst (λ o. length other.cards.items ≤ cards_in_play o) (sym same) (read_within first text other h') in
    let stops = subst (λ o. Stops o first slots other.cards.items) (sym same) (read_stops first text other h') in
    let cards = same_cards opening first slots one.cards.items other.cards.items h.given given h.legal legal (read_within first text one h) within (read_stops first text one h) stops in
    let ends = subst (λ o. IsEnd o other.cards.items (slot_to_play o first slots other.cards.items) (is_irregular text) other.end) (sym same) h'.ends in (
      cards,
      one_end opening one.cards.items (slot_to_play opening first slots one.cards.items) (is_irregular text) one.end other.end h.ends
          (subst (λ l. IsEnd opening l (slot_to_play opening first slots l) (is_irregular text) other.end) (sym cards) ends),
    )
