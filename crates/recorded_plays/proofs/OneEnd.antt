-- A section says one end of its play.
use Rattle.std.proofs.Common.{◌≡◌, ℕ, Bool, true, false, List, Option, None, Some, refl, sym, ◌∙◌, ap, subst, arith}
use Rattle.cards.specs.declared.seats.Seat.{Seat}
use Rattle.cards.specs.declared.pack.Card.{Card}
use Rattle.play_rules.specs.History.{Opening}
use Rattle.play_rules.specs.Legal.{StillHolds, seat_to_play}
use Rattle.recorded_plays.specs.declared.plays.Slot.{Slot}
use Rattle.recorded_plays.specs.declared.plays.Slot.TheVariants.{Played, Unknown, Unread}
use Rattle.recorded_plays.specs.declared.plays.IllegalReason.{IllegalReason}
use Rattle.recorded_plays.specs.declared.plays.IllegalReason.TheVariants as reason
use Rattle.recorded_plays.specs.declared.plays.IllegalCard.{IllegalCard}
use Rattle.recorded_plays.specs.declared.plays.PlayEnd.{PlayEnd}
use Rattle.recorded_plays.specs.declared.plays.PlayEnd.TheVariants as ends
use Rattle.recorded_plays.specs.Follow.{IsRefused, IsEnd}

same_holder : (opening : Opening) (history : List Card) (card : Card) (one other : Seat) → StillHolds opening.deal history one card → StillHolds opening.deal history other card → one ≡ other
same_holder opening history card one other h h' = let same : Some one ≡ Some other = sym h.dealt ∙ h'.dealt in cc

one_reason : (opening : Opening) (history : List Card) (card : Card) (why why' : IllegalReason) → IsRefused opening history card why → IsRefused opening history card why' → why ≡ why'
one_reason opening history card reason.NotHeld reason.NotHeld h h' = refl
one_reason opening history card reason.NotHeld (reason.OutOfTurn seat) h h' = absurd (h seat h'.0)
one_reason opening history card reason.NotHeld (reason.HoldsSuit suit) h h' = absurd (h (seat_to_play opening history) h'.0)
one_reason opening history card (reason.OutOfTurn seat) reason.NotHeld h h' = absurd (h' seat h.0)
one_reason opening history card (reason.OutOfTurn seat) (reason.OutOfTurn other) h h' = ap reason.OutOfTurn (same_holder opening history card seat other h.0 h'.0)
one_reason opening history card (reason.OutOfTurn seat) (reason.HoldsSuit suit) h h' = absurd (h.1 (same_holder opening history card (seat_to_play opening history) seat h'.0 h.0))
one_reason opening history card (reason.HoldsSuit suit) reason.NotHeld h h' = absurd (h' (seat_to_play opening history) h.0)
one_reason opening history card (reason.HoldsSuit suit) (reason.OutOfTurn seat) h h' = absurd (h'.1 (same_holder opening history card (seat_to_play opening history) seat h.0 h'.0))
one_reason opening history card (reason.HoldsSuit suit) (reason.HoldsSuit other) h h' = ap reason.HoldsSuit (let same : Some suit ≡ Some other = sym h.1 ∙ h'.1 in let e : suit ≡ other = cc in e)

make : ℕ → Seat → Card → IllegalReason → IllegalCard
make trick seat card why = record { trick = trick; seat = seat; card = card; reason = why }

same_illegal : (i j : IllegalCard) → i.trick ≡ j.trick → i.seat ≡ j.seat → i.card ≡ j.card → i.reason ≡ j.reason → i ≡ j
unfolding make
same_illegal i j trick seat card why =
    ap (λ t. make t i.seat i.card i.reason) trick ∙ (ap (λ s. make j.trick s i.card i.reason) seat
    ∙ (ap (λ c. make j.trick j.seat c i.reason) card ∙ ap (make j.trick j.seat j.card) why))

pub one_end : (opening : Opening) (history : List Card) (slot : Option Slot) (irregular : Bool) (end end' : PlayEnd) → IsEnd opening history slot irregular end → IsEnd opening history slot irregular end' → end ≡ end'
one_end opening history slot irregular ends.Whole ends.Whole h h' = refl
one_end opening history slot irregular ends.Whole ends.Early h h' = absurd (omega (arith, h, h'.0))
one_end opening history slot irregular ends.Whole ends.Irregular h h' = absurd (omega (arith, h, h'.0))
one_end opening history slot irregular ends.Whole ends.Unknown h h' = absurd (omega (arith, h, h'.0))
one_end opening history slot irregular ends.Whole ends.Unread h h' = absurd (omega (arith, h, h'.0))
one_end opening history slot irregular ends.Whole (ends.Illegal j) h h' = absurd (omega (arith, h, h'.0))
one_end opening history slot irregular ends.Early ends.Whole h h' = absurd (omega (arith, h.0, h'))
one_end opening history slot irregular ends.Early ends.Early h h' = refl
one_end opening history slot irregular ends.Early ends.Irregular h h' = absurd (let x : false ≡ true = sym h.2 ∙ h'.2 in cc)
one_end opening history slot irregular ends.Early ends.Unknown h h' = absurd (let x : None ≡ Some Unknown = sym h.1 ∙ h'.1 in cc)
one_end opening history slot irregular ends.Early ends.Unread h h' = absurd (let x : None ≡ Some Unread = sym h.1 ∙ h'.1 in cc)
one_end opening history slot irregular ends.Early (ends.Illegal j) h h' = absurd (let x : None ≡ Some (Played j.card) = sym h.1 ∙ h'.1 in cc)
one_end opening history slot irregular ends.Irregular ends.Whole h h' = absurd (omega (arith, h.0, h'))
one_end opening history slot irregular ends.Irregular ends.Early h h' = absurd (let x : true ≡ false = sym h.2 ∙ h'.2 in cc)
one_end opening history slot irregular ends.Irregular ends.Irregular h h' = refl
one_end opening history slot irregular ends.Irregular ends.Unknown h h' = absurd (let x : None ≡ Some Unknown = sym h.1 ∙ h'.1 in cc)
one_end opening history slot irregular ends.Irregular ends.Unread h h' = absurd (let x : None ≡ Some Unread = sym h.1 ∙ h'.1 in cc)
one_end opening history slot irregular ends.Irregular (ends.Illegal j) h h' = absurd (let x : None ≡ Some (Played j.card) = sym h.1 ∙ h'.1 in cc)
one_end opening history slot irregular ends.Unknown ends.Whole h h' = absurd (omega (arith, h.0, h'))
one_end opening history slot irregular ends.Unknown ends.Early h h' = absurd (let x : Some Unknown ≡ None = sym h.1 ∙ h'.1 in cc)
one_end opening history slot irregular ends.Unknown ends.Irregular h h' = absurd (let x : Some Unknown ≡ None = sym h.1 ∙ h'.1 in cc)
one_end opening history slot irregular ends.Unknown ends.Unknown h h' = refl
one_end opening history slot irregular ends.Unknown ends.Unread h h' = absurd (let x : Some Unknown ≡ Some Unread = sym h.1 ∙ h'.1 in cc)
one_end opening history slot irregular ends.Unknown (ends.Illegal j) h h' = absurd (let x : Some Unknown ≡ Some (Played j.card) = sym h.1 ∙ h'.1 in cc)
one_end opening history slot irregular ends.Unread ends.Whole h h' = absurd (omega (arith, h.0, h'))
one_end opening history slot irregular ends.Unread ends.Early h h' = absurd (let x : Some Unread ≡ None = sym h.1 ∙ h'.1 in cc)
one_end opening history slot irregular ends.Unread ends.Irregular h h' = absurd (let x : Some Unread ≡ None = sym h.1 ∙ h'.1 in cc)
one_end opening history slot irregular ends.Unread ends.Unknown h h' = absurd (let x : Some Unread ≡ Some Unknown = sym h.1 ∙ h'.1 in cc)
one_end opening history slot irregular ends.Unread ends.Unread h h' = refl
one_end opening history slot irregular ends.Unread (ends.Illegal j) h h' = absurd (let x : Some Unread ≡ Some (Played j.card) = sym h.1 ∙ h'.1 in cc)
one_end opening history slot irregular (ends.Illegal i) ends.Whole h h' = absurd (omega (arith, h.0, h'))
one_end opening history slot irregular (ends.Illegal i) ends.Early h h' = absurd (let x : Some (Played i.card) ≡ None = sym h.1 ∙ h'.1 in cc)
one_end opening history slot irregular (ends.Illegal i) ends.Irregular h h' = absurd (let x : Some (Played i.card) ≡ None = sym h.1 ∙ h'.1 in cc)
one_end opening history slot irregular (ends.Illegal i) ends.Unknown h h' = absurd (let x : Some (Played i.card) ≡ Some Unknown = sym h.1 ∙ h'.1 in cc)
one_end opening history slot irregular (ends.Illegal i) ends.Unread h h' = absurd (let x : Some (Played i.card) ≡ Some Unread = sym h.1 ∙ h'.1 in cc)
one_end opening history slot irregular (ends.Illegal i) (ends.Illegal j) h h' =
    let same : Some (Played i.card) ≡ Some (Played j.card) = sym h.1 ∙ h'.1 in
    let card : i.card ≡ j.card = cc in
    ap ends.Illegal (same_illegal i j (h.2.trick ∙ sym h'.2.trick) (h.2.seat ∙ sym h'.2.seat) card
    (one_reason opening history i.card i.reason j.reason h.2.reason (subst (λ c. IsRefused opening history c j.reason) (sym card) h'.2.reason)))
