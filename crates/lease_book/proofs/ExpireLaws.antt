-- The leases that are freed since their deadline has come.
use Rattle.std.proofs.Common.{◌≡◌, ℕ, ◌<◌, ◌≢◌, Bool, true, false, not, cond, List, [], ◌∷◌, ◌++◌, length, map, get_or, set, take_all, count_by, Option, None, Some, refl, sym, ◌∙◌, ap, inl, inr, ⊎_elim, arith}
use Rattle.std.specs.List.{find}
use Rattle.std.specs.Option.{option_or}
use Rattle.std.proofs.lemmas.Bool.{cases_eq, eq-eqb, ne_eqb}
use Rattle.std.proofs.lemmas.List.{get_or-set_same, get_or-set_other, get_or-map, length-set, length-map}
use Rattle.std.proofs.lemmas.List.Sums.{sum_by-set, sum_by-cons}
use Rattle.std.proofs.lemmas.Option.{none-some}
use Rattle.lease_book.specs.declared.events.Grant.{Grant}
use Rattle.lease_book.specs.declared.events.Asked.TheVariants.{Expire}
use Rattle.lease_book.specs.declared.events.Reply.TheVariants.{Freed}
use Rattle.lease_book.specs.declared.events.Event.{Event}
use Rattle.lease_book.specs.declared.slots.Slot.{Slot}
use Rattle.lease_book.specs.Entries.{place_of}
use Rattle.lease_book.specs.Histories.{Terms, held_after, is_numbered, is_for_place, is_past}
use Rattle.lease_book.specs.Slots.{is_past_slot, freed, freed_if_past}
use Rattle.lease_book.specs.Keeping.{Among, AreApart, IsKept}
use Rattle.lease_book.proofs.SlotLaws.{no_slot, count_up_to}
use Rattle.lease_book.proofs.HeldLaws.{find_none, find_among}
use Rattle.lease_book.proofs.HistoryLaws.{option_or_none}
use Rattle.lease_book.proofs.BookLaws.{slot_after, same_slot, kept_after}

unheld : (now : ℕ) (holder : Option Grant) (slot : Slot) → slot.holder ≡ holder → holder ≡ None → is_past_slot now slot ≡ false
unheld now holder slot h none = ap (λ (o : Option Grant). is_past_slot now (record { published = None; holder = o; left = 0 })) (h ∙ none)

-- as many slots are past as leases that are held
pub count_past : (now : ℕ) (held : List Grant) (slots : List Slot) → AreApart held → ((grant : Grant) → Among grant held → place_of grant.entry < length slots)
    → ((place : ℕ) (d : Slot) → place < length slots → (get_or slots place d).holder ≡ find (is_for_place place) held) → count_by (is_past_slot now) slots ≡ count_by (is_past now) held
count_past now [] slots apart there holds =
    ap (count_by (is_past_slot now)) (sym (take_all (length slots) slots (omega arith)))
    ∙ count_up_to (is_past_slot now) slots 0 (length slots) (omega arith) (omega arith) (λ other d h l. unheld now None (get_or slots other d) (holds other d l) refl)
count_past now (grant ∷ rest) slots apart there holds =
    let place = place_of grant.entry in
    let within = there grant (inl refl) in
    let slot = get_or slots place no_slot in
    let after = set slots place (freed slot) in
    let long = length-set slots place (freed slot) in
    let bit : Slot → ℕ = λ (s : Slot). cond (is_past_slot now s) 1 0 in
    let here : slot.holder ≡ Some grant = holds place no_slot within ∙ ap (λ b. cond b (Some grant) (find (is_for_place place) rest)) (eq-eqb place place refl) in
    let past : bit slot ≡ cond (is_past now grant) 1 0 = ap (λ (o : Option Grant). bit (record { published = None; holder = o; left = 0 })) here in
    let sums = sum_by-set bit slots place (freed slot) no_slot within in
    let more = sum_by-cons (λ (g : Grant). cond (is_past now g) 1 0) grant rest in
    let later : count_by (is_past_slot now) after ≡ count_by (is_past now) rest = count_past now rest after apart.1 (λ other m. omega (arith, there other (inr m), long))
    (λ other d l. others other d (omega (arith, l, long))) in
    omega (arith, sums, past, more, later)
  where
    others : (other : ℕ) (d : Slot) → other < length slots → (get_or (set slots (place_of grant.entry) (freed (get_or slots (place_of grant.entry) no_slot))) other d).holder ≡ find (is_for_place other) rest
    others other d l =
        ⊎_elim
        (λ (e : other ≡ place_of grant.entry).
        ap (λ n. (get_or (set slots (place_of grant.entry) (freed (get_or slots (place_of grant.entry) no_slot))) n d).holder) e
        ∙ ap (λ (s : Slot). s.holder) (get_or-set_same slots (place_of grant.entry) (freed (get_or slots (place_of grant.entry) no_slot)) d (there grant (inl refl)))
        ∙ sym (ap (λ n. find (is_for_place n) rest) e ∙ find_none (is_for_place (place_of grant.entry)) rest apart.0))
        (λ (ne : other ≢ place_of grant.entry).
        ap (λ (s : Slot). s.holder) (get_or-set_other slots (place_of grant.entry) other (freed (get_or slots (place_of grant.entry) no_slot)) d ne)
        ∙ holds other d l
        ∙ ap (λ b. cond b (Some grant) (find (is_for_place other) rest)) (ne_eqb (place_of grant.entry) other (λ same. ne (sym same))))
        (cases_eq other (place_of grant.entry))

expired_slot : (now count place : ℕ) (published : Option ℕ) (holder : Option Grant) (left : ℕ)
    → freed_if_past now (record { published = published; holder = holder; left = left }) ≡ slot_after (record { asked = Expire now; reply = Freed count }) place (record { published = published; holder = holder; left = left })
expired_slot now count place published None left = same_slot _ _ _ _ _ _ (sym (option_or_none published)) refl refl
expired_slot now count place published (Some grant) left = by_past (is_past now grant)
  where
    by_past : (b : Bool) → ◌≡◌ {A = Slot} (cond b (record { published = published; holder = None; left = left }) (record { published = published; holder = Some grant; left = left }))
        (record { published = option_or published None; holder = cond (not b) (Some grant) None; left = left })
    by_past true = same_slot _ _ _ _ _ _ (sym (option_or_none published)) refl refl
    by_past false = same_slot _ _ _ _ _ _ (sym (option_or_none published)) refl refl

module _ (terms : Terms) (events : List Event) (leases : List Grant) (slots : List Slot) (kept : IsKept terms events leases slots) where
  pub freed_reply : (now : ℕ) → Freed (count_by (is_past_slot now) slots) ≡ Freed (count_by (is_past now) (held_after events))
  freed_reply now =
      ap (λ n. Freed n) (count_past now (held_after events) slots kept.apart
      (λ grant m. kept.there grant (find_among (is_numbered grant.lease) leases grant (kept.found grant m)).0)
      (λ place d l. ap (λ (s : Slot). s.holder) (kept.slots_are place d l)))

  pub kept_expired : (now : ℕ) → IsKept terms (events ++ record { asked = Expire now; reply = Freed (count_by (is_past_slot now) slots) } ∷ []) leases (map (freed_if_past now) slots)
  kept_expired now =
      let count = count_by (is_past_slot now) slots in
      let event : Event = record { asked = Expire now; reply = Freed count } in
      kept_after terms events event refl leases slots (map (freed_if_past now) slots) kept (freed_reply now)
      (length-map slots (freed_if_past now))
      (λ place d l. get_or-map (freed_if_past now) slots place d d l ∙ of_slot now count place (get_or slots place d))
      (λ entry deal k h b. absurd (none-some k h)) (λ place k h. absurd (none-some k h))
    where
      of_slot : (now count place : ℕ) (slot : Slot) → freed_if_past now slot ≡ slot_after (record { asked = Expire now; reply = Freed count }) place slot
      of_slot now count place slot = expired_slot now count place slot.published slot.holder slot.left
