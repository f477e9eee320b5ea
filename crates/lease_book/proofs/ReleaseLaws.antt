-- A lease that is given up, or whose hand-in shows nothing.
use Rattle.std.proofs.Common.{◌≡◌, ℕ, ◌<◌, ◌≢◌, Bool, true, false, not, cond, List, [], ◌∷◌, ◌++◌, length, get_or, set, Option, None, Some, is_some, refl, sym, ◌∙◌, ap, ⊎_elim}
use Rattle.std.specs.List.{find}
use Rattle.std.specs.Option.{option_or}
use Rattle.std.proofs.lemmas.Bool.{false≢true, eqb-true, cases_eq, false_from_ne_true}
use Rattle.std.proofs.lemmas.List.{get_or-set_same, get_or-set_other, length-set}
use Rattle.std.proofs.lemmas.Option.{none-some, same_Some}
use Rattle.lease_book.specs.declared.events.Grant.{Grant}
use Rattle.lease_book.specs.declared.events.Asked.TheVariants.{GiveUp}
use Rattle.lease_book.specs.declared.events.Reply.TheVariants.{GaveUp, NotHeld, UnknownLease}
use Rattle.lease_book.specs.declared.events.Event.{Event}
use Rattle.lease_book.specs.declared.slots.Slot.{Slot}
use Rattle.lease_book.specs.Entries.{place_of}
use Rattle.lease_book.specs.Histories.{Terms, given_by, grant_of, is_held, held_after, frees, is_numbered, is_for_place}
use Rattle.lease_book.specs.Replies.{give_up_reply}
use Rattle.lease_book.specs.Slots.{is_holder, freed_of}
use Rattle.lease_book.specs.Keeping.{Among, published_by, IsKept}
use Rattle.lease_book.proofs.EntryLaws.{same_bool}
use Rattle.lease_book.proofs.HistoryLaws.{is_left_by, option_or_none}
use Rattle.lease_book.proofs.HeldLaws.{keep_if, among_any, any_among, find_among, find_apart}
use Rattle.lease_book.proofs.BookLaws.{slot_after, same_slot, kept_after}

pub keep_all : (test : Grant → Bool) (holder : Option Grant) → ((grant : Grant) → holder ≡ Some grant → test grant ≡ true) → keep_if test holder ≡ holder
keep_all test None h = refl
keep_all test (Some grant) h = ap (λ b. cond b (Some grant) None) (h grant refl)

-- a slot that an event leaves
pub slot_stays : (event : Event) (place : ℕ) (slot : Slot) → published_by place event.asked event.reply ≡ None → ((grant : Grant) → slot.holder ≡ Some grant → frees grant event ≡ false) → slot ≡ slot_after event place slot
slot_stays event place slot p h =
    same_slot _ _ _ _ _ _
    (sym (ap (option_or slot.published) p ∙ option_or_none slot.published))
    (sym (keep_all (is_left_by event) slot.holder (λ grant e. ap not (h grant e))))
    refl

module _ (terms : Terms) (events : List Event) (leases : List Grant) (slots : List Slot) (kept : IsKept terms events leases slots) where
  -- the lease that a slot has is held, and found under its number
  pub holder_found : (place : ℕ) (d : Slot) (grant : Grant) → place < length slots → (get_or slots place d).holder ≡ Some grant → (find (is_numbered grant.lease) leases ≡ Some grant) × (place_of grant.entry ≡ place) × Among grant (held_after events)
  holder_found place d grant l h =
      let there = find_among (is_for_place place) (held_after events) grant (sym (ap (λ (slot : Slot). slot.holder) (kept.slots_are place d l)) ∙ h) in
      (kept.found grant there.0, eqb-true (place_of grant.entry) place there.1, there.0)

  -- a lease that was never given is no slot's
  pub never_given : (lease place : ℕ) (d : Slot) (grant : Grant) → find (is_numbered lease) leases ≡ None → place < length slots → (get_or slots place d).holder ≡ Some grant → is_numbered lease grant ≡ false
  never_given lease place d grant none l h =
      false_from_ne_true (is_numbered lease grant) (λ e. none-some grant (sym none ∙ ap (λ n. find (is_numbered n) leases) (sym (eqb-true grant.lease lease e)) ∙ (holder_found place d grant l h).0))

  -- a lease is no slot's but that of its entry
  pub only_its_own : (lease place : ℕ) (d : Slot) (grant own : Grant) → find (is_numbered lease) leases ≡ Some own → place ≢ place_of own.entry → place < length slots → (get_or slots place d).holder ≡ Some grant → is_numbered lease grant ≡ false
  only_its_own lease place d grant own given ne l h =
      let found = holder_found place d grant l h in
      false_from_ne_true (is_numbered lease grant) (λ e.
      let same : own ≡ grant = same_Some own grant (sym given ∙ ap (λ n. find (is_numbered n) leases) (sym (eqb-true grant.lease lease e)) ∙ found.0) in
      ne (sym found.1 ∙ ap (λ (g : Grant). place_of g.entry) (sym same)))

  -- a lease is held exactly where it is in the slot of its entry
  pub held_is : (lease : ℕ) (d : Slot) (own : Grant) → find (is_numbered lease) leases ≡ Some own → place_of own.entry < length slots → is_held events lease ≡ is_holder lease (get_or slots (place_of own.entry) d).holder
  held_is lease d own given l =
      same_bool (is_held events lease) (is_holder lease (get_or slots (place_of own.entry) d).holder) to from
    where
      to : is_held events lease ≡ true → is_holder lease (get_or slots (place_of own.entry) d).holder ≡ true
      to h =
          let some = any_among (is_numbered lease) (held_after events) h in
          let same : own ≡ some.0 = same_Some own some.0 (sym given ∙ ap (λ n. find (is_numbered n) leases) (sym (eqb-true (some.0).lease lease some.2)) ∙ kept.found some.0 some.1) in
          ap (is_holder lease)
          (ap (λ (slot : Slot). slot.holder) (kept.slots_are (place_of own.entry) d l)
          ∙ ap (λ (g : Grant). find (is_for_place (place_of g.entry)) (held_after events)) same
          ∙ find_apart (held_after events) some.0 kept.apart some.1)
          ∙ some.2

      in_slot : (holder : Option Grant) → holder ≡ (get_or slots (place_of own.entry) d).holder → is_holder lease holder ≡ true → is_held events lease ≡ true
      in_slot None e h = absurd (false≢true h)
      in_slot (Some grant) e h = among_any (is_numbered lease) (held_after events) grant (holder_found (place_of own.entry) d grant l (sym e)).2 h

      from : is_holder lease (get_or slots (place_of own.entry) d).holder ≡ true → is_held events lease ≡ true
      from h = in_slot (get_or slots (place_of own.entry) d).holder refl h

  -- the slots after a lease is taken from its own
  pub released : (event : Event) (lease : ℕ) (own : Grant) (d : Slot) → ((grant : Grant) → frees grant event ≡ is_numbered lease grant) → ((place : ℕ) → published_by place event.asked event.reply ≡ None)
      → find (is_numbered lease) leases ≡ Some own → place_of own.entry < length slots
      → (place : ℕ) (e : Slot) → place < length slots → get_or (set slots (place_of own.entry) (freed_of lease (get_or slots (place_of own.entry) d))) place e ≡ slot_after event place (get_or slots place e)
  released event lease own d frees_it none given l place e m =
      ⊎_elim
      (λ (same : place ≡ place_of own.entry).
      ap (λ n. get_or (set slots (place_of own.entry) (freed_of lease (get_or slots (place_of own.entry) d))) n e) same
      ∙ get_or-set_same slots (place_of own.entry) (freed_of lease (get_or slots (place_of own.entry) d)) e l
      ∙ ap (freed_of lease) (kept.slots_are (place_of own.entry) d l ∙ sym (kept.slots_are (place_of own.entry) e l))
      ∙ own_slot (get_or slots (place_of own.entry) e)
      ∙ ap (λ n. slot_after event n (get_or slots n e)) (sym same))
      (λ (ne : place ≢ place_of own.entry).
      get_or-set_other slots (place_of own.entry) place (freed_of lease (get_or slots (place_of own.entry) d)) e ne
      ∙ slot_stays event place (get_or slots place e) (none place) (λ grant h. frees_it grant ∙ only_its_own lease place e grant own given ne m h))
      (cases_eq place (place_of own.entry))
    where
      by_holder : (published : Option ℕ) (holder : Option Grant) (left : ℕ) → freed_of lease (record { published = published; holder = holder; left = left }) ≡ slot_after event (place_of own.entry) (record { published = published; holder = holder; left = left })
      by_holder published None left = slot_stays event (place_of own.entry) (record { published = published; holder = None; left = left }) (none (place_of own.entry)) (λ grant h. absurd (none-some grant h))
      by_holder published (Some grant) left = go (is_numbered lease grant) refl
        where
          go : (b : Bool) → is_numbered lease grant ≡ b → cond b (record { published = published; holder = None; left = left }) (record { published = published; holder = Some grant; left = left }) ≡ slot_after event (place_of own.entry) (record { published = published; holder = Some grant; left = left })
          go true h =
              same_slot _ _ _ _ _ _ (sym (ap (option_or published) (none (place_of own.entry)) ∙ option_or_none published))
              (sym (ap (λ b. cond (not b) (Some grant) None) (frees_it grant ∙ h))) refl
          go false h =
              same_slot _ _ _ _ _ _ (sym (ap (option_or published) (none (place_of own.entry)) ∙ option_or_none published))
              (sym (ap (λ b. cond (not b) (Some grant) None) (frees_it grant ∙ h))) refl

      own_slot : (slot : Slot) → freed_of lease slot ≡ slot_after event (place_of own.entry) slot
      own_slot slot = by_holder slot.published slot.holder slot.left

  pub grant_is : (lease : ℕ) (found : Option Grant) → find (is_numbered lease) leases ≡ found → grant_of events lease ≡ found
  grant_is lease found e = ap (find (is_numbered lease)) (sym kept.given) ∙ e

  pub unknown_reply : (lease : ℕ) → find (is_numbered lease) leases ≡ None → UnknownLease ≡ give_up_reply events lease
  unknown_reply lease none = sym (ap (λ (o : Option Grant). cond (is_some o) (cond (is_held events lease) GaveUp NotHeld) UnknownLease) (grant_is lease None none))

  pub own_reply : (lease : ℕ) (d : Slot) (own : Grant) → find (is_numbered lease) leases ≡ Some own → place_of own.entry < length slots → cond (is_holder lease (get_or slots (place_of own.entry) d).holder) GaveUp NotHeld ≡ give_up_reply events lease
  own_reply lease d own given l =
      ap (λ b. cond b GaveUp NotHeld) (sym (held_is lease d own given l))
      ∙ sym (ap (λ (o : Option Grant). cond (is_some o) (cond (is_held events lease) GaveUp NotHeld) UnknownLease) (grant_is lease (Some own) given))

  pub kept_unknown : (lease : ℕ) → find (is_numbered lease) leases ≡ None → IsKept terms (events ++ record { asked = GiveUp lease; reply = UnknownLease } ∷ []) leases slots
  kept_unknown lease none =
      let event : Event = record { asked = GiveUp lease; reply = UnknownLease } in
      kept_after terms events event refl leases slots slots kept (unknown_reply lease none) refl
      (λ place d l. slot_stays event place (get_or slots place d) refl (λ grant h. never_given lease place d grant none l h))
      (λ entry deal k h b. absurd (none-some k h)) (λ place k h. absurd (none-some k h))

  by_held : (lease : ℕ) (held : Bool) → given_by (record { asked = GiveUp lease; reply = cond held GaveUp NotHeld }) ≡ None
  by_held lease true = refl
  by_held lease false = refl

  pub kept_given_up : (lease : ℕ) (d : Slot) (own : Grant) → find (is_numbered lease) leases ≡ Some own → place_of own.entry < length slots
      → IsKept terms (events ++ record { asked = GiveUp lease; reply = cond (is_holder lease (get_or slots (place_of own.entry) d).holder) GaveUp NotHeld } ∷ []) leases (set slots (place_of own.entry) (freed_of lease (get_or slots (place_of own.entry) d)))
  kept_given_up lease d own given l =
      let held = is_holder lease (get_or slots (place_of own.entry) d).holder in
      let event : Event = record { asked = GiveUp lease; reply = cond held GaveUp NotHeld } in
      kept_after terms events event (by_held lease held) leases slots (set slots (place_of own.entry) (freed_of lease (get_or slots (place_of own.entry) d))) kept (own_reply lease d own given l)
      (length-set slots (place_of own.entry) (freed_of lease (get_or slots (place_of own.entry) d)))
      (released event lease own d (λ grant. refl) (λ place. refl) given l)
      (λ entry deal k h b. absurd (none-some k h)) (λ place k h. absurd (none-some k h))
