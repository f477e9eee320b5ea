-- A book of which no lease is held and no entry is open.
use Rattle.std.proofs.Common.{◌≡◌, ℕ, ◌<◌, true, false, List, [], ◌∷◌, length, get_or, Option, is_some, refl, sym, ◌∙◌, ap, ◌⊎◌, inl, inr, arith}
use Rattle.std.specs.List.{find, list_any}
use Rattle.std.proofs.lemmas.Bool.{both_ways, false≢true}
use Rattle.lease_book.specs.declared.entries.Entry.{Entry}
use Rattle.lease_book.specs.declared.events.Grant.{Grant}
use Rattle.lease_book.specs.declared.events.Event.{Event}
use Rattle.lease_book.specs.declared.slots.Slot.{Slot}
use Rattle.lease_book.specs.Entries.{place_of}
use Rattle.lease_book.specs.Twins.{twin_of}
use Rattle.lease_book.specs.Histories.{Terms, held_after, is_numbered, is_for_place, is_open, published_in, times_leased}
use Rattle.lease_book.specs.Replies.{IsLegal}
use Rattle.lease_book.specs.Slots.{is_held_slot, is_open_slot, NonePasses, IsFirst}
use Rattle.lease_book.specs.Keeping.{Among, IsKept}
use Rattle.lease_book.specs.Done.{IsDone, number_of, holder_in}
use Rattle.lease_book.proofs.SlotLaws.{no_slot}
use Rattle.lease_book.proofs.HeldLaws.{find_among, find_apart}
use Rattle.lease_book.proofs.NamedLaws.{nothing_left}
use Rattle.lease_book.proofs.OpenLaws.{open_at}

module _ (terms : Terms) (events : List Event) (leases : List Grant) (slots : List Slot) (kept : IsKept terms events leases slots) where
  -- what a slot says of the lease that is held of its entry
  pub held_of : (place : ℕ) (slot : Slot) → place < length slots → slot ≡ get_or slots place no_slot → number_of slot.holder ≡ holder_in events place
  held_of place slot l is = ap (λ (s : Slot). number_of s.holder) (is ∙ kept.slots_are place no_slot l)

  is_there : (grant : Grant) → Among grant (held_after events) → place_of grant.entry < length slots
  is_there grant m = kept.there grant (find_among (is_numbered grant.lease) leases grant (kept.found grant m)).0

  held_at : (grant : Grant) → Among grant (held_after events) → is_held_slot (get_or slots (place_of grant.entry) no_slot) ≡ true
  held_at grant m =
      ap is_held_slot (kept.slots_are (place_of grant.entry) no_slot (is_there grant m))
      ∙ ap (λ (o : Option Grant). is_some o) (find_apart (held_after events) grant kept.apart m)

  pub none_held : NonePasses is_held_slot 0 slots → held_after events ≡ []
  none_held none = go (held_after events) (λ grant m. both_ways (is_held_slot (get_or slots (place_of grant.entry) no_slot)) (none (place_of grant.entry) no_slot (omega arith) (is_there grant m)) (held_at grant m))
    where
      go : (held : List Grant) → ((grant : Grant) → Among grant held → ⊥) → held ≡ []
      go [] no_one = refl
      go (grant ∷ rest) no_one = absurd (no_one grant (inl refl))

  pub one_held : (place : ℕ) → IsFirst is_held_slot 0 slots place → held_after events ≡ [] → ⊥
  one_held place first free =
      false≢true
      (sym (ap is_held_slot (kept.slots_are place no_slot first.within) ∙ ap (λ (held : List Grant). is_some (find (is_for_place place) held)) free)
      ∙ first.passes no_slot)

  pub one_open : (place : ℕ) (entry : Entry) → place_of entry ≡ place → IsFirst is_open_slot 0 slots place → ((other : Entry) → is_open terms events other ≡ false) → ⊥
  one_open place entry same first none =
      both_ways (is_open terms events entry) (none entry)
      (sym (open_at terms events leases slots kept entry no_slot (omega (arith, first.within, same))) ∙ ap (λ n. is_open_slot (get_or slots n no_slot)) same ∙ first.passes no_slot)

-- then each entry is done
pub idle_done : (terms : Terms) (events : List Event) → IsLegal terms events → held_after events ≡ [] → ((entry : Entry) → is_open terms events entry ≡ false) → IsDone terms events
idle_done terms events legal free none =
    record { none_held = free; each = λ entry deal. go entry (nothing_left terms events 0 entry legal none deal) }
  where
    go : (entry : Entry) → (is_some (published_in terms.boards events entry) ≡ true)
        ⊎ ((list_any (is_for_place (place_of (twin_of terms.boards entry))) (held_after events) ≡ true) ⊎ (times_leased events (place_of (twin_of terms.boards entry)) ≡ terms.tries))
        → (is_some (published_in terms.boards events entry) ≡ true) ⊎ (times_leased events (place_of (twin_of terms.boards entry)) ≡ terms.tries)
    go entry (inl h) = inl h
    go entry (inr (inl h)) = absurd (false≢true (sym (ap (λ (held : List Grant). list_any (is_for_place (place_of (twin_of terms.boards entry))) held) free) ∙ h))
    go entry (inr (inr h)) = inr h
