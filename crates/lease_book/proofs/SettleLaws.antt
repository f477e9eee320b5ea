-- What is handed in.
use Rattle.std.proofs.Common.{◌≡◌, ℕ, ◌<◌, ◌≤◌, ◌≢◌, Bool, true, false, not, cond, ◌&&◌, List, [], ◌∷◌, ◌++◌, length, get_or, set, Option, None, Some, is_some, refl, sym, ◌∙◌, ap, subst, ⊎_elim, arith}
use Rattle.std.specs.Prelude.{nat_eq}
use Rattle.std.specs.List.{find}
use Rattle.std.specs.Option.{option_or}
use Rattle.std.proofs.lemmas.Bool.{eqb-true, eq-eqb, ne_eqb, cases_eq, and_parts, and_from, and_left, and_right}
use Rattle.std.proofs.lemmas.List.{get_or-set_same, get_or-set_other, length-set}
use Rattle.std.proofs.lemmas.Option.{none-some, cond_some}
use Rattle.cards.specs.Deal.{Deal, is_same_deal}
use Rattle.cards.specs.SameDeal.{is_same_deal-Decides}
use Rattle.cards.specs.declared.seats.Seat.{Seat}
use Rattle.cards.specs.declared.suits.Trump.{Trump}
use Rattle.checker.specs.declared.entries.Shown.{Shown}
use Rattle.checker.specs.declared.hand_faults.HandFault.{HandFault}
use Rattle.lease_book.specs.declared.entries.Entry.{Entry}
use Rattle.lease_book.specs.declared.events.Grant.{Grant}
use Rattle.lease_book.specs.declared.events.HandedIn.{HandedIn}
use Rattle.lease_book.specs.declared.events.HandedIn.TheVariants.{Shows, Faulty}
use Rattle.lease_book.specs.declared.events.Asked.TheVariants.{HandIn}
use Rattle.lease_book.specs.declared.events.Reply.{Reply}
use Rattle.lease_book.specs.declared.events.Reply.TheVariants.{UnknownLease, OtherEntry, AlreadyPublished, BadCertificate, Published}
use Rattle.lease_book.specs.declared.events.Event.{Event}
use Rattle.lease_book.specs.declared.slots.Slot.{Slot}
use Rattle.lease_book.specs.Entries.{contract_place, place_of, is_same_entry}
use Rattle.lease_book.specs.Proofs.{IsProven, IsProvenEvidence}
use Rattle.lease_book.specs.Twins.{deal_of}
use Rattle.lease_book.specs.Histories.{Terms, given_as, grant_of, published_in, is_numbered, is_freed_by_hand_in}
use Rattle.lease_book.specs.Replies.{is_shown_for, is_evidence_for, evidence_reply, hand_in_reply}
use Rattle.lease_book.specs.Slots.{freed_of}
use Rattle.lease_book.specs.Keeping.{published_as, published_at, IsKept}
use Rattle.lease_book.proofs.EntryLaws.{same_contract, same_entry}
use Rattle.lease_book.proofs.HistoryLaws.{is_left_by}
use Rattle.lease_book.proofs.HeldLaws.{keep_if}
use Rattle.lease_book.proofs.BookLaws.{slot_after, same_slot, kept_after}
use Rattle.lease_book.proofs.ReleaseLaws.{slot_stays, holder_found, released, grant_is}
use Rattle.lease_book.proofs.NamedLaws.{named_first, published_own}

-- what was shown for an entry, named by the entry and its deal
shown_as : (entry : Entry) (deal : Deal) (shown : Shown) → is_shown_for (Some deal) entry shown ≡ true → shown ≡ record { layout = deal; declarer = entry.declarer; trump = entry.trump; k = shown.k }
shown_as entry deal shown h =
    let both = and_parts (is_same_deal deal shown.layout) (nat_eq (contract_place entry.declarer entry.trump) (contract_place shown.declarer shown.trump)) h in
    let same = (is_same_deal-Decides deal shown.layout).0 both.0 in
    let contract = same_contract entry.declarer shown.declarer entry.trump shown.trump (eqb-true (contract_place entry.declarer entry.trump) (contract_place shown.declarer shown.trump) both.1) in
    sym (ap (λ (x : Deal). record { layout = x; declarer = entry.declarer; trump = entry.trump; k = shown.k }) same
    ∙ ap (λ (x : Seat). record { layout = shown.layout; declarer = x; trump = entry.trump; k = shown.k }) contract.0
    ∙ ap (λ (x : Trump). record { layout = shown.layout; declarer = shown.declarer; trump = x; k = shown.k }) contract.1)

pub proven_as : (entry : Entry) (deal : Deal) (k : ℕ) (o : Option Deal) (shown : Shown) → IsProven shown → is_shown_for o entry shown ≡ true → o ≡ Some deal → shown.k ≡ k → IsProven (record { layout = deal; declarer = entry.declarer; trump = entry.trump; k = k })
proven_as entry deal k o shown proven h e same =
    subst (λ (n : ℕ). IsProven (record { layout = deal; declarer = entry.declarer; trump = entry.trump; k = n })) same
    (subst (λ (s : Shown). IsProven s) (shown_as entry deal shown (ap (λ (d : Option Deal). is_shown_for d entry shown) (sym e) ∙ h)) proven)

module _ (terms : Terms) (events : List Event) (leases : List Grant) (slots : List Slot) (kept : IsKept terms events leases slots) where
  pub unknown_hand_in : (lease : ℕ) (entry : Entry) (evidence : HandedIn) → find (is_numbered lease) leases ≡ None → UnknownLease ≡ hand_in_reply terms events (grant_of events lease) entry evidence
  unknown_hand_in lease entry evidence none = sym (ap (λ o. hand_in_reply terms events o entry evidence) (grant_is terms events leases slots kept lease None none))

  known : (lease : ℕ) (entry : Entry) (evidence : HandedIn) (own : Grant) (one other : Bool) → find (is_numbered lease) leases ≡ Some own → (is_same_entry own.entry entry && is_evidence_for terms.boards entry evidence) ≡ one → is_some (published_in terms.boards events entry) ≡ other
      → hand_in_reply terms events (grant_of events lease) entry evidence ≡ cond one (cond other AlreadyPublished (evidence_reply evidence)) OtherEntry
  known lease entry evidence own one other given e p =
      ap (λ o. hand_in_reply terms events o entry evidence) (grant_is terms events leases slots kept lease (Some own) given)
      ∙ ap (λ b. cond b (cond (is_some (published_in terms.boards events entry)) AlreadyPublished (evidence_reply evidence)) OtherEntry) e
      ∙ ap (λ b. cond one (cond b AlreadyPublished (evidence_reply evidence)) OtherEntry) p

  pub other_entry : (lease : ℕ) (entry : Entry) (evidence : HandedIn) (own : Grant) → find (is_numbered lease) leases ≡ Some own → is_same_entry own.entry entry ≡ false → OtherEntry ≡ hand_in_reply terms events (grant_of events lease) entry evidence
  other_entry lease entry evidence own given e = sym (known lease entry evidence own false (is_some (published_in terms.boards events entry)) given (and_left (is_same_entry own.entry entry) (is_evidence_for terms.boards entry evidence) e) refl)

  pub other_evidence : (lease : ℕ) (entry : Entry) (evidence : HandedIn) (own : Grant) → find (is_numbered lease) leases ≡ Some own → is_evidence_for terms.boards entry evidence ≡ false → OtherEntry ≡ hand_in_reply terms events (grant_of events lease) entry evidence
  other_evidence lease entry evidence own given e = sym (known lease entry evidence own false (is_some (published_in terms.boards events entry)) given (and_right (is_same_entry own.entry entry) (is_evidence_for terms.boards entry evidence) e) refl)

  slot_number : (lease : ℕ) (d : Slot) (entry : Entry) (own : Grant) → find (is_numbered lease) leases ≡ Some own → is_same_entry own.entry entry ≡ true → place_of own.entry < length slots → (get_or slots (place_of own.entry) d).published ≡ published_in terms.boards events entry
  slot_number lease d entry own given same l =
      ap (λ (s : Slot). s.published) (kept.slots_are (place_of own.entry) d l)
      ∙ ap (λ n. published_at n events) (eqb-true (place_of own.entry) (place_of entry) same)
      ∙ sym (published_own terms events entry kept.legal (named_first terms events lease own entry kept.legal (grant_is terms events leases slots kept lease (Some own) given) same))

  pub counts : (lease : ℕ) (d : Slot) (entry : Entry) (evidence : HandedIn) (own : Grant) (other : Bool) → find (is_numbered lease) leases ≡ Some own → is_same_entry own.entry entry ≡ true → is_evidence_for terms.boards entry evidence ≡ true → place_of own.entry < length slots
      → is_some (get_or slots (place_of own.entry) d).published ≡ other → hand_in_reply terms events (grant_of events lease) entry evidence ≡ cond other AlreadyPublished (evidence_reply evidence)
  counts lease d entry evidence own other given same e l p =
      known lease entry evidence own true other given (and_from (is_same_entry own.entry entry) (is_evidence_for terms.boards entry evidence) same e)
      (ap (λ (o : Option ℕ). is_some o) (sym (slot_number lease d entry own given same l)) ∙ p)

  -- a refusal leaves all
  pub kept_refused : (lease : ℕ) (entry : Entry) (evidence : HandedIn) (reply : Reply) → given_as reply ≡ None → ((grant : Grant) → is_freed_by_hand_in grant lease entry reply ≡ false) → ((place : ℕ) → published_as place entry reply ≡ None)
      → reply ≡ hand_in_reply terms events (grant_of events lease) entry evidence → IsKept terms (events ++ record { asked = HandIn lease entry evidence; reply = reply } ∷ []) leases slots
  kept_refused lease entry evidence reply none frees_none publishes_none is =
      let event : Event = record { asked = HandIn lease entry evidence; reply = reply } in
      kept_after terms events event none leases slots slots kept is refl
      (λ place d l. slot_stays event place (get_or slots place d) (publishes_none place) (λ grant h. frees_none grant))
      (λ other deal k h b. absurd (none-some k (sym (publishes_none (place_of other)) ∙ h)))
      (λ place k h. absurd (none-some k (sym (publishes_none place) ∙ h)))

  -- what shows nothing takes its lease back
  pub kept_faulty : (lease : ℕ) (d : Slot) (entry : Entry) (fault : HandFault) (own : Grant) → find (is_numbered lease) leases ≡ Some own → place_of own.entry < length slots
      → BadCertificate fault ≡ hand_in_reply terms events (grant_of events lease) entry (Faulty fault)
      → IsKept terms (events ++ record { asked = HandIn lease entry (Faulty fault); reply = BadCertificate fault } ∷ []) leases (set slots (place_of own.entry) (freed_of lease (get_or slots (place_of own.entry) d)))
  kept_faulty lease d entry fault own given l is =
      let event : Event = record { asked = HandIn lease entry (Faulty fault); reply = BadCertificate fault } in
      kept_after terms events event refl leases slots (set slots (place_of own.entry) (freed_of lease (get_or slots (place_of own.entry) d))) kept is
      (length-set slots (place_of own.entry) (freed_of lease (get_or slots (place_of own.entry) d)))
      (released terms events leases slots kept event lease own d (λ grant. refl) (λ place. refl) given l)
      (λ other deal k h b. absurd (none-some k h)) (λ place k h. absurd (none-some k h))

  -- what counts is published
  pub kept_published : (lease : ℕ) (d : Slot) (entry : Entry) (shown : Shown) (own : Grant) → IsProven shown × (shown.k ≤ 13) → is_same_entry own.entry entry ≡ true → is_evidence_for terms.boards entry (Shows shown) ≡ true → place_of own.entry < length slots
      → is_some (get_or slots (place_of own.entry) d).published ≡ false
      → Published shown.k ≡ hand_in_reply terms events (grant_of events lease) entry (Shows shown)
      → IsKept terms (events ++ record { asked = HandIn lease entry (Shows shown); reply = Published shown.k } ∷ []) leases
      (set slots (place_of own.entry) (record { published = Some shown.k; holder = None; left = (get_or slots (place_of own.entry) d).left }))
  kept_published lease d entry shown own proven same e l unpublished is =
      let event : Event = record { asked = HandIn lease entry (Shows shown); reply = Published shown.k } in
      let changed : Slot = record { published = Some shown.k; holder = None; left = (get_or slots (place_of own.entry) d).left } in
      kept_after terms events event refl leases slots (set slots (place_of own.entry) changed) kept is
      (length-set slots (place_of own.entry) changed)
      (λ place c m. at_place place c m)
      (λ other deal k h b.
      let both = cond_some (nat_eq (place_of entry) (place_of other)) shown.k k h in
      let one = same_entry entry other (eqb-true (place_of entry) (place_of other) both.0) in
      proven_as other deal k (deal_of terms.boards other.board) shown proven.0 (ap (λ (x : Entry). is_evidence_for terms.boards x (Shows shown)) (sym one) ∙ e) b both.1)
      (λ place k h.
      let both = cond_some (nat_eq (place_of entry) place) shown.k k h in
      (omega (arith, eqb-true (place_of entry) place both.0, here, l), omega (arith, both.1, proven.1)))
    where
      here : place_of own.entry ≡ place_of entry
      here = eqb-true (place_of own.entry) (place_of entry) same

      no_number : (o : Option ℕ) → is_some o ≡ false → o ≡ None
      no_number None h = refl
      no_number (Some k) h = cc

      no_holder : (place : ℕ) (holder : Option Grant) → ((grant : Grant) → holder ≡ Some grant → place_of grant.entry ≡ place_of entry) → None ≡ keep_if (is_left_by (record { asked = HandIn lease entry (Shows shown); reply = Published shown.k })) holder
      no_holder place None h = refl
      no_holder place (Some grant) h = sym (ap (λ b. cond (not b) (Some grant) None) (eq-eqb (place_of grant.entry) (place_of entry) (h grant refl)))

      own_slot : (c : Slot) → record { published = Some shown.k; holder = None; left = (get_or slots (place_of own.entry) d).left } ≡ slot_after (record { asked = HandIn lease entry (Shows shown); reply = Published shown.k }) (place_of own.entry) (get_or slots (place_of own.entry) c)
      own_slot c =
          let slot = get_or slots (place_of own.entry) c in
          let one : get_or slots (place_of own.entry) d ≡ slot = kept.slots_are (place_of own.entry) d l ∙ sym (kept.slots_are (place_of own.entry) c l) in
          same_slot _ _ _ _ _ _
          (sym (ap (λ o. option_or o (cond (nat_eq (place_of entry) (place_of own.entry)) (Some shown.k) None)) (no_number slot.published (ap (λ (s : Slot). is_some s.published) (sym one) ∙ unpublished))
          ∙ ap (λ b. cond b (Some shown.k) None) (eq-eqb (place_of entry) (place_of own.entry) (sym here))))
          (no_holder (place_of own.entry) slot.holder (λ grant h. (holder_found terms events leases slots kept (place_of own.entry) c grant l h).1 ∙ here))
          (ap (λ (s : Slot). s.left) one)

      at_place : (place : ℕ) (c : Slot) → place < length slots
          → get_or (set slots (place_of own.entry) (record { published = Some shown.k; holder = None; left = (get_or slots (place_of own.entry) d).left })) place c
          ≡ slot_after (record { asked = HandIn lease entry (Shows shown); reply = Published shown.k }) place (get_or slots place c)
      at_place place c m =
          let changed : Slot = record { published = Some shown.k; holder = None; left = (get_or slots (place_of own.entry) d).left } in
          let event : Event = record { asked = HandIn lease entry (Shows shown); reply = Published shown.k } in
          ⊎_elim
          (λ (at_own : place ≡ place_of own.entry).
          ap (λ n. get_or (set slots (place_of own.entry) changed) n c) at_own
          ∙ get_or-set_same slots (place_of own.entry) changed c l
          ∙ own_slot c
          ∙ ap (λ n. slot_after event n (get_or slots n c)) (sym at_own))
          (λ (ne : place ≢ place_of own.entry).
          get_or-set_other slots (place_of own.entry) place changed c ne
          ∙ slot_stays event place (get_or slots place c)
          (ap (λ b. cond b (Some shown.k) None) (ne_eqb (place_of entry) place (λ x. ne (sym x ∙ sym here))))
          (λ grant h. ne_eqb (place_of grant.entry) (place_of entry) (λ x. ne (sym (holder_found terms events leases slots kept place c grant m h).1 ∙ (x ∙ sym here)))))
          (cases_eq place (place_of own.entry))

  pub shows_reply : (lease : ℕ) (d : Slot) (entry : Entry) (evidence : HandedIn) (shown : Shown) (own : Grant) → evidence ≡ Shows shown → find (is_numbered lease) leases ≡ Some own → is_same_entry own.entry entry ≡ true → is_evidence_for terms.boards entry evidence ≡ true → place_of own.entry < length slots
      → is_some (get_or slots (place_of own.entry) d).published ≡ false → Published shown.k ≡ hand_in_reply terms events (grant_of events lease) entry evidence
  shows_reply lease d entry evidence shown own is given same e l unpublished =
      sym (counts lease d entry evidence own false given same e l unpublished ∙ ap evidence_reply is)

  pub faulty_reply : (lease : ℕ) (d : Slot) (entry : Entry) (evidence : HandedIn) (fault : HandFault) (own : Grant) → evidence ≡ Faulty fault → find (is_numbered lease) leases ≡ Some own → is_same_entry own.entry entry ≡ true → is_evidence_for terms.boards entry evidence ≡ true → place_of own.entry < length slots
      → is_some (get_or slots (place_of own.entry) d).published ≡ false → BadCertificate fault ≡ hand_in_reply terms events (grant_of events lease) entry evidence
  faulty_reply lease d entry evidence fault own is given same e l unpublished =
      sym (counts lease d entry evidence own false given same e l unpublished ∙ ap evidence_reply is)

  pub kept_shows : (lease : ℕ) (d : Slot) (entry : Entry) (evidence : HandedIn) (shown : Shown) (own : Grant) → evidence ≡ Shows shown → IsProvenEvidence evidence → find (is_numbered lease) leases ≡ Some own → is_same_entry own.entry entry ≡ true → is_evidence_for terms.boards entry evidence ≡ true → place_of own.entry < length slots
      → is_some (get_or slots (place_of own.entry) d).published ≡ false
      → IsKept terms (events ++ record { asked = HandIn lease entry evidence; reply = Published shown.k } ∷ []) leases
      (set slots (place_of own.entry) (record { published = Some shown.k; holder = None; left = (get_or slots (place_of own.entry) d).left }))
  kept_shows lease d entry evidence shown own is proven given same e l unpublished =
      let after = set slots (place_of own.entry) (record { published = Some shown.k; holder = None; left = (get_or slots (place_of own.entry) d).left }) in
      subst (λ (x : HandedIn). IsKept terms (events ++ record { asked = HandIn lease entry x; reply = Published shown.k } ∷ []) leases after) (sym is)
      (kept_published lease d entry shown own (subst (λ (x : HandedIn). IsProvenEvidence x) is proven) same (ap (is_evidence_for terms.boards entry) (sym is) ∙ e) l unpublished
      (shows_reply lease d entry (Shows shown) shown own refl given same (ap (is_evidence_for terms.boards entry) (sym is) ∙ e) l unpublished))

  pub kept_shows_nothing : (lease : ℕ) (d : Slot) (entry : Entry) (evidence : HandedIn) (fault : HandFault) (own : Grant) → evidence ≡ Faulty fault → find (is_numbered lease) leases ≡ Some own → is_same_entry own.entry entry ≡ true → is_evidence_for terms.boards entry evidence ≡ true → place_of own.entry < length slots
      → is_some (get_or slots (place_of own.entry) d).published ≡ false
      → IsKept terms (events ++ record { asked = HandIn lease entry evidence; reply = BadCertificate fault } ∷ []) leases (set slots (place_of own.entry) (freed_of lease (get_or slots (place_of own.entry) d)))
  kept_shows_nothing lease d entry evidence fault own is given same e l unpublished =
      let after = set slots (place_of own.entry) (freed_of lease (get_or slots (place_of own.entry) d)) in
      subst (λ (x : HandedIn). IsKept terms (events ++ record { asked = HandIn lease entry x; reply = BadCertificate fault } ∷ []) leases after) (sym is)
      (kept_faulty lease d entry fault own given l
      (faulty_reply lease d entry (Faulty fault) fault own refl given same (ap (is_evidence_for terms.boards entry) (sym is) ∙ e) l unpublished))

  pub published_reply : (lease : ℕ) (d : Slot) (entry : Entry) (evidence : HandedIn) (own : Grant) → find (is_numbered lease) leases ≡ Some own → is_same_entry own.entry entry ≡ true → is_evidence_for terms.boards entry evidence ≡ true → place_of own.entry < length slots
      → is_some (get_or slots (place_of own.entry) d).published ≡ true → AlreadyPublished ≡ hand_in_reply terms events (grant_of events lease) entry evidence
  published_reply lease d entry evidence own given same e l published = sym (counts lease d entry evidence own true given same e l published)

-- the slots once a number is published
pub numbered_slots : (slots after : List Slot) (place own_place k : ℕ) (slot numbered d : Slot) → after ≡ set slots place numbered → numbered ≡ record { published = Some k; holder = None; left = slot.left } → slot ≡ get_or slots own_place d → place ≡ own_place
    → after ≡ set slots own_place (record { published = Some k; holder = None; left = (get_or slots own_place d).left })
numbered_slots slots after place own_place k slot numbered d a n s same =
    a ∙ ap (λ i. set slots i numbered) same ∙ ap (set slots own_place) (n ∙ ap (λ (x : Slot). record { published = Some k; holder = None; left = x.left }) s)
