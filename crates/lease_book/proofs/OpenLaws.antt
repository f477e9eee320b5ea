-- Open entries, and the lease of the least.
use Rattle.std.proofs.Common.{◌≡◌, ℕ, ◌+◌, ◌-◌, ◌/◌, ◌<◌, ◌≤◌, ◌≢◌, Bool, true, false, not, cond, ◌&&◌, List, [], ◌∷◌, ◌++◌, length, get_or, set, count_by, Option, None, Some, is_none, refl, sym, ◌∙◌, ap, subst, ◌⊎◌, inl, inr, ⊎_elim, arith}
use Rattle.std.specs.Prelude.{nat_lt, min, ◌^◌}
use Rattle.std.specs.List.{filter, find, list_any}
use Rattle.std.specs.Option.{option_or}
use Rattle.std.proofs.lemmas.Bool.{both_ways, cases_eq, cases_lt, and_parts, ltb-true, lt-ltb, le-ltb, eq-eqb, ne_eqb, not-true}
use Rattle.std.proofs.lemmas.List.{get_or-set_same, get_or-set_other, length-set}
use Rattle.std.proofs.lemmas.List.Folds.{find-append}
use Rattle.std.proofs.lemmas.List.Sums.{sum_by_push}
use Rattle.std.proofs.lemmas.Option.{none-some}
use Rattle.lease_book.specs.declared.entries.Entry.{Entry}
use Rattle.lease_book.specs.declared.events.Grant.{Grant}
use Rattle.lease_book.specs.declared.events.Asked.TheVariants.{Lease}
use Rattle.lease_book.specs.declared.events.Reply.{Reply}
use Rattle.lease_book.specs.declared.events.Reply.TheVariants.{Given, Nothing}
use Rattle.lease_book.specs.declared.events.Event.{Event}
use Rattle.lease_book.specs.declared.slots.Slot.{Slot}
use Rattle.lease_book.specs.Entries.{place_of}
use Rattle.lease_book.specs.Twins.{is_first}
use Rattle.lease_book.specs.Histories.{Terms, given_in, held_after, published_in, times_leased, is_numbered, is_for_place, is_open}
use Rattle.lease_book.specs.Replies.{IsNextLease}
use Rattle.lease_book.specs.Slots.{is_open_slot, NonePasses, IsFirst}
use Rattle.lease_book.specs.Keeping.{Among, AreApart, is_in_place, published_at, slot_of, IsKept}
use Rattle.lease_book.proofs.SlotLaws.{no_slot}
use Rattle.lease_book.proofs.EntryLaws.{same_bool, board_of, contract_below}
use Rattle.lease_book.proofs.HistoryLaws.{is_left_by, given_push, held_push, published_push, legal_push, option_or_none}
use Rattle.lease_book.proofs.HeldLaws.{is_none_find, find_none, among_append, apart_push, find_above, numbered_push}
use Rattle.lease_book.proofs.BookLaws.{same_slot, kept_after}
use Rattle.lease_book.proofs.ReleaseLaws.{slot_stays}
use Rattle.lease_book.proofs.TwinLaws.{none_first}
use Rattle.lease_book.proofs.NamedLaws.{published_own}

tries_left : (h : Bool) (tries times : ℕ) → nat_lt 0 (cond h tries 0 - times) ≡ (h && nat_lt times tries)
tries_left true tries times = same_bool (nat_lt 0 (tries - times)) (nat_lt times tries)
    (λ e. let l : 0 < tries - times = ltb-true 0 (tries - times) e in lt-ltb times tries (omega arith))
    (λ e. let l : times < tries = ltb-true times tries e in lt-ltb 0 (tries - times) (omega arith))
tries_left false tries times = le-ltb 0 (0 - times) (omega arith)

in_order : (h a b d : Bool) → ((a && b) && (h && d)) ≡ (((h && a) && b) && d)
in_order true a b d = refl
in_order false true true d = refl
in_order false true false d = refl
in_order false false b d = refl

module _ (terms : Terms) (events : List Event) (leases : List Grant) (slots : List Slot) (kept : IsKept terms events leases slots) where
  -- of an entry on a first board its own number tells whether it is published
  own_number : (entry : Entry) (free left first : Bool) → is_first terms.boards entry.board ≡ first
      → (((first && is_none (published_at (place_of entry) events)) && free) && left) ≡ (((first && is_none (published_in terms.boards events entry)) && free) && left)
  own_number entry free left true h = ap (λ (o : Option ℕ). (is_none o && free) && left) (sym (published_own terms events entry kept.legal h))
  own_number entry free left false h = refl

  open_as : (entry : Entry) → is_open_slot (slot_of terms events (place_of entry)) ≡ is_open terms events entry
  open_as entry =
      let first = is_first terms.boards entry.board in
      let unpublished = is_none (published_at (place_of entry) events) in
      let free = not (list_any (is_for_place (place_of entry)) (held_after events)) in
      let times = times_leased events (place_of entry) in
      ap (λ n. (unpublished && is_none (find (is_for_place (place_of entry)) (held_after events))) && nat_lt 0 (cond (is_first terms.boards n) terms.tries 0 - times)) (board_of entry)
      ∙ ap (λ b. (unpublished && b) && nat_lt 0 (cond first terms.tries 0 - times)) (is_none_find (is_for_place (place_of entry)) (held_after events))
      ∙ ap (λ b. (unpublished && free) && b) (tries_left first terms.tries times)
      ∙ in_order first unpublished free (nat_lt times terms.tries)
      ∙ own_number entry free (nat_lt times terms.tries) first refl

  pub open_at : (entry : Entry) (d : Slot) → place_of entry < length slots → is_open_slot (get_or slots (place_of entry) d) ≡ is_open terms events entry
  open_at entry d l = ap is_open_slot (kept.slots_are (place_of entry) d l) ∙ open_as entry

  closed_past : (entry : Entry) → length slots ≤ place_of entry → is_open terms events entry ≡ false
  closed_past entry l =
      let past : length terms.boards ≤ entry.board = omega (arith, kept.sized, contract_below entry.declarer entry.trump) in
      ap (λ b. ((b && is_none (published_in terms.boards events entry)) && not (list_any (is_for_place (place_of entry)) (held_after events))) && nat_lt (times_leased events (place_of entry)) terms.tries)
      (none_first terms.boards entry.board past)

  pub nothing_open : NonePasses is_open_slot 0 slots → (entry : Entry) → is_open terms events entry ≡ false
  nothing_open none entry =
      ⊎_elim
      (λ (l : place_of entry < length slots). sym (open_at entry no_slot l) ∙ none (place_of entry) no_slot (omega arith) l)
      (λ (l : length slots ≤ place_of entry). closed_past entry l)
      (cases_lt (place_of entry) (length slots))

  pub kept_nothing : (now : ℕ) → NonePasses is_open_slot 0 slots → IsKept terms (events ++ record { asked = Lease now; reply = Nothing } ∷ []) leases slots
  kept_nothing now none =
      let event : Event = record { asked = Lease now; reply = Nothing } in
      kept_after terms events event refl leases slots slots kept (nothing_open none) refl
      (λ place d l. slot_stays event place (get_or slots place d) refl (λ grant h. refl))
      (λ entry deal k h b. absurd (none-some k h)) (λ place k h. absurd (none-some k h))

  pub next_lease : (now lease : ℕ) (entry : Entry) (deadline place : ℕ) → IsFirst is_open_slot 0 slots place → place_of entry ≡ place → lease ≡ length leases + 1 → deadline ≡ min (now + terms.term) (2 ^ 64 - 1) → IsNextLease terms events now lease entry deadline
  next_lease now lease entry deadline place first same number until =
      record {
        next = number ∙ ap (λ (gs : List Grant). length gs + 1) kept.given;
        ready = sym (open_at entry no_slot (omega (arith, first.within, same))) ∙ ap (λ n. is_open_slot (get_or slots n no_slot)) same ∙ first.passes no_slot;
        least = λ other h. ⊎_elim
            (λ (l : place_of other < place_of entry). absurd (both_ways (is_open terms events other)
            (sym (open_at other no_slot (omega (arith, first.within, same))) ∙ first.first (place_of other) no_slot (omega arith) (omega (arith, same))) h))
            (λ (l : place_of entry ≤ place_of other). l)
            (cases_lt (place_of other) (place_of entry));
        until = until;
      }

  -- an open slot has a try left, and no lease
  pub try_left : (place : ℕ) (slot : Slot) → ((d : Slot) → slot ≡ get_or slots place d) → IsFirst is_open_slot 0 slots place → 0 < slot.left
  try_left place slot is first =
      let open_now : is_open_slot slot ≡ true = ap is_open_slot (is no_slot) ∙ first.passes no_slot in
      ltb-true 0 slot.left (and_parts (is_none slot.published && is_none slot.holder) (nat_lt 0 slot.left) open_now).1

keep_them : (now : ℕ) (reply : Reply) (grants : List Grant) → filter (is_left_by (record { asked = Lease now; reply = reply })) grants ≡ grants
keep_them now reply [] = refl
keep_them now reply (first ∷ rest) = ap (λ (gs : List Grant). first ∷ gs) (keep_them now reply rest)

module _ (terms : Terms) (events : List Event) (leases : List Grant) (slots : List Slot) (kept : IsKept terms events leases slots)
    (now lease : ℕ) (entry : Entry) (deadline : ℕ) (next : IsNextLease terms events now lease entry deadline) (within : place_of entry < length slots) where
  held_more : held_after (events ++ record { asked = Lease now; reply = Given lease entry deadline } ∷ []) ≡ held_after events ++ record { lease = lease; entry = entry; deadline = deadline } ∷ []
  held_more =
      held_push events (record { asked = Lease now; reply = Given lease entry deadline })
      ∙ ap (λ (gs : List Grant). gs ++ record { lease = lease; entry = entry; deadline = deadline } ∷ []) (keep_them now (Given lease entry deadline) (held_after events))

  given_more : given_in (events ++ record { asked = Lease now; reply = Given lease entry deadline } ∷ []) ≡ given_in events ++ record { lease = lease; entry = entry; deadline = deadline } ∷ []
  given_more = given_push events (record { asked = Lease now; reply = Given lease entry deadline })

  published_same : (place : ℕ) → published_at place (events ++ record { asked = Lease now; reply = Given lease entry deadline } ∷ []) ≡ published_at place events
  published_same place = published_push (is_in_place place) events (record { asked = Lease now; reply = Given lease entry deadline }) ∙ option_or_none (published_at place events)

  free : list_any (is_for_place (place_of entry)) (held_after events) ≡ false
  free =
      let first = and_parts (is_first terms.boards entry.board && is_none (published_in terms.boards events entry) && not (list_any (is_for_place (place_of entry)) (held_after events))) (nat_lt (times_leased events (place_of entry)) terms.tries) next.ready in
      let second = and_parts (is_first terms.boards entry.board && is_none (published_in terms.boards events entry)) (not (list_any (is_for_place (place_of entry)) (held_after events))) first.0 in
      not-true (list_any (is_for_place (place_of entry)) (held_after events)) second.1

  new_slot_is : (place : ℕ) → slot_of terms (events ++ record { asked = Lease now; reply = Given lease entry deadline } ∷ []) place
      ≡ record {
        published = published_at place events;
        holder = option_or (find (is_for_place place) (held_after events)) (cond (is_for_place place (record { lease = lease; entry = entry; deadline = deadline })) (Some (record { lease = lease; entry = entry; deadline = deadline })) None);
        left = cond (is_first terms.boards (place / 20)) terms.tries 0 - (times_leased events place + cond (is_for_place place (record { lease = lease; entry = entry; deadline = deadline })) 1 0);
      }
  new_slot_is place =
      let new : Grant = record { lease = lease; entry = entry; deadline = deadline } in
      let all = cond (is_first terms.boards (place / 20)) terms.tries 0 in
      same_slot _ _ _ _ _ _
      (published_same place)
      (ap (find (is_for_place place)) held_more ∙ find-append (is_for_place place) (held_after events) (new ∷ []))
      (ap (λ (gs : List Grant). all - count_by (is_for_place place) gs) given_more ∙ ap (λ n. all - n) (sum_by_push (λ (g : Grant). cond (is_for_place place g) 1 0) (given_in events) new))

  pub kept_leased : (d : Slot) → lease ≡ length leases + 1
      → IsKept terms (events ++ record { asked = Lease now; reply = Given lease entry deadline } ∷ []) (leases ++ record { lease = lease; entry = entry; deadline = deadline } ∷ [])
      (set slots (place_of entry) (record { published = (get_or slots (place_of entry) d).published; holder = Some (record { lease = lease; entry = entry; deadline = deadline }); left = (get_or slots (place_of entry) d).left - 1 }))
  kept_leased d number =
      let new : Grant = record { lease = lease; entry = entry; deadline = deadline } in
      let changed : Slot = record { published = (get_or slots (place_of entry) d).published; holder = Some new; left = (get_or slots (place_of entry) d).left - 1 } in
      let long = length-set slots (place_of entry) changed in
      record {
        legal = legal_push terms events (record { asked = Lease now; reply = Given lease entry deadline }) kept.legal next;
        proven = λ other deal k h b. kept.proven other deal k (sym (published_same (place_of other)) ∙ h) b;
        at_most_13 = λ place k h. kept.at_most_13 place k (sym (published_same place) ∙ h);
        few_boards = kept.few_boards;
        sized = long ∙ kept.sized;
        given = ap (λ (gs : List Grant). gs ++ new ∷ []) kept.given ∙ sym given_more;
        numbered = numbered_push 1 leases new kept.numbered (omega (arith, number));
        there = λ grant m. there_of grant (among_append leases (new ∷ []) grant m) long;
        found = λ grant m. found_of grant (among_append (held_after events) (new ∷ []) grant (subst (Among grant) held_more m));
        apart = subst AreApart (sym held_more) (apart_push (held_after events) new kept.apart free);
        slots_are = λ place e l. slot_at place e (omega (arith, l, long));
        only_there = λ place l. published_same place ∙ kept.only_there place (omega (arith, l, long));
      }
    where
      there_of : (grant : Grant) → Among grant leases ⊎ Among grant (record { lease = lease; entry = entry; deadline = deadline } ∷ [])
          → length (set slots (place_of entry) (record { published = (get_or slots (place_of entry) d).published; holder = Some (record { lease = lease; entry = entry; deadline = deadline }); left = (get_or slots (place_of entry) d).left - 1 })) ≡ length slots
          → place_of grant.entry < length (set slots (place_of entry) (record { published = (get_or slots (place_of entry) d).published; holder = Some (record { lease = lease; entry = entry; deadline = deadline }); left = (get_or slots (place_of entry) d).left - 1 }))
      there_of grant (inl m) long = omega (arith, kept.there grant m, long)
      there_of grant (inr (inl same)) long = omega (arith, within, long, ap (λ (g : Grant). place_of g.entry) same)
      there_of grant (inr (inr m)) long = elim m [ ]

      found_of : (grant : Grant) → Among grant (held_after events) ⊎ Among grant (record { lease = lease; entry = entry; deadline = deadline } ∷ []) → find (is_numbered grant.lease) (leases ++ record { lease = lease; entry = entry; deadline = deadline } ∷ []) ≡ Some grant
      found_of grant (inl m) =
          find-append (is_numbered grant.lease) leases (record { lease = lease; entry = entry; deadline = deadline } ∷ [])
          ∙ ap (λ o. option_or o (find (is_numbered grant.lease) (record { lease = lease; entry = entry; deadline = deadline } ∷ []))) (kept.found grant m)
      found_of grant (inr (inl same)) =
          let new : Grant = record { lease = lease; entry = entry; deadline = deadline } in
          ap (λ (g : Grant). find (is_numbered g.lease) (leases ++ new ∷ [])) (sym same)
          ∙ find-append (is_numbered lease) leases (new ∷ [])
          ∙ ap (λ o. option_or o (find (is_numbered lease) (new ∷ []))) (find_above 1 leases lease kept.numbered (omega (arith, number)))
          ∙ ap (λ b. cond b (Some new) None) (eq-eqb lease lease refl)
          ∙ ap (λ (g : Grant). Some g) same
      found_of grant (inr (inr m)) = elim m [ ]

      slot_at : (place : ℕ) (e : Slot) → place < length slots
          → get_or (set slots (place_of entry) (record { published = (get_or slots (place_of entry) d).published; holder = Some (record { lease = lease; entry = entry; deadline = deadline }); left = (get_or slots (place_of entry) d).left - 1 })) place e
          ≡ slot_of terms (events ++ record { asked = Lease now; reply = Given lease entry deadline } ∷ []) place
      slot_at place e l =
          let new : Grant = record { lease = lease; entry = entry; deadline = deadline } in
          let changed : Slot = record { published = (get_or slots (place_of entry) d).published; holder = Some new; left = (get_or slots (place_of entry) d).left - 1 } in
          let was = kept.slots_are (place_of entry) d within in
          ⊎_elim
          (λ (same : place ≡ place_of entry).
          ap (λ n. get_or (set slots (place_of entry) changed) n e) same
          ∙ get_or-set_same slots (place_of entry) changed e within
          ∙ same_slot _ _ _ _ _ _
          (ap (λ (slot : Slot). slot.published) was)
          (sym (ap (λ o. option_or o (cond (is_for_place (place_of entry) new) (Some new) None)) (find_none (is_for_place (place_of entry)) (held_after events) free)
          ∙ ap (λ b. cond b (Some new) None) (eq-eqb (place_of entry) (place_of entry) refl)))
          (ap (λ (slot : Slot). slot.left - 1) was
          ∙ one_less (cond (is_first terms.boards (place_of entry / 20)) terms.tries 0) (times_leased events (place_of entry)) (is_for_place (place_of entry) new) (eq-eqb (place_of entry) (place_of entry) refl))
          ∙ sym (new_slot_is (place_of entry))
          ∙ ap (λ n. slot_of terms (events ++ record { asked = Lease now; reply = Given lease entry deadline } ∷ []) n) (sym same))
          (λ (ne : place ≢ place_of entry).
          get_or-set_other slots (place_of entry) place changed e ne
          ∙ kept.slots_are place e l
          ∙ same_slot _ _ _ _ _ _
          refl
          (sym (ap (λ b. option_or (find (is_for_place place) (held_after events)) (cond b (Some new) None)) (ne_eqb (place_of entry) place (λ same. ne (sym same)))
          ∙ option_or_none (find (is_for_place place) (held_after events))))
          (none_less (cond (is_first terms.boards (place / 20)) terms.tries 0) (times_leased events place) (is_for_place place new) (ne_eqb (place_of entry) place (λ same. ne (sym same))))
          ∙ sym (new_slot_is place))
          (cases_eq place (place_of entry))
        where
          one_less : (all times : ℕ) (b : Bool) → b ≡ true → (all - times) - 1 ≡ all - (times + cond b 1 0)
          one_less all times true h = omega arith
          one_less all times false h = cc

          none_less : (all times : ℕ) (b : Bool) → b ≡ false → all - times ≡ all - (times + cond b 1 0)
          none_less all times false h = omega arith
          none_less all times true h = cc

pub leased_slots : (slots after : List Slot) (place : ℕ) (entry : Entry) (grant : Grant) (slot leased : Slot) → after ≡ set slots place leased → leased ≡ record { published = slot.published; holder = Some grant; left = slot.left - 1 } → slot ≡ get_or slots place no_slot → place_of entry ≡ place
    → after ≡ set slots (place_of entry) (record { published = (get_or slots (place_of entry) no_slot).published; holder = Some grant; left = (get_or slots (place_of entry) no_slot).left - 1 })
leased_slots slots after place entry grant slot leased a l s same =
    let changed : Slot → Slot = λ (x : Slot). record { published = x.published; holder = Some grant; left = x.left - 1 } in
    a ∙ ap (set slots place) (l ∙ ap changed s) ∙ ap (λ n. set slots n (changed (get_or slots n no_slot))) (sym same)
