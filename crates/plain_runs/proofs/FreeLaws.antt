-- A lease that is answered at once: nothing is held before it and nothing after.
use Rattle.std.proofs.Common.{◌≡◌, ℕ, true, false, not, cond, ◌&&◌, List, [], ◌∷◌, ◌++◌, Option, None, Some, is_some, is_none, refl, ◌∙◌, ap, arith}
use Rattle.std.specs.Prelude.{nat_lt}
use Rattle.std.specs.List.{filter, find, list_any, cons_option}
use Rattle.std.specs.Option.{option_or}
use Rattle.std.proofs.lemmas.Bool.{and_parts, and_from, eq-eqb}
use Rattle.std.proofs.lemmas.List.{append-nil}
use Rattle.std.proofs.lemmas.List.Folds.{find-append}
use Rattle.pbn_deals.specs.declared.boards.Board.{Board}
use Rattle.lease_book.specs.declared.entries.Entry.{Entry}
use Rattle.lease_book.specs.declared.events.Grant.{Grant}
use Rattle.lease_book.specs.declared.events.HandedIn.{HandedIn}
use Rattle.lease_book.specs.declared.events.HandedIn.TheVariants.{Shows, Faulty}
use Rattle.lease_book.specs.declared.events.Asked.TheVariants.{Lease, Expire, GiveUp, HandIn}
use Rattle.lease_book.specs.declared.events.Reply.{Reply}
use Rattle.lease_book.specs.declared.events.Reply.TheVariants.{Given, Nothing, Freed, OtherEntry, AlreadyPublished}
use Rattle.lease_book.specs.declared.events.Event.{Event}
use Rattle.lease_book.specs.Entries.{place_of, is_same_entry}
use Rattle.lease_book.specs.Twins.{are_twins, is_first}
use Rattle.lease_book.specs.Histories.{Terms, given_as, given_in, grant_of, held_after, is_held, is_numbered, is_for_place, published_in, times_leased}
use Rattle.lease_book.specs.Replies.{IsNextLease, IsReply, IsLegal, is_evidence_for, evidence_reply, hand_in_reply}
use Rattle.lease_book.proofs.HistoryLaws.{is_left_by, given_push, held_push, published_push, option_or_none}
use Rattle.lease_book.proofs.HeldLaws.{find_above}
use Rattle.lease_book.proofs.LegalLaws.{numbered, give_up_gives_none}

unpublished_is : (o : Option ℕ) → is_none o ≡ true → is_some o ≡ false
unpublished_is None h = refl
unpublished_is (Some k) h = cc

-- the only lease that is held was given just now
module _ (terms : Terms) (before : List Event) (now lease : ℕ) (entry : Entry) (deadline : ℕ)
    (legal : IsLegal terms before) (free : held_after before ≡ []) (next : IsNextLease terms before now lease entry deadline) where
  abbrev grant : Grant
  grant = record { lease = lease; entry = entry; deadline = deadline }

  abbrev given : List Event
  given = before ++ record { asked = Lease now; reply = Given lease entry deadline } ∷ []

  held_alone : held_after given ≡ grant ∷ []
  held_alone =
      let event : Event = record { asked = Lease now; reply = Given lease entry deadline } in
      held_push before event ∙ ap (λ (held : List Grant). filter (is_left_by event) held ++ grant ∷ []) free

  found : grant_of given lease ≡ Some grant
  found =
      ap (find (is_numbered lease)) (given_push before (record { asked = Lease now; reply = Given lease entry deadline }))
      ∙ find-append (is_numbered lease) (given_in before) (grant ∷ [])
      ∙ ap (λ o. option_or o (find (is_numbered lease) (grant ∷ []))) (find_above 1 (given_in before) lease (numbered terms before legal) (omega (arith, next.next)))
      ∙ ap (λ b. cond b (Some grant) None) (eq-eqb lease lease refl)

  unpublished : is_some (published_in terms.boards given entry) ≡ false
  unpublished =
      let first_board = is_first terms.boards entry.board in
      let no_number = is_none (published_in terms.boards before entry) in
      let no_lease = not (list_any (is_for_place (place_of entry)) (held_after before)) in
      let first = and_parts ((first_board && no_number) && no_lease) (nat_lt (times_leased before (place_of entry)) terms.tries) next.ready in
      let second = and_parts (first_board && no_number) no_lease first.0 in
      ap (λ (o : Option ℕ). is_some o) (published_push (are_twins terms.boards entry) before (record { asked = Lease now; reply = Given lease entry deadline }) ∙ option_or_none (published_in terms.boards before entry))
      ∙ unpublished_is (published_in terms.boards before entry) (and_parts first_board no_number second.0).1

  counts : (evidence : HandedIn) → is_evidence_for terms.boards entry evidence ≡ true → hand_in_reply terms given (grant_of given lease) entry evidence ≡ evidence_reply evidence
  counts evidence for_it =
      ap (λ o. hand_in_reply terms given o entry evidence) found
      ∙ ap (λ b. cond b (cond (is_some (published_in terms.boards given entry)) AlreadyPublished (evidence_reply evidence)) OtherEntry)
      (and_from (is_same_entry entry entry) (is_evidence_for terms.boards entry evidence) (eq-eqb (place_of entry) (place_of entry) refl) for_it)
      ∙ ap (λ b. cond b AlreadyPublished (evidence_reply evidence)) unpublished

  left_by : (evidence : HandedIn) → filter (is_left_by (record { asked = HandIn lease entry evidence; reply = evidence_reply evidence })) (grant ∷ []) ++ cons_option (given_as (evidence_reply evidence)) [] ≡ []
  left_by (Shows shown) = ap (λ b. cond (not b) (grant ∷ []) [] ++ []) (eq-eqb (place_of entry) (place_of entry) refl)
  left_by (Faulty fault) = ap (λ b. cond (not b) (grant ∷ []) [] ++ []) (eq-eqb lease lease refl)

  -- what is handed in for its entry frees it
  pub free_after_hand_in : (evidence : HandedIn) (reply : Reply) → is_evidence_for terms.boards entry evidence ≡ true → IsReply terms given (HandIn lease entry evidence) reply
      → held_after (given ++ record { asked = HandIn lease entry evidence; reply = reply } ∷ []) ≡ []
  free_after_hand_in evidence reply for_it is =
      let event : Reply → Event = λ r. record { asked = HandIn lease entry evidence; reply = r } in
      held_push given (event reply)
      ∙ ap (λ (held : List Grant). filter (is_left_by (event reply)) held ++ cons_option (given_as reply) []) held_alone
      ∙ ap (λ (r : Reply). filter (is_left_by (event r)) (grant ∷ []) ++ cons_option (given_as r) []) (is ∙ counts evidence for_it)
      ∙ left_by evidence

  -- so does giving it up
  pub free_after_give_up : (reply : Reply) → IsReply terms given (GiveUp lease) reply → held_after (given ++ record { asked = GiveUp lease; reply = reply } ∷ []) ≡ []
  free_after_give_up reply is =
      let event : Event = record { asked = GiveUp lease; reply = reply } in
      held_push given event
      ∙ ap (λ (held : List Grant). filter (is_left_by event) held ++ cons_option (given_as reply) []) held_alone
      ∙ ap (λ (r : Reply). filter (is_left_by event) (grant ∷ []) ++ cons_option (given_as r) []) is
      ∙ ap (λ o. filter (is_left_by event) (grant ∷ []) ++ cons_option o []) (give_up_gives_none (is_some (grant_of given lease)) (is_held given lease))
      ∙ ap (λ b. cond (not b) (grant ∷ []) [] ++ []) (eq-eqb lease lease refl)

-- what a request that was answered Nothing, and an expiry, leave as it was
module _ (events : List Event) (now later count : ℕ) where
  abbrev pub ended : List Event
  ended = (events ++ record { asked = Lease now; reply = Nothing } ∷ []) ++ record { asked = Expire later; reply = Freed count } ∷ []

  pub free_at_end : held_after events ≡ [] → held_after ended ≡ []
  free_at_end free =
      let nothing : Event = record { asked = Lease now; reply = Nothing } in
      let freed : Event = record { asked = Expire later; reply = Freed count } in
      held_push (events ++ nothing ∷ []) freed
      ∙ ap (λ (held : List Grant). filter (is_left_by freed) held ++ []) (held_push events nothing ∙ ap (λ (held : List Grant). filter (is_left_by nothing) held ++ []) free)

  pub published_at_end : (boards : List Board) (entry : Entry) → published_in boards ended entry ≡ published_in boards events entry
  published_at_end boards entry =
      let nothing : Event = record { asked = Lease now; reply = Nothing } in
      published_push (are_twins boards entry) (events ++ nothing ∷ []) (record { asked = Expire later; reply = Freed count })
      ∙ option_or_none (published_in boards (events ++ nothing ∷ []) entry)
      ∙ published_push (are_twins boards entry) events nothing
      ∙ option_or_none (published_in boards events entry)

  pub given_at_end : given_in ended ≡ given_in events
  given_at_end =
      let nothing : Event = record { asked = Lease now; reply = Nothing } in
      given_push (events ++ nothing ∷ []) (record { asked = Expire later; reply = Freed count })
      ∙ append-nil (given_in (events ++ nothing ∷ []))
      ∙ given_push events nothing
      ∙ append-nil (given_in events)
