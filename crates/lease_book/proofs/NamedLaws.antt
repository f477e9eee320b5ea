-- A number for an entry stands under the name of its least twin.
use Rattle.std.proofs.Common.{◌≡◌, ℕ, Bool, true, false, not, cond, ◌&&◌, List, [], ◌∷◌, ◌++◌, Option, None, Some, is_some, is_none, refl, sym, ◌∙◌, ap, subst, ◌⊎◌, inl, inr, arith}
use Rattle.std.specs.Prelude.{nat_eq, nat_lt}
use Rattle.std.specs.List.{list_any}
use Rattle.std.specs.Option.{option_or}
use Rattle.std.proofs.lemmas.Bool.{and_parts, eqb-true, ltb-false, not-false}
use Rattle.lease_book.specs.declared.entries.Entry.{Entry}
use Rattle.lease_book.specs.declared.events.Grant.{Grant}
use Rattle.lease_book.specs.declared.events.Asked.{Asked}
use Rattle.lease_book.specs.declared.events.Asked.TheVariants.{Lease, Expire, GiveUp, HandIn}
use Rattle.lease_book.specs.declared.events.Reply.{Reply}
use Rattle.lease_book.specs.declared.events.Reply.TheVariants.{Nothing, OtherEntry, AlreadyPublished}
use Rattle.lease_book.specs.declared.events.Event.{Event}
use Rattle.lease_book.specs.Entries.{place_of, is_same_entry}
use Rattle.lease_book.specs.Twins.{deal_of, are_twins, first_board, is_first, twin_of}
use Rattle.lease_book.specs.Histories.{Terms, given_in, grant_of, held_after, is_numbered, is_for_place, number_for, published_when, published_in, times_leased}
use Rattle.lease_book.specs.Replies.{IsReply, IsLegal, is_evidence_for, evidence_reply, hand_in_reply}
use Rattle.lease_book.specs.Keeping.{is_in_place, published_by, published_at, AreProvenAsNamed, AreProven}
use Rattle.lease_book.proofs.EntryLaws.{same_entry}
use Rattle.lease_book.proofs.TwinLaws.{some_deal, first_has, first_is_first, twin_itself, only_twin}
use Rattle.lease_book.proofs.HistoryLaws.{published_push, legal_push}
use Rattle.lease_book.proofs.HeldLaws.{find_among}
use Rattle.lease_book.proofs.LegalLaws.{carried, firsts, times_few}

-- a lease that was given is of an entry on the first board with its deal
pub named_first : (terms : Terms) (before : List Event) (lease : ℕ) (grant : Grant) (named : Entry) → IsLegal terms before → grant_of before lease ≡ Some grant → is_same_entry grant.entry named ≡ true → is_first terms.boards named.board ≡ true
named_first terms before lease grant named legal given same =
    let among = find_among (is_numbered lease) (given_in before) grant given in
    ap (λ (e : Entry). is_first terms.boards e.board) (sym (same_entry grant.entry named (eqb-true (place_of grant.entry) (place_of named) same)))
    ∙ firsts terms before legal grant among.0

-- what is published for an entry is named for its least twin
named_for : (terms : Terms) (before : List Event) (entry : Entry) (asked : Asked) (reply : Reply) → IsLegal terms before → IsReply terms before asked reply
    → published_when (are_twins terms.boards entry) asked reply ≡ published_by (place_of (twin_of terms.boards entry)) asked reply
named_for terms before entry (Lease now) reply legal is = refl
named_for terms before entry (Expire now) reply legal is = refl
named_for terms before entry (GiveUp lease) reply legal is = refl
named_for terms before entry (HandIn lease named evidence) reply legal is =
    let one = are_twins terms.boards entry named in
    let other = nat_eq (place_of named) (place_of (twin_of terms.boards entry)) in
    subst (λ (r : Reply). number_for one r ≡ number_for other r) (sym is) (by_lease (grant_of before lease) refl)
  where
    by_lease : (own : Option Grant) → grant_of before lease ≡ own
        → number_for (are_twins terms.boards entry named) (hand_in_reply terms before own named evidence) ≡ number_for (nat_eq (place_of named) (place_of (twin_of terms.boards entry))) (hand_in_reply terms before own named evidence)
    by_lease None given = refl
    by_lease (Some grant) given = go (is_same_entry grant.entry named && is_evidence_for terms.boards named evidence) refl
      where
        go : (right : Bool) → (is_same_entry grant.entry named && is_evidence_for terms.boards named evidence) ≡ right
            → number_for (are_twins terms.boards entry named) (cond right (cond (is_some (published_in terms.boards before named)) AlreadyPublished (evidence_reply evidence)) OtherEntry)
            ≡ number_for (nat_eq (place_of named) (place_of (twin_of terms.boards entry))) (cond right (cond (is_some (published_in terms.boards before named)) AlreadyPublished (evidence_reply evidence)) OtherEntry)
        go true h =
            let same = (and_parts (is_same_entry grant.entry named) (is_evidence_for terms.boards named evidence) h).0 in
            ap (λ (b : Bool). number_for b (cond (is_some (published_in terms.boards before named)) AlreadyPublished (evidence_reply evidence)))
            (only_twin terms.boards entry named (named_first terms before lease grant named legal given same))
        go false h = refl

-- the number of an entry is the one named for its least twin
pub published_is : (terms : Terms) (events : List Event) (entry : Entry) → IsLegal terms events → published_in terms.boards events entry ≡ published_at (place_of (twin_of terms.boards entry)) events
published_is terms events entry legal = (carried (λ all. IsLegal terms all × (published_in terms.boards all entry ≡ published_at (place_of (twin_of terms.boards entry)) all)) terms push [] events legal (tt, refl)).1
  where
    push : (before : List Event) (event : Event) → IsLegal terms before × (published_in terms.boards before entry ≡ published_at (place_of (twin_of terms.boards entry)) before) → IsReply terms before event.asked event.reply
        → IsLegal terms (before ++ event ∷ []) × (published_in terms.boards (before ++ event ∷ []) entry ≡ published_at (place_of (twin_of terms.boards entry)) (before ++ event ∷ []))
    push before event (legal, same) reply =
        let place = place_of (twin_of terms.boards entry) in (
          legal_push terms before event legal reply,
          published_push (are_twins terms.boards entry) before event
              ∙ ap (λ (o : Option ℕ). option_or o (published_when (are_twins terms.boards entry) event.asked event.reply)) same
              ∙ ap (option_or (published_at place before)) (named_for terms before entry event.asked event.reply legal reply)
              ∙ sym (published_push (is_in_place place) before event),
        )

-- and that of an entry on the first board with its deal is its own
pub published_own : (terms : Terms) (events : List Event) (entry : Entry) → IsLegal terms events → is_first terms.boards entry.board ≡ true → published_in terms.boards events entry ≡ published_at (place_of entry) events
published_own terms events entry legal first =
    published_is terms events entry legal ∙ ap (λ (e : Entry). published_at (place_of e) events) (twin_itself terms.boards entry first)

-- so it is proven
pub proven_for : (terms : Terms) (events : List Event) → IsLegal terms events → AreProvenAsNamed terms events → AreProven terms events
proven_for terms events legal proven entry deal k h has =
    proven (twin_of terms.boards entry) deal k (sym (published_is terms events entry legal) ∙ h) (first_has terms.boards entry.board deal has)

-- ---- where nothing is open
-- what an entry on a first board lacks that is not open
lacks : (first unpublished free left : Bool) → (((first && unpublished) && free) && left) ≡ false → first ≡ true → (unpublished ≡ false) ⊎ ((free ≡ false) ⊎ (left ≡ false))
lacks true true true left h d = inr (inr h)
lacks true true false left h d = inr (inl refl)
lacks true false free left h d = inl refl
lacks false unpublished free left h d = cc

is_there : (o : Option ℕ) → is_none o ≡ false → is_some o ≡ true
is_there None h = cc
is_there (Some k) h = refl

pub nothing_left : (terms : Terms) (before : List Event) (now : ℕ) (entry : Entry) → IsLegal terms before → IsReply terms before (Lease now) Nothing → is_some (deal_of terms.boards entry.board) ≡ true
    → (is_some (published_in terms.boards before entry) ≡ true)
    ⊎ ((list_any (is_for_place (place_of (twin_of terms.boards entry))) (held_after before) ≡ true) ⊎ (times_leased before (place_of (twin_of terms.boards entry)) ≡ terms.tries))
nothing_left terms before now entry legal none has =
    go (lacks (is_first terms.boards (first_board terms.boards entry.board)) (is_none (published_in terms.boards before (twin_of terms.boards entry)))
    (not (list_any (is_for_place (place_of (twin_of terms.boards entry))) (held_after before)))
    (nat_lt (times_leased before (place_of (twin_of terms.boards entry))) terms.tries) (none (twin_of terms.boards entry)) first)
  where
    first : is_first terms.boards (first_board terms.boards entry.board) ≡ true
    first = let deal = some_deal (deal_of terms.boards entry.board) has in first_is_first terms.boards entry.board deal.0 deal.1

    same_number : published_in terms.boards before (twin_of terms.boards entry) ≡ published_in terms.boards before entry
    same_number = published_own terms before (twin_of terms.boards entry) legal first ∙ sym (published_is terms before entry legal)

    go : (is_none (published_in terms.boards before (twin_of terms.boards entry)) ≡ false)
        ⊎ ((not (list_any (is_for_place (place_of (twin_of terms.boards entry))) (held_after before)) ≡ false) ⊎ (nat_lt (times_leased before (place_of (twin_of terms.boards entry))) terms.tries ≡ false))
        → (is_some (published_in terms.boards before entry) ≡ true)
        ⊎ ((list_any (is_for_place (place_of (twin_of terms.boards entry))) (held_after before) ≡ true) ⊎ (times_leased before (place_of (twin_of terms.boards entry)) ≡ terms.tries))
    go (inl h) = inl (ap (λ (o : Option ℕ). is_some o) (sym same_number) ∙ is_there (published_in terms.boards before (twin_of terms.boards entry)) h)
    go (inr (inl h)) = inr (inl (not-false (list_any (is_for_place (place_of (twin_of terms.boards entry))) (held_after before)) h))
    go (inr (inr h)) =
        inr (inr (omega (arith, ltb-false (times_leased before (place_of (twin_of terms.boards entry))) terms.tries h, times_few terms before legal (place_of (twin_of terms.boards entry)))))
