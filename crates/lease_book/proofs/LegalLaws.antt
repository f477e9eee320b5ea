-- What holds of every legal history.
use Rattle.std.proofs.Common.{◌≡◌, ℕ, ◌+◌, ◌*◌, ◌<◌, ◌≤◌, Bool, true, false, not, cond, ◌&&◌, List, [], ◌∷◌, ◌++◌, length, count_by, Option, None, Some, is_some, is_none, refl, sym, ◌∙◌, ap, subst, ◌⊎◌, inl, inr, append_assoc, arith}
use Rattle.std.specs.Prelude.{nat_lt}
use Rattle.std.specs.List.{list_any, cons_option}
use Rattle.std.proofs.lemmas.Bool.{and_parts, ltb-true, eqb-true}
use Rattle.std.proofs.lemmas.List.{append-nil}
use Rattle.std.proofs.lemmas.List.Sums.{sum_by_push}
use Rattle.std.proofs.lemmas.Option.{none-some, same_Some}
use Rattle.lease_book.specs.declared.entries.Entry.{Entry}
use Rattle.lease_book.specs.declared.events.Grant.{Grant}
use Rattle.lease_book.specs.declared.events.HandedIn.{HandedIn}
use Rattle.lease_book.specs.declared.events.HandedIn.TheVariants.{Shows, Faulty}
use Rattle.lease_book.specs.declared.events.Asked.{Asked}
use Rattle.lease_book.specs.declared.events.Asked.TheVariants.{Lease, Expire, GiveUp, HandIn}
use Rattle.lease_book.specs.declared.events.Reply.{Reply}
use Rattle.lease_book.specs.declared.events.Reply.TheVariants.{Given, Nothing, GaveUp, NotHeld, UnknownLease, OtherEntry, AlreadyPublished}
use Rattle.lease_book.specs.declared.events.Event.{Event}
use Rattle.lease_book.specs.Entries.{place_of, is_same_entry}
use Rattle.lease_book.specs.Twins.{is_first}
use Rattle.lease_book.specs.Histories.{Terms, given_as, given_by, given_in, grant_of, held_after, is_held, is_for_place, is_open, published_in, times_leased}
use Rattle.lease_book.specs.Replies.{IsNextLease, IsLeaseReply, IsReply, IsLegalAfter, IsLegal, is_evidence_for, evidence_reply, hand_in_reply}
use Rattle.lease_book.specs.Keeping.{Among, AreNumberedFrom}
use Rattle.lease_book.proofs.EntryLaws.{contract_below}
use Rattle.lease_book.proofs.TwinLaws.{first_there}
use Rattle.lease_book.proofs.HistoryLaws.{given_push}
use Rattle.lease_book.proofs.HeldLaws.{among_append, numbered_push}

-- what each event of a legal history carries on holds of the whole
pub carried : (P : List Event → Type 0) (terms : Terms) → ((before : List Event) (event : Event) → P before → IsReply terms before event.asked event.reply → P (before ++ event ∷ []))
    → (before later : List Event) → IsLegalAfter terms before later → P before → P (before ++ later)
carried P terms push before [] legal p = subst P (sym (append-nil before)) p
carried P terms push before (event ∷ later) legal p =
    subst P (append_assoc before (event ∷ []) later) (carried P terms push (before ++ event ∷ []) later legal.1 (push before event p legal.0))

-- ---- the leases given
pub give_up_gives_none : (given held : Bool) → given_as (cond given (cond held GaveUp NotHeld) UnknownLease) ≡ None
give_up_gives_none true true = refl
give_up_gives_none true false = refl
give_up_gives_none false held = refl

hand_in_gives_none : (right published : Bool) (evidence : HandedIn) → given_as (cond right (cond published AlreadyPublished (evidence_reply evidence)) OtherEntry) ≡ None
hand_in_gives_none true true evidence = refl
hand_in_gives_none true false (Shows shown) = refl
hand_in_gives_none true false (Faulty fault) = refl
hand_in_gives_none false published evidence = refl

-- only a request for a lease is given one
pub gives_none : (terms : Terms) (before : List Event) (asked : Asked) (reply : Reply) → IsReply terms before asked reply → ((now : ℕ) → asked ≡ Lease now → ⊥) → given_as reply ≡ None
gives_none terms before (Lease now) reply is other = absurd (other now refl)
gives_none terms before (Expire now) reply is other = ap given_as is
gives_none terms before (GiveUp lease) reply is other = ap given_as is ∙ give_up_gives_none (is_some (grant_of before lease)) (is_held before lease)
gives_none terms before (HandIn lease entry evidence) reply is other = ap given_as is ∙ of_lease (grant_of before lease)
  where
    of_lease : (own : Option Grant) → given_as (hand_in_reply terms before own entry evidence) ≡ None
    of_lease None = refl
    of_lease (Some own) = hand_in_gives_none (is_same_entry own.entry entry && is_evidence_for terms.boards entry evidence) (is_some (published_in terms.boards before entry)) evidence

-- and it is the next
pub gives : (terms : Terms) (before : List Event) (asked : Asked) (reply : Reply) (grant : Grant) → IsReply terms before asked reply → given_as reply ≡ Some grant → (now : ℕ) × IsNextLease terms before now grant.lease grant.entry grant.deadline
gives terms before (Lease now) reply grant is g = (now, of_lease reply is g)
  where
    of_lease : (reply : Reply) → IsLeaseReply terms before now reply → given_as reply ≡ Some grant → IsNextLease terms before now grant.lease grant.entry grant.deadline
    of_lease (Given lease entry deadline) next g = subst (λ (x : Grant). IsNextLease terms before now x.lease x.entry x.deadline) (same_Some (record { lease = lease; entry = entry; deadline = deadline }) grant g) next
    of_lease Nothing none g = absurd (none-some grant g)
    of_lease reply none g = absurd none
gives terms before (Expire now) reply grant is g = absurd (none-some grant (sym (gives_none terms before (Expire now) reply is (λ n e. cc)) ∙ g))
gives terms before (GiveUp lease) reply grant is g = absurd (none-some grant (sym (gives_none terms before (GiveUp lease) reply is (λ n e. cc)) ∙ g))
gives terms before (HandIn lease entry evidence) reply grant is g =
    absurd (none-some grant (sym (gives_none terms before (HandIn lease entry evidence) reply is (λ n e. cc)) ∙ g))

-- the leases after one event more
by_given : (P : List Grant → Type 0) (before : List Event) (event : Event) → P (given_in before)
    → ((grant : Grant) → given_by event ≡ Some grant → P (given_in before ++ grant ∷ [])) → P (given_in (before ++ event ∷ []))
by_given P before event same more = subst P (sym (given_push before event)) (go (given_by event) refl)
  where
    go : (given : Option Grant) → given_by event ≡ given → P (given_in before ++ cons_option given [])
    go None h = subst P (sym (append-nil (given_in before))) same
    go (Some grant) h = more grant h

-- they are numbered in turn
pub numbered : (terms : Terms) (events : List Event) → IsLegal terms events → AreNumberedFrom 1 (given_in events)
numbered terms events legal = carried (λ all. AreNumberedFrom 1 (given_in all)) terms push [] events legal tt
  where
    push : (before : List Event) (event : Event) → AreNumberedFrom 1 (given_in before) → IsReply terms before event.asked event.reply → AreNumberedFrom 1 (given_in (before ++ event ∷ []))
    push before event are reply =
        by_given (AreNumberedFrom 1) before event are
        (λ grant g. numbered_push 1 (given_in before) grant are (omega (arith, (gives terms before event.asked event.reply grant reply g).1.next)))

-- ---- few of them
pub record AreFew (terms : Terms) (grants : List Grant) : Type 0 where
  times : (place : ℕ) → count_by (is_for_place place) grants ≤ terms.tries
  there : (grant : Grant) → Among grant grants → place_of grant.entry < 20 * length terms.boards
  first : (grant : Grant) → Among grant grants → is_first terms.boards grant.entry.board ≡ true

open_parts : (terms : Terms) (before : List Event) (entry : Entry) → is_open terms before entry ≡ true → (is_first terms.boards entry.board ≡ true) × (times_leased before (place_of entry) < terms.tries)
open_parts terms before entry ready =
    let first = is_first terms.boards entry.board in
    let unpublished = is_none (published_in terms.boards before entry) in
    let free = not (list_any (is_for_place (place_of entry)) (held_after before)) in
    let parts = and_parts ((first && unpublished) && free) (nat_lt (times_leased before (place_of entry)) terms.tries) ready in
    ((and_parts first unpublished (and_parts (first && unpublished) free parts.0).0).0, ltb-true (times_leased before (place_of entry)) terms.tries parts.1)

-- what holds of each lease and of one more
each_pushed : (P : Grant → Type 0) (grants : List Grant) (new : Grant) → ((other : Grant) → Among other grants → P other) → P new
    → (grant : Grant) → Among grant (grants ++ new ∷ []) → P grant
each_pushed P grants new are is grant m = go (among_append grants (new ∷ []) grant m)
  where
    go : Among grant grants ⊎ Among grant (new ∷ []) → P grant
    go (inl older) = are grant older
    go (inr (inl same)) = subst P same is
    go (inr (inr none)) = elim none [ ]

pub few : (terms : Terms) (events : List Event) → IsLegal terms events → AreFew terms (given_in events)
few terms events legal = carried (λ all. AreFew terms (given_in all)) terms push [] events legal (record { times = λ place. omega arith; there = λ grant m. elim m [ ]; first = λ grant m. elim m [ ] })
  where
    one_more : (place : ℕ) (grants : List Grant) (grant : Grant) → count_by (is_for_place place) grants ≤ terms.tries → count_by (is_for_place (place_of grant.entry)) grants < terms.tries
        → count_by (is_for_place place) (grants ++ grant ∷ []) ≤ terms.tries
    one_more place grants grant at_most left =
        let more = sum_by_push (λ (other : Grant). cond (is_for_place place other) 1 0) grants grant in
        go (is_for_place place grant) refl more
      where
        go : (here : Bool) → is_for_place place grant ≡ here → count_by (is_for_place place) (grants ++ grant ∷ []) ≡ count_by (is_for_place place) grants + cond (is_for_place place grant) 1 0
            → count_by (is_for_place place) (grants ++ grant ∷ []) ≤ terms.tries
        go true h more =
            let same = ap (λ n. count_by (is_for_place n) grants) (eqb-true (place_of grant.entry) place h) in
            omega (arith, more, ap {B = ℕ} (λ b. cond b 1 0) h, same, left)
        go false h more = omega (arith, more, ap {B = ℕ} (λ b. cond b 1 0) h, at_most)

    push : (before : List Event) (event : Event) → AreFew terms (given_in before) → IsReply terms before event.asked event.reply → AreFew terms (given_in (before ++ event ∷ []))
    push before event are reply =
        by_given (AreFew terms) before event are
        (λ grant g.
        let parts = open_parts terms before grant.entry (gives terms before event.asked event.reply grant reply g).1.ready in
        record {
          times = λ place. one_more place (given_in before) grant (are.times place) parts.1;
          there = each_pushed (λ (x : Grant). place_of x.entry < 20 * length terms.boards) (given_in before) grant are.there
              (omega (arith, first_there terms.boards grant.entry.board parts.0, contract_below grant.entry.declarer grant.entry.trump));
          first = each_pushed (λ (x : Grant). is_first terms.boards x.entry.board ≡ true) (given_in before) grant are.first parts.0;
        })

-- each is of an entry on the first board with its deal
pub firsts : (terms : Terms) (events : List Event) → IsLegal terms events → (grant : Grant) → Among grant (given_in events) → is_first terms.boards grant.entry.board ≡ true
firsts terms events legal = (few terms events legal).first

pub times_few : (terms : Terms) (events : List Event) → IsLegal terms events → (place : ℕ) → times_leased events place ≤ terms.tries
times_few terms events legal place = (few terms events legal).times place
