-- The work on one entry, and the end of the work: nothing was given, and nothing was freed.
use Rattle.std.proofs.Common.{◌≡◌, ℕ, ◌+◌, true, List, [], ◌∷◌, ◌++◌, length, count_by, Option, None, Some, Result, Ok, Err, is_some, ◌⊎◌, inl, inr, refl, sym, ◌∙◌, ap, subst, append_assoc}
use Rattle.std.specs.Prelude.{Contains, nat_eq}
use Rattle.std.specs.List.{list_any}
use Rattle.std.proofs.lemmas.Bool.{false≢true, and_from, eq-eqb}
use Rattle.std.proofs.lemmas.Option.{none-some, same_Some}
use Rattle.std.proofs.lemmas.List.{length_push}
use Rattle.std.proofs.lemmas.List.Elements.{Contains-append_left, Contains-push, All-push}
use Rattle.cards.specs.Deal.{Deal, is_same_deal}
use Rattle.cards.specs.SameDeal.{is_same_deal-Decides}
use Rattle.pbn_deals.specs.declared.boards.Board.{Board}
use Rattle.certificate_graph.specs.declared.answers.Answer.{Answer}
use Rattle.checker.specs.declared.entries.Shown.{Shown}
use Rattle.checker.specs.declared.entry_faults.EntryFault.{EntryFault}
use Rattle.checker.specs.declared.hand_faults.HandFault.{HandFault}
use Rattle.checker.specs.Roots.{from_first}
use Rattle.checker.specs.EntryFaults.{EntryAnswers}
use Rattle.lease_book.specs.declared.entries.Entry.{Entry}
use Rattle.lease_book.specs.declared.events.Grant.{Grant}
use Rattle.lease_book.specs.declared.events.HandedIn.TheVariants.{Shows}
use Rattle.lease_book.specs.declared.events.Asked.{Asked}
use Rattle.lease_book.specs.declared.events.Asked.TheVariants.{Lease, Expire}
use Rattle.lease_book.specs.declared.events.Reply.{Reply}
use Rattle.lease_book.specs.declared.events.Reply.TheVariants.{Given, Nothing, Freed}
use Rattle.lease_book.specs.declared.events.Event.{Event}
use Rattle.lease_book.specs.Entries.{contract_place, place_of}
use Rattle.lease_book.specs.Twins.{deal_of, twin_of}
use Rattle.lease_book.specs.Histories.{Terms, given_by, held_after, published_in, times_leased, is_for_place, is_past}
use Rattle.lease_book.specs.Proofs.{evidence_of}
use Rattle.lease_book.specs.Replies.{IsReply, IsLeaseReply, IsLegal, is_shown_for, is_evidence_for}
use Rattle.lease_book.specs.Books.{Ledger, IsAnswered, with_event}
use Rattle.lease_book.proofs.LegalLaws.{gives_none}
use Rattle.lease_book.proofs.NamedLaws.{nothing_left}
use Rattle.plain_runs.proofs.FreeLaws.{ended, free_after_hand_in, free_after_give_up, free_at_end, published_at_end, given_at_end}
use Rattle.lease_book.specs.Done.{IsDone}
use Rattle.certificate_graph.specs.Solvers.{MayFind}
use Rattle.plain_runs.specs.Asking.{as_verdict, IsVerdictOnFound, IsFoundFor, asked_for, IsWorkedOn, AreWorkedOn}
use Rattle.lease_book.specs.Moments.{MayTell, IsTimed, AreTimed}
use Rattle.plain_runs.specs.Working.{WorksOn, GivesOut}

-- what is shown of an entry's own deal is for the entry
pub shown_for : (boards : List Board) (entry : Entry) (deal : Deal) (shown : Shown) (k : ℕ) → deal_of boards entry.board ≡ Some deal
    → shown ≡ record { layout = deal; declarer = entry.declarer; trump = entry.trump; k = k } → is_evidence_for boards entry (Shows shown) ≡ true
shown_for boards entry deal shown k on same =
    ap (λ (d : Option Deal). is_shown_for d entry shown) on
    ∙ ap (λ (s : Shown). is_shown_for (Some deal) entry s) same
    ∙ and_from (is_same_deal deal deal) (nat_eq (contract_place entry.declarer entry.trump) (contract_place entry.declarer entry.trump))
    ((is_same_deal-Decides deal deal).1 refl) (eq-eqb (contract_place entry.declarer entry.trump) (contract_place entry.declarer entry.trump) refl)

-- so is the verdict on what the solver found for it
pub found_for : (may_find : MayFind) (budget : ℕ) (boards : List Board) (entry : Entry) (verdict : Result Shown HandFault) → IsFoundFor may_find budget (deal_of boards entry.board) entry (Some verdict)
    → is_evidence_for boards entry (evidence_of verdict) ≡ true
found_for may_find budget boards entry verdict h = go (deal_of boards entry.board) refl h
  where
    of_checked : (deal : Deal) (answer : Answer) (checked : Result Shown EntryFault) → deal_of boards entry.board ≡ Some deal
        → EntryAnswers deal entry.declarer entry.trump answer.k (from_first answer.declarer) (from_first answer.defenders) checked → is_evidence_for boards entry (evidence_of (as_verdict checked)) ≡ true
    of_checked deal answer (Ok shown) on answers = shown_for boards entry deal shown answer.k on answers.0
    of_checked deal answer (Err fault) on answers = refl

    of_found : (deal : Deal) (found : Option Answer) → deal_of boards entry.board ≡ Some deal → IsVerdictOnFound deal entry found (Some verdict) → is_evidence_for boards entry (evidence_of verdict) ≡ true
    of_found deal None on is = absurd (none-some verdict (sym is))
    of_found deal (Some answer) on is =
        ap (λ v. is_evidence_for boards entry (evidence_of v)) (same_Some verdict (as_verdict is.0) is.2) ∙ of_checked deal answer is.0 on is.1

    go : (deal : Option Deal) → deal_of boards entry.board ≡ deal → IsFoundFor may_find budget deal entry (Some verdict) → is_evidence_for boards entry (evidence_of verdict) ≡ true
    go None on h = absurd (none-some verdict (sym h))
    go (Some deal) on h = of_found deal h.0 on h.2

-- the reply to a request for a lease that gives none
pub nothing_given : (terms : Terms) (before : List Event) (now : ℕ) (reply : Reply) → IsLeaseReply terms before now reply → ((lease : ℕ) (entry : Entry) (deadline : ℕ) → reply ≡ Given lease entry deadline → ⊥) → reply ≡ Nothing
nothing_given terms before now (Given lease entry deadline) is not = absurd (not lease entry deadline refl)
nothing_given terms before now Nothing is not = refl
nothing_given terms before now other is not = absurd is

-- an answer is one event more
pub one_more : (old new : Ledger) (asked : Asked) (reply : Reply) → IsAnswered old new asked reply → length new.events ≡ length old.events + 1
one_more old new asked reply answered = ap (λ (l : Ledger). length l.events) answered.history ∙ length_push old.events (record { asked = asked; reply = reply })

-- each lease is worked on, where it is in a beginning of the history and in the rest of it
pub worked_append : (may_find : MayFind) (budget : ℕ) (boards : List Board) (events later : List Event) → AreWorkedOn may_find budget boards events → AreWorkedOn may_find budget boards later
    → AreWorkedOn may_find budget boards (events ++ later)
worked_append may_find budget boards [] later h rest = rest
worked_append may_find budget boards (event ∷ events) later h rest = (go (given_by event) events h.0, worked_append may_find budget boards events later h.1 rest)
  where
    go : (given : Option Grant) (events : List Event) → IsWorkedOn may_find budget boards given events → IsWorkedOn may_find budget boards given (events ++ later)
    go None events h = tt
    go (Some grant) [] h = absurd h
    go (Some grant) (next ∷ events) h = h

-- a request more, and one that names no moment
pub timed_push : (may_tell : MayTell) (events : List Event) (event : Event) → AreTimed may_tell events → IsTimed may_tell event.asked → AreTimed may_tell (events ++ event ∷ [])
timed_push may_tell events event = All-push (λ (e : Event). IsTimed may_tell e.asked) events event

untimed : (may_tell : MayTell) (lease : ℕ) (entry : Entry) (verdict : Option (Result Shown HandFault)) → IsTimed may_tell (asked_for lease entry verdict)
untimed may_tell lease entry None = tt
untimed may_tell lease entry (Some verdict) = tt

-- a lease that is given, and the work on it
module _ (may_find : MayFind) (budget : ℕ) (first leased worked : Ledger) (now lease : ℕ) (entry : Entry) (deadline : ℕ) (given : Reply)
    (leases : IsAnswered first leased (Lease now) given) (given_is : given ≡ Given lease entry deadline) (works : WorksOn may_find budget leased worked lease entry) where
  abbrev given_event : Event
  given_event = record { asked = Lease now; reply = Given lease entry deadline }

  abbrev next_event : Event
  next_event = record { asked = asked_for lease entry works.verdict; reply = works.reply }

  leased_is : leased ≡ with_event first (Lease now) (Given lease entry deadline)
  leased_is = leases.history ∙ ap (λ (r : Reply). with_event first (Lease now) r) given_is

  events_then : worked.events ≡ (first.events ++ given_event ∷ []) ++ next_event ∷ []
  events_then = ap (λ (l : Ledger). l.events) works.answered.history ∙ ap (λ (l : Ledger). l.events ++ next_event ∷ []) leased_is

  pub terms_then : worked.terms ≡ first.terms
  terms_then = ap (λ (l : Ledger). l.terms) works.answered.history ∙ ap (λ (l : Ledger). l.terms) leased_is

  pub none_held_then : IsLegal first.terms first.events → held_after first.events ≡ [] → held_after worked.events ≡ []
  none_held_then legal none_held = ap held_after events_then ∙ go works.verdict refl works.found reply
    where
      next : IsReply first.terms first.events (Lease now) (Given lease entry deadline)
      next = subst (λ (r : Reply). IsReply first.terms first.events (Lease now) r) given_is leases.reply_is

      reply : IsReply first.terms (first.events ++ given_event ∷ []) (asked_for lease entry works.verdict) works.reply
      reply = subst (λ (l : Ledger). IsReply l.terms l.events (asked_for lease entry works.verdict) works.reply) leased_is works.answered.reply_is

      go : (verdict : Option (Result Shown HandFault)) → works.verdict ≡ verdict → IsFoundFor may_find budget (deal_of leased.terms.boards entry.board) entry works.verdict
          → IsReply first.terms (first.events ++ given_event ∷ []) (asked_for lease entry works.verdict) works.reply
          → held_after ((first.events ++ given_event ∷ []) ++ next_event ∷ []) ≡ []
      go None same found is =
          ap (λ v. held_after ((first.events ++ given_event ∷ []) ++ record { asked = asked_for lease entry v; reply = works.reply } ∷ [])) same
          ∙ free_after_give_up first.terms first.events now lease entry deadline legal none_held next works.reply
          (subst (λ v. IsReply first.terms (first.events ++ given_event ∷ []) (asked_for lease entry v) works.reply) same is)
      go (Some verdict) same found is =
          let right = found_for may_find budget leased.terms.boards entry verdict (subst (λ v. IsFoundFor may_find budget (deal_of leased.terms.boards entry.board) entry v) same found) in
          ap (λ v. held_after ((first.events ++ given_event ∷ []) ++ record { asked = asked_for lease entry v; reply = works.reply } ∷ [])) same
          ∙ free_after_hand_in first.terms first.events now lease entry deadline legal none_held next (evidence_of verdict) works.reply
          (ap (λ (l : Ledger). is_evidence_for l.terms.boards entry (evidence_of verdict)) (sym leased_is) ∙ right)
          (subst (λ v. IsReply first.terms (first.events ++ given_event ∷ []) (asked_for lease entry v) works.reply) same is)

  pub timed_then : (may_tell : MayTell) → AreTimed may_tell first.events → may_tell now → AreTimed may_tell worked.events
  timed_then may_tell before told =
      subst (λ (events : List Event). AreTimed may_tell events) (sym events_then)
      (timed_push may_tell (first.events ++ given_event ∷ []) next_event (timed_push may_tell first.events given_event before told) (untimed may_tell lease entry works.verdict))

  not_a_lease : (verdict : Option (Result Shown HandFault)) (moment : ℕ) → asked_for lease entry verdict ≡ Lease moment → ⊥
  not_a_lease None moment h = cc
  not_a_lease (Some verdict) moment h = cc

  pub worked_on_then : AreWorkedOn may_find budget first.terms.boards first.events → AreWorkedOn may_find budget worked.terms.boards worked.events
  worked_on_then before =
      let none = gives_none leased.terms leased.events (asked_for lease entry works.verdict) works.reply works.answered.reply_is (not_a_lease works.verdict) in
      let boards = first.terms.boards in
      let found = subst (λ (l : Ledger). IsFoundFor may_find budget (deal_of l.terms.boards entry.board) entry works.verdict) leased_is works.found in
      let both : AreWorkedOn may_find budget boards (given_event ∷ next_event ∷ []) =
      ((works.verdict, found, refl), (subst (λ (o : Option Grant). IsWorkedOn may_find budget boards o []) (sym none) tt, tt)) in
      subst (λ (terms : Terms). AreWorkedOn may_find budget terms.boards worked.events) (sym terms_then)
      (subst (λ (events : List Event). AreWorkedOn may_find budget boards events) (sym (events_then ∙ append_assoc first.events (given_event ∷ []) (next_event ∷ [])))
      (worked_append may_find budget boards first.events (given_event ∷ next_event ∷ []) before both))

-- a request for a lease that gives none, and an expiry
module _ (first leased expired : Ledger) (now later : ℕ) (reply last : Reply)
    (lease : IsAnswered first leased (Lease now) reply) (nothing : reply ≡ Nothing) (expire : IsAnswered leased expired (Expire later) last) where
  pub terms_still : expired.terms ≡ first.terms
  terms_still = ap (λ (l : Ledger). l.terms) expire.history ∙ ap (λ (l : Ledger). l.terms) lease.history

  events_are : expired.events ≡ ended first.events now later (count_by (is_past later) (held_after leased.events))
  events_are =
      ap (λ (l : Ledger). l.events) expire.history
      ∙ ap (λ (l : Ledger). l.events ++ record { asked = Expire later; reply = last } ∷ []) lease.history
      ∙ ap (λ (r : Reply). (first.events ++ record { asked = Lease now; reply = r } ∷ []) ++ record { asked = Expire later; reply = last } ∷ []) nothing
      ∙ ap (λ (r : Reply). (first.events ++ record { asked = Lease now; reply = Nothing } ∷ []) ++ record { asked = Expire later; reply = r } ∷ []) expire.reply_is

  -- the moments are told
  pub timed_still : (may_tell : MayTell) → AreTimed may_tell first.events → may_tell now → may_tell later → AreTimed may_tell expired.events
  timed_still may_tell before told told_later =
      subst (λ (events : List Event). AreTimed may_tell events) (sym events_are)
      (timed_push may_tell (first.events ++ record { asked = Lease now; reply = Nothing } ∷ [])
      (record { asked = Expire later; reply = Freed (count_by (is_past later) (held_after leased.events)) })
      (timed_push may_tell first.events (record { asked = Lease now; reply = Nothing }) before told) told_later)

  -- no lease is held
  pub still_none_held : held_after first.events ≡ [] → held_after expired.events ≡ []
  still_none_held none_held = ap held_after events_are ∙ free_at_end first.events now later (count_by (is_past later) (held_after leased.events)) none_held

  -- each lease was worked on
  pub still_worked_on : (may_find : MayFind) (budget : ℕ) → AreWorkedOn may_find budget first.terms.boards first.events → AreWorkedOn may_find budget expired.terms.boards expired.events
  still_worked_on may_find budget before =
      let boards = first.terms.boards in
      let nothing_event : Event = record { asked = Lease now; reply = Nothing } in
      let freed_event : Event = record { asked = Expire later; reply = Freed (count_by (is_past later) (held_after leased.events)) } in
      subst (λ (terms : Terms). AreWorkedOn may_find budget terms.boards expired.events) (sym terms_still)
      (subst (λ (events : List Event). AreWorkedOn may_find budget boards events) (sym events_are)
      (worked_append may_find budget boards (first.events ++ nothing_event ∷ []) (freed_event ∷ [])
      (worked_append may_find budget boards first.events (nothing_event ∷ []) before (tt, tt)) (tt, tt)))

  -- the work is done
  pub gives_out : (may_find : MayFind) (may_tell : MayTell) (budget : ℕ) (old : Ledger) → first.terms ≡ old.terms → IsLegal first.terms first.events → held_after first.events ≡ []
      → AreWorkedOn may_find budget first.terms.boards first.events → AreTimed may_tell expired.events → GivesOut may_find may_tell budget old expired
  gives_out may_find may_tell budget old same legal none_held worked_on timed =
      let asked : Event = record { asked = Lease now; reply = Nothing } in
      let in_leased : Contains (first.events ++ asked ∷ []) asked = Contains-push first.events asked in
      let in_ended : Contains (ended first.events now later (count_by (is_past later) (held_after leased.events))) asked =
      Contains-append_left (first.events ++ asked ∷ []) (record { asked = Expire later; reply = Freed (count_by (is_past later) (held_after leased.events)) } ∷ []) asked in_leased in
      record {
        terms = terms_still ∙ same;
        given_out = (now, subst (λ (events : List Event). Contains events asked) (sym events_are) in_ended);
        done =
            subst (λ (terms : Terms). IsDone terms expired.events) (sym terms_still)
            (subst (λ (events : List Event). IsDone first.terms events) (sym events_are)
            (done first.terms first.events legal none_held (subst (λ (r : Reply). IsReply first.terms first.events (Lease now) r) nothing lease.reply_is)));
        worked_on = still_worked_on may_find budget worked_on;
        timed = timed;
      }
    where
      done : (terms : Terms) (events : List Event) → IsLegal terms events → held_after events ≡ [] → IsReply terms events (Lease now) Nothing
          → IsDone terms (ended events now later (count_by (is_past later) (held_after leased.events)))
      done terms events legal none_held none =
          let freed = count_by (is_past later) (held_after leased.events) in
          record {
            none_held = free_at_end events now later freed none_held;
            each = λ entry deal. go entry (nothing_left terms events now entry legal none deal);
          }
        where
          go : (entry : Entry) → (is_some (published_in terms.boards events entry) ≡ true)
              ⊎ ((list_any (is_for_place (place_of (twin_of terms.boards entry))) (held_after events) ≡ true) ⊎ (times_leased events (place_of (twin_of terms.boards entry)) ≡ terms.tries))
              → (is_some (published_in terms.boards (ended events now later (count_by (is_past later) (held_after leased.events))) entry) ≡ true)
              ⊎ (times_leased (ended events now later (count_by (is_past later) (held_after leased.events))) (place_of (twin_of terms.boards entry)) ≡ terms.tries)
          go entry (inl h) = inl (ap (λ (o : Option ℕ). is_some o) (published_at_end events now later (count_by (is_past later) (held_after leased.events)) terms.boards entry) ∙ h)
          go entry (inr (inl h)) = absurd (false≢true (sym (ap (λ (held : List Grant). list_any (is_for_place (place_of (twin_of terms.boards entry))) held) none_held) ∙ h))
          go entry (inr (inr h)) =
              inr (ap (λ (grants : List Grant). count_by (is_for_place (place_of (twin_of terms.boards entry))) grants) (given_at_end events now later (count_by (is_past later) (held_after leased.events))) ∙ h)
