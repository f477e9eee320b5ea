-- The answers of a book that is leased from, and what is published by them.
use Rattle.std.proofs.Common.{◌≡◌, ℕ, ◌+◌, ◌<◌, ◌≤◌, true, not, List, [], ◌∷◌, ◌++◌, length, get_or, Option, None, Some, Result, Ok, refl, sym, ◌∙◌, ap, subst}
use Rattle.std.proofs.lemmas.List.{length_push}
use Rattle.checker.specs.declared.entries.Shown.{Shown}
use Rattle.checker.specs.declared.hand_faults.HandFault.{HandFault}
use Rattle.lease_book.specs.declared.entries.Entry.{Entry}
use Rattle.lease_book.specs.declared.events.Grant.{Grant}
use Rattle.lease_book.specs.declared.events.Asked.{Asked}
use Rattle.lease_book.specs.declared.events.Asked.TheVariants.{Lease, HandIn}
use Rattle.lease_book.specs.declared.events.HandedIn.TheVariants.{Shows}
use Rattle.lease_book.specs.declared.events.Reply.{Reply}
use Rattle.lease_book.specs.declared.events.Reply.TheVariants.{Given, Nothing}
use Rattle.lease_book.specs.Entries.{place_of}
use Rattle.lease_book.specs.Twins.{is_first}
use Rattle.lease_book.specs.Proofs.{evidence_of}
use Rattle.lease_book.specs.Histories.{Terms}
use Rattle.lease_book.specs.Replies.{IsNextLease, IsLeaseReply, IsReply, IsLegal}
use Rattle.lease_book.specs.Books.{Ledger, IsAnswered, with_event}
use Rattle.lease_book.proofs.TwinLaws.{first_there}
use Rattle.audits.specs.Firsts.{AreForEntries}
use Rattle.audits.specs.Grants.{HandsInFirsts}
use Rattle.audits.proofs.PublishLaws.{Works, is_first_board, kept_on, handed_on, hands_in}

-- ---- the answer of a book
module _ (old leased : Ledger) (now : ℕ) (firsts : List (Option Shown)) (kept : List Grant) (reply : Reply) (answered : IsAnswered old leased (Lease now) reply)
    (works : Works old.terms now firsts old.events kept) where
  pub terms_leased : leased.terms ≡ old.terms
  terms_leased = ap (λ (b : Ledger). b.terms) answered.history

  pub one_more : length leased.events ≡ length old.events + 1
  one_more = ap (λ (b : Ledger). length b.events) answered.history ∙ length_push old.events (record { asked = Lease now; reply = reply })

  pub next_lease : (lease : ℕ) (entry : Entry) (deadline : ℕ) → reply ≡ Given lease entry deadline → IsNextLease old.terms old.events now lease entry deadline
  next_lease lease entry deadline is = subst (λ (r : Reply). IsLeaseReply old.terms old.events now r) is answered.reply_is

  pub entry_there : (lease : ℕ) (entry : Entry) (deadline : ℕ) → reply ≡ Given lease entry deadline → IsLegal old.terms old.events → entry.board < length old.terms.boards
  entry_there lease entry deadline is legal =
      first_there old.terms.boards entry.board (is_first_board old.terms now firsts old.events kept works legal lease entry deadline (next_lease lease entry deadline is))

  leased_is : (lease : ℕ) (entry : Entry) (deadline : ℕ) → reply ≡ Given lease entry deadline → leased ≡ with_event old (Lease now) (Given lease entry deadline)
  leased_is lease entry deadline is = answered.history ∙ ap (λ (r : Reply). with_event old (Lease now) r) is

  pub works_kept : (lease : ℕ) (entry : Entry) (deadline : ℕ) → reply ≡ Given lease entry deadline → IsLegal old.terms old.events → get_or firsts (place_of entry) None ≡ None
      → Works leased.terms now firsts leased.events (kept ++ record { lease = lease; entry = entry; deadline = deadline } ∷ [])
  works_kept lease entry deadline is legal none =
      subst (λ (b : Ledger). Works b.terms now firsts b.events (kept ++ record { lease = lease; entry = entry; deadline = deadline } ∷ [])) (sym (leased_is lease entry deadline is))
      (kept_on old.terms now firsts old.events kept works legal lease entry deadline (next_lease lease entry deadline is) none)

  pub works_handed : (settled : Ledger) (verdict : Result Shown HandFault) (last : Reply) (shown : Shown) (lease : ℕ) (entry : Entry) (deadline : ℕ) → reply ≡ Given lease entry deadline → IsLegal old.terms old.events
      → verdict ≡ Ok shown → IsAnswered leased settled (HandIn lease entry (evidence_of verdict)) last
      → get_or firsts (place_of entry) None ≡ Some shown → AreForEntries old.terms.boards firsts → Works settled.terms now firsts settled.events kept
  works_handed settled verdict last shown lease entry deadline is legal verdict_is handed has for_entries =
      subst (λ (b : Ledger). Works b.terms now firsts b.events kept) (sym settled_is)
      (handed_on old.terms now firsts old.events kept works legal lease entry deadline next shown has (for_entries entry shown first has) last
      (subst (λ (b : Ledger). IsReply b.terms b.events (HandIn lease entry (Shows shown)) last) (leased_is lease entry deadline is) right))
    where
      next : IsNextLease old.terms old.events now lease entry deadline
      next = next_lease lease entry deadline is

      first : is_first old.terms.boards entry.board ≡ true
      first = is_first_board old.terms now firsts old.events kept works legal lease entry deadline next

      right : IsReply leased.terms leased.events (HandIn lease entry (Shows shown)) last
      right = subst (λ (v : Result Shown HandFault). IsReply leased.terms leased.events (HandIn lease entry (evidence_of v)) last) verdict_is handed.reply_is

      settled_is : settled ≡ with_event (with_event old (Lease now) (Given lease entry deadline)) (HandIn lease entry (Shows shown)) last
      settled_is =
          handed.history
          ∙ ap (λ (v : Result Shown HandFault). with_event leased (HandIn lease entry (evidence_of v)) last) verdict_is
          ∙ ap (λ (b : Ledger). with_event b (HandIn lease entry (Shows shown)) last) (leased_is lease entry deadline is)

  nothing_is : (r : Reply) → reply ≡ r → IsLeaseReply old.terms old.events now r → ((lease : ℕ) (entry : Entry) (deadline : ℕ) → reply ≡ Given lease entry deadline → ⊥) → reply ≡ Nothing
  nothing_is (Given lease entry deadline) is h not = absurd (not lease entry deadline is)
  nothing_is Nothing is h not = is
  nothing_is other is h not = absurd h

  pub ends : (first : Ledger) → old.terms ≡ first.terms → 1 ≤ first.terms.tries → ((lease : ℕ) (entry : Entry) (deadline : ℕ) → reply ≡ Given lease entry deadline → ⊥) → HandsInFirsts first leased now firsts kept
  ends first same tries not =
      let nothing = nothing_is reply refl answered.reply_is not in
      hands_in old.terms now firsts old.events kept works (subst (λ (t : Terms). 1 ≤ t.tries) (sym same) tries) (subst (λ (r : Reply). IsLeaseReply old.terms old.events now r) nothing answered.reply_is)
      first leased same (answered.history ∙ ap (λ (r : Reply). with_event old (Lease now) r) nothing)

-- whatever a book is asked, its terms stay, and its history grows
module _ (old new : Ledger) (asked : Asked) (reply : Reply) (answered : IsAnswered old new asked reply) where
  pub terms_answered : new.terms ≡ old.terms
  terms_answered = ap (λ (b : Ledger). b.terms) answered.history

  pub more_events : length new.events ≡ length old.events + 1
  more_events = ap (λ (b : Ledger). length b.events) answered.history ∙ length_push old.events (record { asked = asked; reply = reply })
