-- What a call tells its chair.
use Rattle.std.proofs.Common.{◌≡◌, ℕ, Bool, true, false, cond, ◌&&◌, List, [], ◌∷◌, ◌++◌, All, Option, None, Some, Result, Ok, Err, IfOk, is_some, refl, sym, ap, ◌∙◌, subst}
use Rattle.cards.specs.Deal.{Deal}
use Rattle.checker.specs.declared.claims.Claimed.{Claimed}
use Rattle.checker.specs.declared.entries.Shown.{Shown}
use Rattle.checker.specs.declared.hand_faults.HandFault.{HandFault}
use Rattle.checker.specs.declared.hand_faults.HandFault.TheVariants.{NoDeal}
use Rattle.cards.specs.declared.faults.OutOfMemory.{OutOfMemory}
use Rattle.lease_book.specs.declared.entries.Entry.{Entry}
use Rattle.lease_book.specs.declared.events.Asked.{Asked}
use Rattle.lease_book.specs.declared.events.Asked.TheVariants.{HandIn}
use Rattle.lease_book.specs.declared.events.Event.{Event}
use Rattle.lease_book.specs.declared.events.HandedIn.{HandedIn}
use Rattle.lease_book.specs.declared.events.HandedIn.TheVariants.{Shows, Faulty}
use Rattle.lease_book.specs.declared.events.Grant.{Grant}
use Rattle.lease_book.specs.declared.events.Reply.TheVariants.{Published, AlreadyPublished, OtherEntry}
use Rattle.lease_book.specs.Entries.{is_same_entry}
use Rattle.lease_book.specs.Histories.{Terms, grant_of, published_in, deal_of}
use Rattle.lease_book.specs.Proofs.{IsProven, evidence_of}
use Rattle.lease_book.specs.Replies.{is_evidence_for, evidence_reply, hand_in_reply}
use Rattle.lease_desk.specs.declared.receipts.Receipt.{Receipt}
use Rattle.lease_desk.specs.declared.views.SeenMessage.{SeenMessage}
use Rattle.lease_desk.specs.declared.views.View.{View}
use Rattle.lease_desk.specs.Receipts.{IsBefore}
use Rattle.lease_desk.specs.Views.{sitter}
use Rattle.lease_desk.specs.Askings.{IsVerdictOn}
use Rattle.lease_desk.specs.Desks.{IsNamed, IsTold}
use Rattle.lease_desk.specs.Entries.{IsAttended}
use Rattle.lease_desk.specs.HandIns.{IsValueOf, IsHandedIn}

pub told_by : (v w : View) (opening : SeenMessage) (number : ℕ) (before after : List Receipt) (asked : Asked) (told : Receipt) → v ≡ sitter (Some opening) number before → after ≡ before ++ told ∷ [] → IsAttended v w asked told → IsTold opening.book.terms asked before after told
told_by v w opening number before after asked told knows added attended = record {
  asked_is = attended.asked_is;
  named = subst (λ (l : List Receipt). IsNamed opening.book.terms l asked told) (ap (λ (u : View). u.receipts) knows) (attended.named opening (ap (λ (u : View). u.opening) knows));
  receipts = added;
  later = subst (λ (l : List Receipt). All (IsBefore told.place) l) (ap (λ (u : View). u.receipts) knows) attended.later;
}

-- what a published number was shown by
pub record IsShownAs (evidence : HandedIn) (k : ℕ) : Type 0 where
  pub shown : Shown
  pub shows : evidence ≡ Shows shown
  pub tricks : shown.k ≡ k

shown_in : (evidence : HandedIn) (k : ℕ) → evidence_reply evidence ≡ Published k → IsShownAs evidence k
shown_in (Shows shown) k e = record { shown = shown; shows = refl; tricks = cc }
shown_in (Faulty fault) k e = cc

shown_if : (fits done : Bool) (evidence : HandedIn) (k : ℕ) → cond fits (cond done AlreadyPublished (evidence_reply evidence)) OtherEntry ≡ Published k → IsShownAs evidence k
shown_if true true evidence k e = cc
shown_if true false evidence k e = shown_in evidence k e
shown_if false done evidence k e = cc

pub shown_by : (terms : Terms) (events : List Event) (grant : Option Grant) (entry : Entry) (evidence : HandedIn) (k : ℕ) → hand_in_reply terms events grant entry evidence ≡ Published k → IsShownAs evidence k
shown_by terms events None entry evidence k e = cc
shown_by terms events (Some grant) entry evidence k e =
    shown_if (is_same_entry grant.entry entry && is_evidence_for terms.boards entry evidence) (is_some (published_in terms.boards events entry)) evidence k e

value_in : (terms : Terms) (entry : Entry) (claimed : Claimed) (k : ℕ) (found : Option Deal) (verdict : Result Shown HandFault) → deal_of terms.boards entry.board ≡ found → IsVerdictOn found entry claimed verdict → IfOk verdict IsProven → IsShownAs (evidence_of verdict) k → IsValueOf terms entry k
value_in terms entry claimed k found (Err fault) on judged proven is = let apart : Faulty fault ≡ Shows is.shown = is.shows in cc
value_in terms entry claimed k None (Ok shown) on judged proven is = let apart : Ok shown ≡ Err NoDeal = judged in cc
value_in terms entry claimed k (Some deal) (Ok shown) on judged proven is =
    let same : shown ≡ is.shown = let both : Shows shown ≡ Shows is.shown = is.shows in cc in
    let of : ℕ → Shown = λ n. record { layout = deal; declarer = entry.declarer; trump = entry.trump; k = n } in
    let tricks : claimed.k ≡ k = sym (ap (λ (s : Shown). s.k) judged.0) ∙ ap (λ (s : Shown). s.k) same ∙ is.tricks in
    record { deal = deal; on = on; proven = subst IsProven (judged.0 ∙ ap of tricks) proven }

pub handed : (terms : Terms) (before after : List Receipt) (lease : ℕ) (entry : Entry) (claimed : Claimed) (verdict : Result Shown HandFault) (result : Result Receipt OutOfMemory) → IsVerdictOn (deal_of terms.boards entry.board) entry claimed verdict → IfOk verdict IsProven
    → IfOk result (IsTold terms (HandIn lease entry (evidence_of verdict)) before after) → IfOk result (IsHandedIn terms lease entry claimed before after)
handed terms before after lease entry claimed verdict (Err refused) judged proven told = tt
handed terms before after lease entry claimed verdict (Ok receipt) judged proven told = record {
  verdict = verdict;
  judged = judged;
  told_is = told;
  published = λ k e.
      value_in terms entry claimed k (deal_of terms.boards entry.board) verdict refl judged proven
      (shown_by terms told.named.earlier (grant_of told.named.earlier lease) entry (evidence_of verdict) k (sym told.named.reply_is ∙ e));
}
