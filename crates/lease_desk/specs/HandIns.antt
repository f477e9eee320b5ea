-- What a hand-in tells its chair.
use Rattle.std.specs.Prelude.{◌≡◌, ℕ, List, Some, Result}
use Rattle.cards.specs.Deal.{Deal}
use Rattle.checker.specs.declared.claims.Claimed.{Claimed}
use Rattle.checker.specs.declared.entries.Shown.{Shown}
use Rattle.checker.specs.declared.hand_faults.HandFault.{HandFault}
use Rattle.lease_book.specs.declared.entries.Entry.{Entry}
use Rattle.lease_book.specs.declared.events.Asked.TheVariants.{HandIn}
use Rattle.lease_book.specs.declared.events.Reply.TheVariants.{Published}
use Rattle.lease_book.specs.Histories.{Terms, deal_of}
use Rattle.lease_book.specs.Proofs.{IsProven, evidence_of}
use Rattle.lease_desk.specs.declared.receipts.Receipt.{Receipt}
use Rattle.lease_desk.specs.Askings.{IsVerdictOn}
use Rattle.lease_desk.specs.Desks.{IsTold}

-- the number is the double-dummy value of the entry on the deal of its board
pub record IsValueOf (terms : Terms) (entry : Entry) (k : ℕ) : Type 0 where
  pub deal : Deal
  pub on : deal_of terms.boards entry.board ≡ Some deal
  pub proven : IsProven (record { layout = deal; declarer = entry.declarer; trump = entry.trump; k = k })

-- The verdict on the claim was handed in under the lease. A number that the reply publishes is the entry's value.
pub record IsHandedIn (terms : Terms) (lease : ℕ) (entry : Entry) (claimed : Claimed) (before after : List Receipt)
    (told : Receipt)
    : Type 0 where
  pub verdict : Result Shown HandFault
  pub judged : IsVerdictOn (deal_of terms.boards entry.board) entry claimed verdict
  pub told_is : IsTold terms (HandIn lease entry (evidence_of verdict)) before after told
  pub published : (k : ℕ) → told.event.reply ≡ Published k → IsValueOf terms entry k
