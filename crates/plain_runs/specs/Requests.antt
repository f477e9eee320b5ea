-- Requests whose hand-ins bring their texts, and what they ask of a book.
use Rattle.std.specs.Prelude.{◌≡◌, ℕ, List, [], ◌∷◌, Option, None, Some, Ok, Err}
use Rattle.cards.specs.Deal.{Deal}
use Rattle.pbn_deals.specs.declared.boards.Board.{Board}
use Rattle.checker.specs.declared.hand_faults.HandFault.TheVariants.{NoDeal}
use Rattle.checker.specs.Verdicts.{IsVerdict}
use Rattle.lease_book.specs.declared.entries.Entry.{Entry}
use Rattle.lease_book.specs.declared.events.HandedIn.{HandedIn}
use Rattle.lease_book.specs.declared.events.HandedIn.TheVariants.{Shows, Faulty}
use Rattle.lease_book.specs.declared.events.Asked.{Asked}
use Rattle.lease_book.specs.declared.events.Asked.TheVariants.{Lease, Expire, GiveUp, HandIn}
use Rattle.lease_book.specs.declared.events.Reply.{Reply}
use Rattle.lease_book.specs.declared.events.Event.{Event}
use Rattle.plain_runs.specs.declared.requests.Request.{Request}
use Rattle.plain_runs.specs.declared.requests.Request.TheVariants as request
use Rattle.lease_book.specs.Histories.{deal_of}
use Rattle.lease_book.specs.Books.{Ledger, IsAnswered}

-- what is found in the texts that are handed in for an entry: what the verdict on its board's deal shows, if it has one
abbrev pub IsJudged : Option Deal → Entry → ℕ → List ℕ → List ℕ → HandedIn → Type 0
IsJudged None entry k declarer defenders evidence = evidence ≡ Faulty NoDeal
IsJudged (Some deal) entry k declarer defenders (Shows shown) =
    IsVerdict deal entry.declarer entry.trump k declarer defenders (Ok shown)
IsJudged (Some deal) entry k declarer defenders (Faulty fault) =
    IsVerdict deal entry.declarer entry.trump k declarer defenders (Err fault)

-- what a book over these boards is asked by a request
abbrev pub IsAskedBy : List Board → Request → Asked → Type 0
IsAskedBy boards (request.Lease now) asked = asked ≡ Lease now
IsAskedBy boards (request.Expire now) asked = asked ≡ Expire now
IsAskedBy boards (request.GiveUp lease) asked = asked ≡ GiveUp lease
IsAskedBy boards (request.HandIn lease entry k declarer defenders) asked =
    (evidence : HandedIn) × IsJudged (deal_of boards entry.board) entry k declarer defenders evidence
    × (asked ≡ HandIn lease entry evidence)

-- the events are those of the requests, one for each, in their order
abbrev pub AreAskedBy : List Board → List Request → List Event → Type 0
AreAskedBy boards [] [] = Unit {0}
AreAskedBy boards (first ∷ requests) (event ∷ events) =
    IsAskedBy boards first event.asked × AreAskedBy boards requests events
AreAskedBy boards _ _ = ⊥

-- the book was asked what the request asks, and answered
pub record IsAnswerTo (old new : Ledger) (asking : Request) (reply : Reply) : Type 0 where
  pub asked : Asked
  pub by : IsAskedBy old.terms.boards asking asked
  pub answered : IsAnswered old new asked reply
