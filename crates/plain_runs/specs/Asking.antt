-- The solver was asked for each entry that was leased, and its answer was handed in.
use Rattle.std.specs.Prelude.{◌≡◌, ℕ, List, [], ◌∷◌, Option, None, Some, Result, Ok, Err}
use Rattle.cards.specs.Deal.{Deal}
use Rattle.pbn_deals.specs.declared.boards.Board.{Board}
use Rattle.certificate_graph.specs.declared.answers.Answer.{Answer}
use Rattle.checker.specs.declared.entries.Shown.{Shown}
use Rattle.checker.specs.declared.entry_faults.EntryFault.{EntryFault}
use Rattle.checker.specs.declared.hand_faults.HandFault.{HandFault}
use Rattle.checker.specs.declared.hand_faults.HandFault.TheVariants as hand
use Rattle.checker.specs.Roots.{from_first}
use Rattle.checker.specs.EntryFaults.{EntryAnswers}
use Rattle.certificate_graph.specs.Solvers.{MayFind}
use Rattle.certificate_graph.specs.Bundles.{MayAnswer}
use Rattle.lease_book.specs.declared.entries.Entry.{Entry}
use Rattle.lease_book.specs.declared.events.Grant.{Grant}
use Rattle.lease_book.specs.declared.events.Asked.{Asked}
use Rattle.lease_book.specs.declared.events.Asked.TheVariants.{GiveUp, HandIn}
use Rattle.lease_book.specs.declared.events.Event.{Event}
use Rattle.lease_book.specs.Histories.{given_by, deal_of}
use Rattle.lease_book.specs.Proofs.{evidence_of}

-- the checker's answer for two graphs, as a verdict
abbrev pub as_verdict : Result Shown EntryFault → Result Shown HandFault
as_verdict (Ok shown) = Ok shown
as_verdict (Err fault) = Err (hand.Entry fault)

-- the verdict on an answer, if there is one
abbrev pub IsVerdictOnFound : Deal → Entry → Option Answer → Option (Result Shown HandFault) → Type 0
IsVerdictOnFound deal entry None verdict = verdict ≡ None
IsVerdictOnFound deal entry (Some answer) verdict =
    (checked : Result Shown EntryFault)
    × EntryAnswers deal entry.declarer entry.trump answer.k (from_first answer.declarer)
    (from_first answer.defenders) checked
    × (verdict ≡ Some (as_verdict checked))

-- the verdict on an answer that the solver may give for an entry; on a board without a deal it is not asked
abbrev pub IsFoundFor : MayFind → ℕ → Option Deal → Entry → Option (Result Shown HandFault) → Type 0
IsFoundFor may_find budget None entry verdict = verdict ≡ None
IsFoundFor may_find budget (Some deal) entry verdict =
    (found : Option Answer) × MayAnswer may_find deal entry.declarer entry.trump budget found
    × IsVerdictOnFound deal entry found verdict

-- the request that follows: the verdict is handed in under the lease, or the lease is given up
abbrev pub asked_for : ℕ → Entry → Option (Result Shown HandFault) → Asked
asked_for lease entry None = GiveUp lease
asked_for lease entry (Some verdict) = HandIn lease entry (evidence_of verdict)

-- the request follows from the lease by an answer that the solver may give
abbrev pub IsWorkOn : MayFind → ℕ → List Board → Grant → Asked → Type 0
IsWorkOn may_find budget boards grant asked =
    (verdict : Option (Result Shown HandFault))
    × IsFoundFor may_find budget (deal_of boards grant.entry.board) grant.entry verdict
    × (asked ≡ asked_for grant.lease grant.entry verdict)

-- if a lease was given, the next request follows from it
abbrev pub IsWorkedOn : MayFind → ℕ → List Board → Option Grant → List Event → Type 0
IsWorkedOn may_find budget boards None later = Unit {0}
IsWorkedOn may_find budget boards (Some grant) [] = ⊥
IsWorkedOn may_find budget boards (Some grant) (next ∷ later) = IsWorkOn may_find budget boards grant next.asked

-- For each lease that was given the solver was asked for the entry. Then the verdict on its answer was handed in under
-- that lease, or the lease was given up, since there was no answer.
abbrev pub AreWorkedOn : MayFind → ℕ → List Board → List Event → Type 0
AreWorkedOn may_find budget boards [] = Unit {0}
AreWorkedOn may_find budget boards (event ∷ later) =
    IsWorkedOn may_find budget boards (given_by event) later × AreWorkedOn may_find budget boards later
