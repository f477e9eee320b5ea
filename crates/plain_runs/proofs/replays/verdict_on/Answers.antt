use Rattle.std.proofs.Common.{◌≡◌, ℕ, List, Option, None, Some, Result, Ok, Err, MatchOption, IfOk, refl, subst}
use Rattle.std.specs.Borrow.{Bor}
use Rattle.std.specs.Option.{option_copied}
use Rattle.cards.specs.Deal.{Deal}
use Rattle.checker.specs.declared.entries.Shown.{Shown}
use Rattle.checker.specs.declared.hand_faults.HandFault.{HandFault}
use Rattle.checker.specs.declared.hand_faults.HandFault.TheVariants.{NoDeal}
use Rattle.cards.specs.declared.faults.OutOfMemory.{OutOfMemory}
use Rattle.checker.specs.Verdicts.{IsVerdict}
use Rattle.lease_book.specs.declared.entries.Entry.{Entry}
use Rattle.lease_book.specs.Proofs.{evidence_of}
use Rattle.plain_runs.specs.Requests.{IsJudged}
use Rattle.plain_runs.proofs.replays.verdict_on.Goals as goal

-- the verdict on a deal, if there is one, is judged on it
judged : (given : Option (Bor Deal)) (entry : Entry) (k : ℕ) (declarer defenders : List ℕ) (result : Result (Result Shown HandFault) OutOfMemory)
    → MatchOption given (result ≡ Ok (Err NoDeal)) (λ deal. IfOk result (IsVerdict deal.now entry.declarer entry.trump k declarer defenders))
    → IfOk result (λ verdict. IsJudged (option_copied given) entry k declarer defenders (evidence_of verdict))
judged None entry k declarer defenders result is = rw is refl
judged (Some deal) entry k declarer defenders (Ok (Ok shown)) is = is
judged (Some deal) entry k declarer defenders (Ok (Err fault)) is = is
judged (Some deal) entry k declarer defenders (Err memory) is = is

pub returns : goal.returns
returns c =
    let entry = c.args.entry in
    let found = judged c.deal_on.result entry c.args.k c.as_bytes.result.now c.as_bytes-2.result.now c.judge.result c.judge.ensures in
    rw (← c.as_bytes.ensures) (rw (← c.as_bytes-2.ensures)
    (subst (λ deal. IfOk c.judge.result (λ verdict. IsJudged deal entry c.args.k c.as_bytes.result.now c.as_bytes-2.result.now (evidence_of verdict))) c.deal_on.ensures found))
