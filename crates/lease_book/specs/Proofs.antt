-- What a book asks of whatever it publishes.
use Rattle.std.specs.Prelude.{◌≤◌, Result, Ok, Err}
use Rattle.checker.specs.declared.entries.Shown.{Shown}
use Rattle.checker.specs.declared.hand_faults.HandFault.{HandFault}
use Rattle.strategies.specs.Values.{IsValue}
use Rattle.lease_book.specs.declared.events.HandedIn.{HandedIn}
use Rattle.lease_book.specs.declared.events.HandedIn.TheVariants.{Shows, Faulty}

-- what every `Proven` keeps: the number is the double-dummy value
abbrev pub IsProven : Shown → Type 0
IsProven shown = IsValue shown.layout shown.declarer shown.trump shown.k

-- what a verdict has shown
abbrev pub evidence_of : Result Shown HandFault → HandedIn
evidence_of (Ok shown) = Shows shown
evidence_of (Err fault) = Faulty fault

-- where it shows something, that is proven, and no more tricks than there are
abbrev pub IsProvenEvidence : HandedIn → Type 0
IsProvenEvidence (Shows shown) = IsProven shown × (shown.k ≤ 13)
IsProvenEvidence (Faulty fault) = Unit {0}
