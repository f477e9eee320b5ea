-- The verdict on an answer, with the graphs that show it.
use Rattle.std.specs.Prelude.{ℕ, List, Result, Ok, Err}
use Rattle.cards.specs.declared.seats.Seat.{Seat}
use Rattle.cards.specs.declared.suits.Trump.{Trump}
use Rattle.cards.specs.Deal.{Deal}
use Rattle.cards.specs.Devices.{Device}
use Rattle.checker.specs.declared.hand_faults.HandFault.{HandFault}
use Rattle.checker.specs.declared.judging.Accepted.{Accepted}
use Rattle.checker.specs.Judging.{IsAccepted}
use Rattle.deal_subcommands.specs.declared.faults.DealFault.{DealFault}
use Rattle.deal_subcommands.specs.Check.Runs.{IsVerdictOf, LacksVerdict, ReadsVerdict}

-- the verdict on a text, with the graphs that show it, or why there is none
abbrev pub JudgesAnswer : List ℕ → Deal → Seat → Trump → Result (Result Accepted HandFault) DealFault → Type 0
JudgesAnswer text deal declarer trump (Ok (Ok accepted)) =
    IsVerdictOf text deal declarer trump (Ok accepted.proven) × IsAccepted accepted
JudgesAnswer text deal declarer trump (Ok (Err fault)) = IsVerdictOf text deal declarer trump (Err fault)
JudgesAnswer text deal declarer trump (Err fault) = LacksVerdict text fault

-- the same of what a source gives
abbrev pub JudgesInput : Deal → Seat → Trump → Device → Device → Result (Result Accepted HandFault) DealFault → Type 0
JudgesInput deal declarer trump old new (Ok (Ok accepted)) =
    ReadsVerdict deal declarer trump old new (Ok (Ok accepted.proven)) × IsAccepted accepted
JudgesInput deal declarer trump old new (Ok (Err fault)) = ReadsVerdict deal declarer trump old new (Ok (Err fault))
JudgesInput deal declarer trump old new (Err fault) = ReadsVerdict deal declarer trump old new (Err fault)
