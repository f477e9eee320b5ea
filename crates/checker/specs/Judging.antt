-- The verdict on two texts, with the graphs that show it.
use Rattle.std.specs.Prelude.{ℕ, List, Result, Ok, Err}
use Rattle.cards.specs.declared.suits.Trump.{Trump}
use Rattle.cards.specs.declared.seats.Seat.{Seat}
use Rattle.cards.specs.Deal.{Deal}
use Rattle.checker.specs.declared.hand_faults.HandFault.{HandFault}
use Rattle.checker.specs.declared.judging.Accepted.{Accepted}
use Rattle.checker.specs.Claims.{ShowValue}
use Rattle.checker.specs.Roots.{from_first}
use Rattle.checker.specs.Verdicts.{IsVerdict}

-- the graphs of what was accepted show it
abbrev pub IsAccepted : Accepted → Type 0
IsAccepted accepted =
    ShowValue accepted.proven.layout accepted.proven.declarer accepted.proven.trump accepted.proven.k
    (from_first accepted.declarers) (from_first accepted.defenders)

-- the verdict, with the graphs that show what was accepted
abbrev pub JudgesGraphs : Deal → Seat → Trump → ℕ → List ℕ → List ℕ → Result Accepted HandFault → Type 0
JudgesGraphs deal declarer trump tricks declarer_text defenders_text (Ok accepted) =
    IsVerdict deal declarer trump tricks declarer_text defenders_text (Ok accepted.proven) × IsAccepted accepted
JudgesGraphs deal declarer trump tricks declarer_text defenders_text (Err fault) =
    IsVerdict deal declarer trump tricks declarer_text defenders_text (Err fault)
