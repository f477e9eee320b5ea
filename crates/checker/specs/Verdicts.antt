-- The verdict on two texts that have to be the texts of two graphs.
use Rattle.std.specs.Prelude.{ℕ, List, Result, Ok, Err}
use Rattle.cards.specs.declared.suits.Trump.{Trump}
use Rattle.cards.specs.declared.seats.Seat.{Seat}
use Rattle.cards.specs.Deal.{Deal}
use Rattle.certificate_graph.specs.Graphs.{GraphShape}
use Rattle.certificate_graph.specs.TextFaults.{TextAnswers}
use Rattle.checker.specs.declared.entry_faults.EntryFault.{EntryFault}
use Rattle.checker.specs.declared.hand_faults.HandFault.{HandFault}
use Rattle.checker.specs.declared.hand_faults.HandFault.TheVariants.{DeclarerText, DefendersText, Entry, NoDeal}
use Rattle.checker.specs.declared.entries.Shown.{Shown}
use Rattle.checker.specs.Roots.{from_first}
use Rattle.checker.specs.EntryFaults.{EntryAnswers}

-- these are the texts of two graphs, and this is the answer for the graphs
pub record GraphsAnswer (deal : Deal) (declarer : Seat) (trump : Trump) (tricks : ℕ)
    (declarer_text defenders_text : List ℕ)
    (answer : Result Shown EntryFault) : Type 0 where
  pub declarers : GraphShape
  pub defenders : GraphShape
  pub declarers_read : TextAnswers declarer_text (Ok declarers)
  pub defenders_read : TextAnswers defenders_text (Ok defenders)
  pub answers : EntryAnswers deal declarer trump tricks (from_first declarers) (from_first defenders) answer

-- The verdict: the fault of the first text that has one, declarer's first, otherwise the answer for the graphs.
abbrev pub IsVerdict : Deal → Seat → Trump → ℕ → List ℕ → List ℕ → Result Shown HandFault → Type 0
IsVerdict deal declarer trump tricks declarer_text defenders_text (Ok shown) =
    GraphsAnswer deal declarer trump tricks declarer_text defenders_text (Ok shown)
IsVerdict deal declarer trump tricks declarer_text defenders_text (Err (Entry fault)) =
    GraphsAnswer deal declarer trump tricks declarer_text defenders_text (Err fault)
IsVerdict deal declarer trump tricks declarer_text defenders_text (Err (DeclarerText fault)) =
    TextAnswers declarer_text (Err fault)
IsVerdict deal declarer trump tricks declarer_text defenders_text (Err (DefendersText fault)) =
    (declarers : GraphShape) × TextAnswers declarer_text (Ok declarers) × TextAnswers defenders_text (Err fault)
IsVerdict deal declarer trump tricks declarer_text defenders_text (Err NoDeal) = ⊥
