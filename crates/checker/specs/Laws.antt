-- A law of the definitions, for all graphs.
use Rattle.std.specs.Prelude.{◌≡◌, ℕ, Result}
use Rattle.cards.specs.declared.suits.Trump.{Trump}
use Rattle.cards.specs.declared.seats.Seat.{Seat}
use Rattle.cards.specs.Deal.{Deal}
use Rattle.checker.specs.declared.entry_faults.EntryFault.{EntryFault}
use Rattle.checker.specs.declared.entries.Shown.{Shown}
use Rattle.checker.specs.Roots.{RootedShape}
use Rattle.checker.specs.EntryFaults.{EntryAnswers}

-- two graphs have at most one answer
abbrev pub HasOneEntryAnswer : Type 0
HasOneEntryAnswer =
    (deal : Deal) (declarer : Seat) (trump : Trump) (tricks : ℕ) (declarers defenders : RootedShape)
    (one other : Result Shown EntryFault)
    → EntryAnswers deal declarer trump tricks declarers defenders one
    → EntryAnswers deal declarer trump tricks declarers defenders other
    → one ≡ other
