-- A text has one answer, its boards or its first fault.
use Rattle.std.specs.Prelude.{◌≡◌, ◌≢◌, ℕ}
use Rattle.std.specs.Prelude.{List, Result, Err}
use Rattle.pbn_deals.specs.declared.boards.Board.{Board}
use Rattle.pbn_deals.specs.declared.faults.PbnFault.{PbnFault}
use Rattle.pbn_deals.specs.declared.faults.PbnFault.TheVariants.{OutOfMemory}
use Rattle.pbn_deals.specs.Reading.{TextAnswers}

-- a text has one answer at most
abbrev pub HasOneAnswer : Type 0
HasOneAnswer =
    (text : List ℕ) (one other : Result (List Board) PbnFault) →
    TextAnswers text one → TextAnswers text other → one ≡ other

-- a text has an answer, and it is not that memory ran out
abbrev pub HasSomeAnswer : Type 0
HasSomeAnswer =
    (text : List ℕ) →
    (answer : Result (List Board) PbnFault) × (answer ≢ Err OutOfMemory) × TextAnswers text answer
