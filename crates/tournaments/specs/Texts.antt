-- The boards of a text.
use Rattle.std.specs.Prelude.{ℕ, List, Result, Ok, Err, ⊤}
use Rattle.std.proofs.Common.{Vec, Global}
use Rattle.pbn_deals.specs.declared.boards.Board.{Board}
use Rattle.pbn_deals.specs.Reading.{TextAnswers}
use Rattle.tournaments.specs.declared.faults.MakeFault.{MakeFault}
use Rattle.tournaments.specs.declared.faults.MakeFault.TheVariants.{OutOfMemory, Read, Pbn, NoThread, Write}

-- the boards that a text says, or its first fault, or memory ran out
abbrev pub TakesBoards : List ℕ → Result (Vec Board Global) MakeFault → Type 0
TakesBoards text (Ok boards) = TextAnswers text (Ok boards.items)
TakesBoards text (Err OutOfMemory) = ⊤
TakesBoards text (Err Read) = ⊥
TakesBoards text (Err (Pbn fault)) = TextAnswers text (Err fault)
TakesBoards text (Err NoThread) = ⊥
TakesBoards text (Err Write) = ⊥
