-- When each fault of a farm comes.
use Rattle.std.specs.Prelude.{◌≡◌, ◌<◌, List, length, ⊤}
use Rattle.pbn_deals.specs.declared.boards.Board.{Board}
use Rattle.lease_book.specs.declared.faults.BookFault.TheVariants.{TooManyBoards}
use Rattle.farm_threads.specs.declared.halts.Halt.{Halt}
use Rattle.farm_threads.specs.declared.halts.Halt.TheVariants as halts
use Rattle.farm.specs.declared.faults.FarmFault.{FarmFault}
use Rattle.farm.specs.declared.faults.FarmFault.TheVariants.{OutOfMemory, NoThread, Book}

-- the book is at fault only if there are too many boards
abbrev pub IsFaultOf : List Board → FarmFault → Type 0
IsFaultOf boards OutOfMemory = ⊤
IsFaultOf boards NoThread = ⊤
IsFaultOf boards (Book fault) = (fault ≡ TooManyBoards) × (4096 < length boards)

-- work on a book ends early for memory or for a thread, never for its boards
abbrev pub IsHalt : FarmFault → Type 0
IsHalt OutOfMemory = ⊤
IsHalt NoThread = ⊤
IsHalt (Book fault) = ⊥

-- the fault if a run ended early
abbrev pub halt_fault : Halt → FarmFault
halt_fault halts.OutOfMemory = OutOfMemory
halt_fault halts.NoThread = NoThread
