-- The number and the name of a fault, what is printed of it, and the line that it names.
use Rattle.std.specs.Prelude.{ℕ, List, ◌∷◌, ◌++◌, codes, Option, Some, None}
use Rattle.std.specs.Fmt.{decimal}
use Rattle.pbn_deals.specs.declared.faults.PbnFault.{PbnFault}
use Rattle.pbn_deals.specs.declared.faults.PbnFault.TheVariants.{TagForm, OpenComment, SecondDeal, DealForm, CardTwice}
use Rattle.pbn_deals.specs.declared.faults.PbnFault.TheVariants.{HandSize, Inherited, TooManyBoards, OutOfMemory}
use Rattle.cards.specs.Bytes as ascii

abbrev pub fault_number : PbnFault → ℕ
fault_number (TagForm line) = 1
fault_number (OpenComment line) = 2
fault_number (SecondDeal line) = 3
fault_number (DealForm line) = 4
fault_number (CardTwice line) = 5
fault_number (HandSize line) = 6
fault_number (Inherited line) = 7
fault_number (TooManyBoards line) = 8
fault_number OutOfMemory = 9

abbrev pub fault_name : PbnFault → List ℕ
fault_name (TagForm line) = codes "TagForm"
fault_name (OpenComment line) = codes "OpenComment"
fault_name (SecondDeal line) = codes "SecondDeal"
fault_name (DealForm line) = codes "DealForm"
fault_name (CardTwice line) = codes "CardTwice"
fault_name (HandSize line) = codes "HandSize"
fault_name (Inherited line) = codes "Inherited"
fault_name (TooManyBoards line) = codes "TooManyBoards"
fault_name OutOfMemory = codes "OutOfMemory"

-- the number and the name, as in `5 CardTwice`
abbrev pub fault_text : PbnFault → List ℕ
fault_text fault = decimal (fault_number fault) ++ ascii.blank ∷ fault_name fault

abbrev pub fault_line : PbnFault → Option ℕ
fault_line (TagForm line) = Some line
fault_line (OpenComment line) = Some line
fault_line (SecondDeal line) = Some line
fault_line (DealForm line) = Some line
fault_line (CardTwice line) = Some line
fault_line (HandSize line) = Some line
fault_line (Inherited line) = Some line
fault_line (TooManyBoards line) = Some line
fault_line OutOfMemory = None
