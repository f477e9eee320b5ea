-- What is printed of the fault of a text, and the line that it names.
use Rattle.std.specs.Prelude.{ℕ, List, ◌∷◌, ◌++◌, codes, Option, Some, None}
use Rattle.std.specs.Fmt.{decimal}
use Rattle.certificate_graph.specs.declared.faults.TextFault.{TextFault}
use Rattle.certificate_graph.specs.declared.faults.TextFault.TheVariants.{Head, NodeForm, BadPattern, ChildNumber}
use Rattle.certificate_graph.specs.declared.faults.TextFault.TheVariants.{Count}
use Rattle.certificate_graph.specs.declared.faults.TextFault.TheVariants.{TooLarge, OutOfMemory}
use Rattle.cards.specs.Bytes as ascii

-- a number, a blank and a name, as in `2 NodeForm`
abbrev pub numbered : ℕ → List ℕ → List ℕ
numbered number name = decimal number ++ ascii.blank ∷ name

abbrev pub fault_number : TextFault → ℕ
fault_number (Head line) = 1
fault_number (NodeForm line) = 2
fault_number (BadPattern line) = 3
fault_number (ChildNumber line) = 4
fault_number (Count line) = 5
fault_number (TooLarge line) = 6
fault_number OutOfMemory = 7

abbrev pub fault_name : TextFault → List ℕ
fault_name (Head line) = codes "Head"
fault_name (NodeForm line) = codes "NodeForm"
fault_name (BadPattern line) = codes "BadPattern"
fault_name (ChildNumber line) = codes "ChildNumber"
fault_name (Count line) = codes "Count"
fault_name (TooLarge line) = codes "TooLarge"
fault_name OutOfMemory = codes "OutOfMemory"

abbrev pub fault_text : TextFault → List ℕ
fault_text fault = numbered (fault_number fault) (fault_name fault)

abbrev pub fault_line : TextFault → Option ℕ
fault_line (Head line) = Some line
fault_line (NodeForm line) = Some line
fault_line (BadPattern line) = Some line
fault_line (ChildNumber line) = Some line
fault_line (Count line) = Some line
fault_line (TooLarge line) = Some line
fault_line OutOfMemory = None
