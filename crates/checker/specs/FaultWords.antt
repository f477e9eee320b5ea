-- The numbers and the names of faults, and their printed texts.
use Rattle.std.specs.Prelude.{ℕ, List, [], ◌∷◌, ◌++◌, codes, Option, None, Some}
use Rattle.std.specs.Fmt.{decimal}
use Rattle.certificate_graph.specs.declared.faults.TextFault.{TextFault}
use Rattle.certificate_graph.specs.FaultWords.{numbered, fault_line, fault_text}
use Rattle.checker.specs.declared.faults.StepFault.{StepFault}
use Rattle.checker.specs.declared.faults.StepFault.TheVariants.{CardNotLegal, BranchMissing, BranchExtra, LeafWinners}
use Rattle.checker.specs.declared.faults.StepFault.TheVariants.{ChildLead, ChildNeed, ChildPattern, TreeShape}
use Rattle.checker.specs.declared.faults.NodeFault.{NodeFault}
use Rattle.checker.specs.declared.entry_faults.PartFault.{PartFault}
use Rattle.checker.specs.declared.entry_faults.PartFault.TheVariants.{RootMissing, RootNeedless, RootTrump, RootSide}
use Rattle.checker.specs.declared.entry_faults.PartFault.TheVariants.{RootLead, RootNeed, RootPattern, Node}
use Rattle.checker.specs.declared.entry_faults.EntryFault.{EntryFault}
use Rattle.checker.specs.declared.entry_faults.EntryFault.TheVariants.{Declarer, Defenders, KTooLarge}
use Rattle.checker.specs.declared.hand_faults.HandFault.{HandFault}
use Rattle.checker.specs.declared.hand_faults.HandFault.TheVariants.{Entry, DeclarerText, DefendersText, NoDeal}
use Rattle.cards.specs.Bytes as ascii

abbrev pub step_fault_number : StepFault → ℕ
step_fault_number CardNotLegal = 1
step_fault_number BranchMissing = 2
step_fault_number BranchExtra = 3
step_fault_number LeafWinners = 4
step_fault_number ChildLead = 5
step_fault_number ChildNeed = 6
step_fault_number ChildPattern = 7
step_fault_number TreeShape = 8

abbrev pub step_fault_name : StepFault → List ℕ
step_fault_name CardNotLegal = codes "CardNotLegal"
step_fault_name BranchMissing = codes "BranchMissing"
step_fault_name BranchExtra = codes "BranchExtra"
step_fault_name LeafWinners = codes "LeafWinners"
step_fault_name ChildLead = codes "ChildLead"
step_fault_name ChildNeed = codes "ChildNeed"
step_fault_name ChildPattern = codes "ChildPattern"
step_fault_name TreeShape = codes "TreeShape"

abbrev pub part_fault_number : PartFault → ℕ
part_fault_number RootMissing = 1
part_fault_number RootNeedless = 2
part_fault_number RootTrump = 3
part_fault_number RootSide = 4
part_fault_number RootLead = 5
part_fault_number RootNeed = 6
part_fault_number RootPattern = 7
part_fault_number (Node fault) = 8

abbrev pub part_fault_name : PartFault → List ℕ
part_fault_name RootMissing = codes "RootMissing"
part_fault_name RootNeedless = codes "RootNeedless"
part_fault_name RootTrump = codes "RootTrump"
part_fault_name RootSide = codes "RootSide"
part_fault_name RootLead = codes "RootLead"
part_fault_name RootNeed = codes "RootNeed"
part_fault_name RootPattern = codes "RootPattern"
part_fault_name (Node fault) = codes "Node"

-- ---- the printed texts
-- `n Name`
abbrev pub step_fault_text : StepFault → List ℕ
step_fault_text fault = numbered (step_fault_number fault) (step_fault_name fault)

-- `i n Name`, after the number of the node
abbrev pub node_fault_text : NodeFault → List ℕ
node_fault_text fault = decimal fault.number ++ ascii.blank ∷ step_fault_text fault.fault

-- the node, after the name of a fault that names one
abbrev pub after_part : PartFault → List ℕ
after_part (Node fault) = ascii.blank ∷ node_fault_text fault
after_part _ = []

-- `n Name`, or `8 Node i n Name`
abbrev pub part_fault_text : PartFault → List ℕ
part_fault_text fault = numbered (part_fault_number fault) (part_fault_name fault) ++ after_part fault

-- the side whose graph is at fault, before the fault
abbrev pub entry_fault_text : EntryFault → List ℕ
entry_fault_text (Declarer fault) = codes "declarer " ++ part_fault_text fault
entry_fault_text (Defenders fault) = codes "defenders " ++ part_fault_text fault
entry_fault_text KTooLarge = codes "9 KTooLarge"

-- the line that is named, if there is one
abbrev pub after_text : Option ℕ → List ℕ
after_text None = []
after_text (Some line) = codes " line " ++ decimal line

-- `n Name line l`
abbrev pub text_fault_text : TextFault → List ℕ
text_fault_text fault = fault_text fault ++ after_text (fault_line fault)

abbrev pub hand_fault_text : HandFault → List ℕ
hand_fault_text (Entry fault) = entry_fault_text fault
hand_fault_text (DeclarerText fault) = codes "declarer 10 Text " ++ text_fault_text fault
hand_fault_text (DefendersText fault) = codes "defenders 10 Text " ++ text_fault_text fault
hand_fault_text NoDeal = codes "11 NoDeal"
