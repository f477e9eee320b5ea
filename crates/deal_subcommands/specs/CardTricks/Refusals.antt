-- The line that says why evidence of cards is refused.
use Rattle.std.specs.Prelude.{ℕ, List, [], ◌∷◌, ◌++◌, codes}
use Rattle.checker.specs.FaultWords.{node_fault_text, step_fault_text}
use Rattle.cards.specs.CardTexts.{card_text}
use Rattle.card_values.specs.declared.faults.AfterFault.{AfterFault}
use Rattle.card_values.specs.declared.faults.AfterFault.TheVariants.{RootMissing, RootNeedless, RootTrump, RootSide}
use Rattle.card_values.specs.declared.faults.AfterFault.TheVariants.{RootForm, RootLead, RootNeed, RootPattern}
use Rattle.card_values.specs.declared.faults.AfterFault.TheVariants.{Begun, Node}
use Rattle.card_values.specs.declared.faults.CardFault.TheVariants.{ClaimMissing, TricksTooLarge, Player, Others}
use Rattle.deal_subcommands.specs.declared.card_tricks.audit.EvidenceRefusal.{EvidenceRefusal}
use Rattle.deal_subcommands.specs.declared.card_tricks.audit.EvidenceRefusal.TheVariants.{Text, Position, Card}
use Rattle.cards.specs.Bytes as ascii

-- why a side is not shown to win its tricks: a name, and then the fault of its begun node or of a node of its graph
abbrev pub after_fault_text : AfterFault → List ℕ
after_fault_text RootMissing = codes "RootMissing"
after_fault_text RootNeedless = codes "RootNeedless"
after_fault_text RootTrump = codes "RootTrump"
after_fault_text RootSide = codes "RootSide"
after_fault_text RootForm = codes "RootForm"
after_fault_text RootLead = codes "RootLead"
after_fault_text RootNeed = codes "RootNeed"
after_fault_text RootPattern = codes "RootPattern"
after_fault_text (Begun fault) = codes "Begun " ++ step_fault_text fault
after_fault_text (Node fault) = codes "Node" ++ (ascii.blank ∷ node_fault_text fault)

-- `n Name`, and after a blank each the card and why a side is not shown to win its tricks after it
abbrev pub refusal_text : EvidenceRefusal → List ℕ
refusal_text Text = codes "1 Text"
refusal_text Position = codes "2 Position"
refusal_text (Card (ClaimMissing card)) = codes "3 ClaimMissing" ++ (ascii.blank ∷ card_text card)
refusal_text (Card (TricksTooLarge card)) = codes "4 TricksTooLarge" ++ (ascii.blank ∷ card_text card)
refusal_text (Card (Player card fault)) =
    codes "5 Player" ++ (ascii.blank ∷ (card_text card ++ (ascii.blank ∷ after_fault_text fault)))
refusal_text (Card (Others card fault)) =
    codes "6 Others" ++ (ascii.blank ∷ (card_text card ++ (ascii.blank ∷ after_fault_text fault)))

abbrev pub card_refusal_line : EvidenceRefusal → List ℕ
card_refusal_line refusal = codes "refused " ++ (refusal_text refusal ++ (ascii.line_feed ∷ []))
