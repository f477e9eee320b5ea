-- The answer for a text: its graph, or the fault of the first line that has one, in a line the first in the order of
-- their numbers.
use Rattle.std.specs.Prelude.{◌≡◌, ◌≢◌, ℕ, ◌+◌, ◌<◌, ◌≤◌, List, [], length, slice_index, All, ◌⊎◌, Result, Ok, Err}
use Rattle.std.specs.Str.Parse.{IsNumeral, digits_value}
use Rattle.cards.specs.declared.seats.Side.{Side}
use Rattle.cards.specs.declared.suits.Trump.{Trump}
use Rattle.patterns.specs.Shapes.{IsPattern}
use Rattle.certificate_graph.specs.declared.nodes.Node.{Node}
use Rattle.certificate_graph.specs.declared.versions.Version.{Version}
use Rattle.certificate_graph.specs.declared.faults.TextFault.{TextFault}
use Rattle.certificate_graph.specs.declared.faults.TextFault.TheVariants.{Head, NodeForm, BadPattern, ChildNumber}
use Rattle.certificate_graph.specs.declared.faults.TextFault.TheVariants.{Count, TooLarge}
use Rattle.certificate_graph.specs.Graphs.{GraphShape, IsGraph, IsNode, NamesBelow, greatest_count}
use Rattle.certificate_graph.specs.LineForms.{IsNodeForm}
use Rattle.certificate_graph.specs.Texts.{title_text, trump_text, side_text, count_text, node_text, nodes_text}
use Rattle.certificate_graph.specs.Texts.{graph_text}

-- digits without a leading zero
pub record IsNumber (digits : List ℕ) : Type 0 where
  pub numeral : IsNumeral 10 digits
  pub plain : slice_index digits 0 ≡ 48 → length digits ≡ 1

-- ---- the lines of the nodes
-- the text begins with the line of this node
pub record BeginsNode (text : List ℕ) (node : Node) (rest : List ℕ) : Type 0 where
  pub form : IsNodeForm node
  pub is : text ≡ node_text node rest

-- it begins with the line of no node
abbrev pub LacksNode : List ℕ → Type 0
LacksNode text = (node : Node) (rest : List ℕ) → BeginsNode text node rest → ⊥

-- it begins with the line of a node of which this holds
abbrev pub HasNode : (Node → Type 0) → List ℕ → Type 0
HasNode Holds text = (node : Node) × (rest : List ℕ) × BeginsNode text node rest × Holds node

-- the text is that of this line and those after it, and the line, one of a node, is at fault
abbrev pub IsLineFault : ℕ → ℕ → List ℕ → TextFault → Type 0
IsLineFault count line text (NodeForm at) = (at ≡ line) × (text ≢ []) × LacksNode text
IsLineFault count line text (BadPattern at) = (at ≡ line) × HasNode (λ node. IsPattern node.pattern → ⊥) text
IsLineFault count line text (ChildNumber at) =
    (at ≡ line) × HasNode (λ node. IsPattern node.pattern × (NamesBelow count node.tree → ⊥)) text
IsLineFault count line text (Count at) = (at ≡ line) × (text ≡ [])
IsLineFault count line text _ = ⊥

-- there is text after the last line
abbrev pub IsEndFault : ℕ → List ℕ → TextFault → Type 0
IsEndFault line text (Count at) = (at ≡ line) × (text ≢ [])
IsEndFault line text _ = ⊥

-- some lines are those of nodes, and the next one is at fault, or there is text after the last
pub record StopsAt (count : ℕ) (text : List ℕ) (fault : TextFault) : Type 0 where
  pub nodes : List Node
  pub rest : List ℕ
  pub is : text ≡ nodes_text nodes rest
  pub each : All (IsNode count) nodes
  pub wrong :
      ((length nodes < count) × IsLineFault count (5 + length nodes) rest fault) ⊎
      ((length nodes ≡ count) × IsEndFault (5 + count) rest fault)

-- ---- the first four lines
-- what stands from each of them on is at fault
abbrev pub IsCountFault : List ℕ → TextFault → Type 0
IsCountFault text fault =
    ((fault ≡ Head 4) × ((digits rest : List ℕ) → IsNumber digits → text ≢ count_text digits rest)) ⊎
    ((digits : List ℕ) × (rest : List ℕ) × IsNumber digits × (text ≡ count_text digits rest) ×
    (((fault ≡ TooLarge 4) × (greatest_count < digits_value 10 digits)) ⊎
    ((digits_value 10 digits ≤ greatest_count) × StopsAt (digits_value 10 digits) rest fault)))

abbrev pub IsSideFault : List ℕ → TextFault → Type 0
IsSideFault text fault =
    ((fault ≡ Head 3) × ((side : Side) (rest : List ℕ) → text ≢ side_text side rest)) ⊎
    ((side : Side) × (rest : List ℕ) × (text ≡ side_text side rest) × IsCountFault rest fault)

abbrev pub IsTrumpFault : List ℕ → TextFault → Type 0
IsTrumpFault text fault =
    ((fault ≡ Head 2) × ((trump : Trump) (rest : List ℕ) → text ≢ trump_text trump rest)) ⊎
    ((trump : Trump) × (rest : List ℕ) × (text ≡ trump_text trump rest) × IsSideFault rest fault)

abbrev pub IsTextFault : List ℕ → TextFault → Type 0
IsTextFault text fault =
    ((fault ≡ Head 1) × ((version : Version) (rest : List ℕ) → text ≢ title_text version rest)) ⊎
    ((version : Version) × (rest : List ℕ) × (text ≡ title_text version rest) × IsTrumpFault rest fault)

-- ---- the answer
abbrev pub TextAnswers : List ℕ → Result GraphShape TextFault → Type 0
TextAnswers text (Ok graph) = IsGraph graph × (text ≡ graph_text graph)
TextAnswers text (Err fault) = IsTextFault text fault
