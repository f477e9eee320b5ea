-- Nodes one after another.
use Rattle.std.proofs.Common.{◌≡◌, ◌≢◌, ℕ, ◌+◌, ◌<◌, ◌≤◌, List, [], ◌∷◌, Bool, true, false, take, length, get_or, All, Result, Ok, Err, inl, inr, refl, sym, ◌∙◌, ap, subst, arith}
use Rattle.std.specs.Bool.{◌==◌}
use Rattle.std.specs.Cmp.{unsigned_Decides}
use Rattle.std.specs.Prelude.{IsErrAnd, MatchResult}
use Rattle.std.proofs.lemmas.Option.{slice_get_read}
use Rattle.certificate_graph.specs.declared.nodes.Node.{Node}
use Rattle.certificate_graph.specs.declared.faults.GraphFault.{GraphFault}
use Rattle.certificate_graph.specs.declared.faults.GraphFault.TheVariants.{TooLarge, Need, TreeForm, ChildNumber}
use Rattle.certificate_graph.specs.declared.faults.TextFault.{TextFault}
use Rattle.certificate_graph.specs.declared.faults.TextFault.TheVariants.{Count}
use Rattle.certificate_graph.specs.Graphs.{IsNode, greatest_count}
use Rattle.certificate_graph.specs.Texts.{nodes_text}
use Rattle.certificate_graph.specs.TextFaults.{IsLineFault, StopsAt}
use Rattle.certificate_graph.specs.Readings.{MayFail, AreAllNodes}
use Rattle.certificate_graph.specs.GraphFaults.{IsNodeFault, IsFirstFault, IsGraphFault}

first_fault : (nodes : List Node) (i : ℕ) (node : Node) (fault : GraphFault) → i < length nodes → All (IsNode (length nodes)) (take i nodes) → node ≡ get_or nodes i node → IsNodeFault (length nodes) node fault → IsFirstFault nodes fault
first_fault nodes i node fault within before here wrong =
    record { number = i; node = node; there = slice_get_read nodes (length nodes) i node refl within here; wrong = wrong; before = before }

-- the fault of the first node that has one is that of the nodes
pub graph_fault : (nodes : List Node) (i : ℕ) (node : Node) (fault : GraphFault) → length nodes ≤ greatest_count → i < length nodes → All (IsNode (length nodes)) (take i nodes) → node ≡ get_or nodes i node → IsNodeFault (length nodes) node fault → IsGraphFault nodes fault
graph_fault nodes i node TooLarge size within before here wrong = absurd wrong
graph_fault nodes i node Need size within before here wrong = (size, first_fault nodes i node Need within before here wrong)
graph_fault nodes i node TreeForm size within before here wrong = (size, first_fault nodes i node TreeForm within before here wrong)
graph_fault nodes i node ChildNumber size within before here wrong = (size, first_fault nodes i node ChildNumber within before here wrong)

-- the exit of a `?`, with the fault that was told
pub fault_out : {A E : Type 0} (P : A → Type 0) (F : E → Type 0) (r : Result A E) (told : E) → IsErrAnd r (λ fault. fault ≡ told) → F told → MatchResult r P F
fault_out P F (Ok done) told e f = absurd e
fault_out P F (Err fault) told e f = subst F (sym e) f

-- ---- nodes that are read
-- the next line is at fault, or memory ran out
pub line_stops : (count : ℕ) (text : List ℕ) (nodes : List Node) (rest : List ℕ) (n : ℕ) (fault : TextFault) → text ≡ nodes_text nodes rest → All (IsNode count) nodes → length nodes ≡ n → n < count → MayFail (IsLineFault count (5 + n) rest) fault → MayFail (StopsAt count text) fault
line_stops count text nodes rest n fault is each size more (inl none) = inl none
line_stops count text nodes rest n fault is each size more (inr wrong) = inr (record {
  nodes = nodes;
  rest = rest;
  is = is;
  each = each;
  wrong = inl (omega arith, subst (λ i. IsLineFault count (5 + i) rest fault) (sym size) wrong);
})

-- whether a text is empty
pub empty_rest : (rest : List ℕ) (empty : Bool) → empty ≡ (length rest == 0) → empty ≡ true → rest ≡ []
empty_rest [] empty e told = refl
empty_rest (byte ∷ more) empty e told = let none = (unsigned_Decides (length (byte ∷ more)) 0).0 (sym e ∙ told) in absurd (omega arith)

pub some_rest : (rest : List ℕ) (empty : Bool) → empty ≡ (length rest == 0) → empty ≡ false → rest ≢ []
some_rest [] empty e told none = cc
some_rest (byte ∷ more) empty e told none = cc

-- there is text after the last line
pub end_stops : (count : ℕ) (text : List ℕ) (nodes : List Node) (rest : List ℕ) → text ≡ nodes_text nodes rest → All (IsNode count) nodes → length nodes ≡ count → rest ≢ [] → MayFail (StopsAt count text) (Count (5 + count))
end_stops count text nodes rest is each size some =
    inr (record { nodes = nodes; rest = rest; is = is; each = each; wrong = inr (size, (refl, some)) })

-- all nodes are read
pub all_read : (count : ℕ) (text : List ℕ) (nodes : List Node) (rest : List ℕ) → text ≡ nodes_text nodes rest → All (IsNode count) nodes → length nodes ≡ count → rest ≡ [] → AreAllNodes count text nodes
all_read count text nodes rest is each size none = record { all = size; each = each; is = is ∙ ap (nodes_text nodes) none }
