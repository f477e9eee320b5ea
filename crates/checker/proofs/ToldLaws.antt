-- The first fault of what is told of the nodes, one after another, is that of the graph.
use Rattle.std.proofs.Common.{◌≡◌, ℕ, zero, suc, ◌+◌, ◌<◌, ◌≤◌, inl, inr, Bool, Bor, List, [], ◌∷◌, length, Option, None, Some, slice_get, refl, sym, ◌∙◌, ap, subst, arith}
use Rattle.std.specs.List.{AllZip, find, range_with_len}
use Rattle.std.specs.Option.{is_some}
use Rattle.std.proofs.lemmas.Bool.{cases_eq}
use Rattle.std.proofs.lemmas.Option.{slice_get_within}
use Rattle.rayon.specs.Lists.{filter_by_mask}
use Rattle.rayon.proofs.ToStd.{answers-by_ref, filter_by_mask-find}
use Rattle.certificate_graph.specs.declared.nodes.Node.{Node}
use Rattle.certificate_graph.specs.Graphs.{GraphShape}
use Rattle.checker.specs.declared.faults.NodeFault.{NodeFault}
use Rattle.checker.specs.Faults.{HoldsFrom, IsFirstFault, IsGraphFault, NodeTells}

-- the steps of the nodes from one on, before another, hold
abbrev HoldBetween : GraphShape → ℕ → ℕ → Type 0
HoldBetween graph first end = (number : ℕ) (node : Node) → first ≤ number → number < end → slice_get graph.nodes number ≡ Some node → HoldsFrom graph node [] node.tree

-- nothing is told of the nodes from one on, before another, or a fault of one of them, and nothing of those before it
abbrev pub FirstTold : GraphShape → ℕ → ℕ → Option (Option NodeFault) → Type 0
FirstTold graph first end None = HoldBetween graph first end
FirstTold graph first end (Some None) = ⊥
FirstTold graph first end (Some (Some fault)) =
    (first ≤ fault.number) × (fault.number < end)
    × ((node : Node) → slice_get graph.nodes fault.number ≡ Some node → IsFirstFault graph node [] node.tree fault.fault)
    × HoldBetween graph first fault.number

pub first_told : (graph : GraphShape) (first n : ℕ) (told : List (Option NodeFault)) → AllZip (NodeTells graph) (range_with_len first n) told → FirstTold graph first (first + n) (find is_some told)
first_told graph first zero [] h = λ number node low high at. absurd (omega (arith, low, high))
first_told graph first zero (fault ∷ told) h = absurd h
first_told graph first (suc n) [] h = absurd h
first_told graph first (suc n) (None ∷ told) h = with_first (find is_some told) (first_told graph (first + 1) n told h.1)
  where
    holds : (end : ℕ) → HoldBetween graph (first + 1) end → HoldBetween graph first end
    holds end rest number node low high at = elim (cases_eq number first) [
      | inl e ↦ h.0 node (ap (slice_get graph.nodes) (sym e) ∙ at)
      | inr apart ↦ rest number node (omega (arith, low, apart)) high at
    ]

    with_first : (fault : Option (Option NodeFault)) → FirstTold graph (first + 1) (first + 1 + n) fault → FirstTold graph first (first + suc n) fault
    with_first None rest = λ number node low high at. holds (first + 1 + n) rest number node low (omega (arith, high)) at
    with_first (Some None) rest = rest
    with_first (Some (Some fault)) rest = (omega (arith, rest.0), omega (arith, rest.1), rest.2, holds fault.number rest.3)
first_told graph first (suc n) (Some fault ∷ told) h =
    let same = h.0.0 in
    (omega (arith, same), omega (arith, same), λ node at. h.0.1 node (ap (slice_get graph.nodes) (sym same) ∙ at), λ number node low high at. absurd (omega (arith, low, high, same)))

-- what the threads tell together
pub told_first : (graph : GraphShape) (count : ℕ) (places : List ℕ) (told : List (Option NodeFault)) (answers : List Bool) (result : Option (Option NodeFault)) → places ≡ range_with_len 0 count → AllZip (NodeTells graph) places told →
    AllZip (λ x b. (r : Bor (Option NodeFault)) × (r.now ≡ x) × (b ≡ is_some r.now)) told answers → result ≡ slice_get (filter_by_mask told answers) 0 → FirstTold graph 0 count result
told_first graph count places told answers result are tells asked is =
    subst (FirstTold graph 0 count) (sym (is ∙ filter_by_mask-find is_some told answers (answers-by_ref is_some told answers asked)))
    (subst (λ (end : ℕ). FirstTold graph 0 end (find is_some told)) (omega arith) (first_told graph 0 count told (subst (λ l. AllZip (NodeTells graph) l told) are tells)))

-- where nothing is told of any node all steps hold
pub none_told : (graph : GraphShape) → FirstTold graph 0 (length graph.nodes) None → (number : ℕ) (node : Node) → slice_get graph.nodes number ≡ Some node → HoldsFrom graph node [] node.tree
none_told graph holds number node at = holds number node (omega arith) (slice_get_within graph.nodes number node at) at

there : {A : Type 0} (xs : List A) (i : ℕ) → i < length xs → (x : A) × (slice_get xs i ≡ Some x)
there [] i less = absurd (omega (arith, less))
there (x ∷ xs) zero less = (x, refl)
there (x ∷ xs) (suc i) less = there xs i (omega (arith, less))

-- else the fault told is the graph's
pub fault_told : (graph : GraphShape) (fault : NodeFault) → FirstTold graph 0 (length graph.nodes) (Some (Some fault)) → IsGraphFault graph fault
fault_told graph fault told = let node = there graph.nodes fault.number told.1 in record {
  node = node.0;
  there = node.1;
  first = told.2 node.0 node.1;
  before = λ number earlier less at. told.3 number earlier (omega arith) less at;
}
