-- Renamed trees keep their form, and a list of exchanged nodes grows by one node after another.
use Rattle.std.proofs.Common.{◌≡◌, ℕ, ◌+◌, ◌-◌, ◌<◌, List, [], ◌∷◌, ◌++◌, map, length, Some, sym, ◌∙◌, ap, subst, ⊎_elim, arith, length-append}
use Rattle.std.specs.Prelude.{slice_get}
use Rattle.std.specs.List.{AllByRecursion}
use Rattle.std.proofs.lemmas.Bool.{cases_lt}
use Rattle.std.proofs.lemmas.Bool.Decides.{nat_tests}
use Rattle.std.proofs.lemmas.List.{get_or_append_left}
use Rattle.std.proofs.lemmas.Option.{slice_get-get_or, slice_get_within}
use Rattle.std.proofs.Math.Seq.{get_or-append_seam}
use Rattle.cards.specs.Seats.{seat_number}
use Rattle.certificate_graph.specs.declared.children.Child.{Child}
use Rattle.certificate_graph.specs.declared.nodes.Node.{Node}
use Rattle.certificate_graph.specs.Trees.{TrickTree, Own, Reply, Leaf, Branches, NoBranch, Branch}
use Rattle.certificate_graph.specs.Graphs.{card_place, SeatsRise, HasForm, HaveForm, NamesBelow, NameBelow, IsNode}
use Rattle.certificate_graph.specs.Extracts.{exchanged, rename_child, rename_tree, rename_branches, rename_node, AreExchanged}

-- ---- numbers
pub exchanged_below : (root number count : ℕ) → root < count → number < count → exchanged root number < count
exchanged_below root number count is within = grind (arith, nat_tests)

pub exchanged_within : (root number count : ℕ) → root < count → exchanged root number < count → number < count
exchanged_within root number count is within = grind (arith, nat_tests)

-- ---- trees
module _ (to : ℕ → ℕ) where
  rise : (least : ℕ) (children : List Child) → SeatsRise least children → SeatsRise least (map (rename_child to) children)
  rise least [] h = h
  rise least (child ∷ rest) h = (h.0, rise (seat_number child.winner + 1) rest h.1)

  mutual
    form : (room : ℕ) (tree : TrickTree) → HasForm room tree → HasForm room (rename_tree to tree)
    form room (Own card tree) h = (h.0, h.1, form (room - 1) tree h.2)
    form room (Reply branches) h = (h.0, forms (room - 1) 0 branches h.1)
    form room (Leaf children) h = rise 0 children h

    forms : (room least : ℕ) (branches : Branches) → HaveForm room least branches → HaveForm room least (rename_branches to branches)
    forms room least NoBranch h = h
    forms room least (Branch card tree rest) h = (h.0, h.1, form room tree h.2, forms room (card_place card + 1) rest h.3)

  module _ (count : ℕ) (below : (number : ℕ) → number < count → to number < count) where
    named : (children : List Child) → AllByRecursion (λ child. child.number < count) children → AllByRecursion (λ child. child.number < count) (map (rename_child to) children)
    named [] h = h
    named (child ∷ rest) h = (below child.number h.0, named rest h.1)

    mutual
      names : (tree : TrickTree) → NamesBelow count tree → NamesBelow count (rename_tree to tree)
      names (Own card tree) h = names tree h
      names (Reply branches) h = all_names branches h
      names (Leaf children) h = named children h

      all_names : (branches : Branches) → NameBelow count branches → NameBelow count (rename_branches to branches)
      all_names NoBranch h = h
      all_names (Branch card tree rest) h = (names tree h.0, all_names rest h.1)

    pub node_renamed : (node : Node) → IsNode count node → IsNode count (rename_node to node)
    node_renamed node is = record {
      pattern = is.pattern;
      need = is.need;
      form = form 4 node.tree is.form;
      children = names node.tree is.children;
    }

-- ---- lists
push_before : {X : Type 0} (xs : List X) (y : X) (n : ℕ) → n < length xs → slice_get (xs ++ y ∷ []) n ≡ slice_get xs n
push_before xs y n within =
    slice_get-get_or (xs ++ y ∷ []) n y (omega (arith, length-append xs (y ∷ [])))
    ∙ ap Some (get_or_append_left xs (y ∷ []) y n within)
    ∙ sym (slice_get-get_or xs n y within)

push_at : {X : Type 0} (xs : List X) (y : X) → slice_get (xs ++ y ∷ []) (length xs) ≡ Some y
push_at xs y =
    slice_get-get_or (xs ++ y ∷ []) (length xs) y (omega (arith, length-append xs (y ∷ [])))
    ∙ ap Some (get_or-append_seam xs y [] y)

-- the first so many nodes of the list are there
abbrev pub AreThere : ℕ → List Node → ℕ → List Node → Type 0
AreThere root nodes count other =
    (number : ℕ) (node : Node) → number < count → slice_get nodes (exchanged root number) ≡ Some node
    → slice_get other number ≡ Some (rename_node (exchanged root) node)

module _ (root : ℕ) (nodes other : List Node) (is : root < length nodes) where
  pub there_more : (added : Node) → length other < length nodes → slice_get nodes (exchanged root (length other)) ≡ Some added
      → AreThere root nodes (length other) other → AreThere root nodes (length other + 1) (other ++ rename_node (exchanged root) added ∷ [])
  there_more added room from before number node within at =
      ⊎_elim
      (λ early. push_before other (rename_node (exchanged root) added) number early ∙ before number node early at)
      (λ late.
      let last : number ≡ length other = omega arith in
      let same : Some added ≡ Some node = sym from ∙ subst (λ n. slice_get nodes (exchanged root n) ≡ Some node) last at in
      let one : added ≡ node = cc in
      subst (λ n. slice_get (other ++ rename_node (exchanged root) added ∷ []) n ≡ Some (rename_node (exchanged root) node)) (sym last)
      (push_at other (rename_node (exchanged root) added) ∙ ap (λ n. Some (rename_node (exchanged root) n)) one))
      (cases_lt number (length other))

  pub all_there : length other ≡ length nodes → AreThere root nodes (length nodes) other → AreExchanged root nodes other
  all_there as_many there = record {
    as_many = as_many;
    each = λ number node at. there number node (exchanged_within root number (length nodes) is (slice_get_within nodes (exchanged root number) node at)) at;
  }
