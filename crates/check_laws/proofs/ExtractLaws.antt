-- Where the steps of a graph hold, so do those of one with two of its nodes exchanged.
use Rattle.std.proofs.Common.{◌≡◌, ℕ, ◌<◌, List, [], ◌∷◌, map, length, Some, None, Contains, inl, inr, refl, sym, ◌∙◌, ap, subst, arith}
use Rattle.std.specs.Prelude.{slice_get, get_or}
use Rattle.std.proofs.lemmas.Bool.Decides.{nat_tests}
use Rattle.std.proofs.lemmas.List.{get_or-map, length-map}
use Rattle.std.proofs.lemmas.List.Elements.{All-map, All-weaker, Contains-get_or}
use Rattle.std.proofs.lemmas.Option.{slice_get-get_or, slice_get_within, slice_get_past}
use Rattle.cards.specs.declared.seats.Seat.{Seat}
use Rattle.patterns.specs.Shapes.{Shape}
use Rattle.pattern_step.specs.declared.pat_cards.PatCard.{PatCard}
use Rattle.certificate_graph.specs.declared.children.Child.{Child}
use Rattle.certificate_graph.specs.declared.nodes.Node.{Node}
use Rattle.certificate_graph.specs.declared.versions.Version.{Version}
use Rattle.certificate_graph.specs.declared.versions.Version.TheVariants.{One, Two}
use Rattle.certificate_graph.specs.Trees.{TrickTree, Own, Reply, Leaf, Branches, NoBranch, Branch}
use Rattle.certificate_graph.specs.Graphs.{GraphShape}
use Rattle.certificate_graph.specs.Extracts.{exchanged, rename_child, rename_tree, rename_branches, rename_node, AreExchanged}
use Rattle.checker.specs.Places.{HasBranch, LeadsTo}
use Rattle.checker.specs.Steps.{player_after, IsAnswered, IsListed, IsRightAfter, IsRightChild, IsRightLeaf, StepHolds, StepsHold}
use Rattle.check_laws.specs.Laws.{ExtractsHold}

-- ---- numbers
twice : (root number : ℕ) → exchanged root (exchanged root number) ≡ number
twice root number = grind (arith, nat_tests)

below : (root number count : ℕ) → root < count → number < count → exchanged root number < count
below root number count is within = grind (arith, nat_tests)

-- ---- trees
module _ (to : ℕ → ℕ) where
  has_renamed : (branches : Branches) (card : PatCard) (tree : TrickTree) → HasBranch branches card tree → HasBranch (rename_branches to branches) card (rename_tree to tree)
  has_renamed NoBranch card tree none = absurd none
  has_renamed (Branch first one rest) card tree (inl (is, same)) = inl (is, ap (rename_tree to) same)
  has_renamed (Branch first one rest) card tree (inr later) = inr (has_renamed rest card tree later)

  had : (branches : Branches) (card : PatCard) (tree : TrickTree) → HasBranch (rename_branches to branches) card tree → (was : TrickTree) × (tree ≡ rename_tree to was) × HasBranch branches card was
  had NoBranch card tree none = absurd none
  had (Branch first one rest) card tree (inl (is, same)) = (one, sym same, inl (is, refl))
  had (Branch first one rest) card tree (inr later) = let there = had rest card tree later in (there.0, there.1, inr there.2)

  answered_renamed : (version : Version) (shape : Shape) (seat : Seat) (branches : Branches) (card : PatCard) → IsAnswered version shape seat branches card → IsAnswered version shape seat (rename_branches to branches) card
  answered_renamed One shape seat branches card has = (rename_tree to has.0, has_renamed branches card has.0 has.1)
  answered_renamed Two shape seat branches card (inl has) = inl (rename_tree to has.0, has_renamed branches card has.0 has.1)
  answered_renamed Two shape seat branches card (inr (higher, run, has)) = inr (higher, run, (rename_tree to has.0, has_renamed branches higher has.0 has.1))

  -- where cards lead in a renamed tree, they led in the tree
  place_back : (tree : TrickTree) (cards : List PatCard) (place : TrickTree) → LeadsTo (rename_tree to tree) cards place → (was : TrickTree) × (place ≡ rename_tree to was) × LeadsTo tree cards was
  place_back tree [] place same = (tree, sym same, refl)
  place_back (Own own tree) (card ∷ cards) place (is, leads) = let there = place_back tree cards place leads in (there.0, there.1, (is, there.2))
  place_back (Reply branches) (card ∷ cards) place (one, has, leads) =
      let first = had branches card one has in
      let there = place_back first.0 cards place (subst (λ (t : TrickTree). LeadsTo t cards place) first.1 leads) in
      (there.0, there.1, (first.0, first.2, there.2))
  place_back (Leaf children) (card ∷ cards) place none = absurd none

  -- ---- children
  contains_renamed : (children : List Child) (child : Child) → Contains children child → Contains (map (rename_child to) children) (rename_child to child)
  contains_renamed children child (place, within, is) = (
    place,
    omega (arith, length-map children (rename_child to), within),
    get_or-map (rename_child to) children place child (rename_child to child) within ∙ ap (rename_child to) is,
  )

  contained : (children : List Child) (child : Child) → Contains (map (rename_child to) children) child → (was : Child) × (child ≡ rename_child to was) × Contains children was
  contained children child (place, within, is) =
      let inside : place < length children = omega (arith, length-map children (rename_child to), within) in
      let blank : Child = record { winner = child.winner; number = 0 } in
      let was = get_or children place blank in
      (was, sym is ∙ get_or-map (rename_child to) children place blank child inside, Contains-get_or children place blank inside)

  listed_renamed : (children : List Child) (seat : Seat) → IsListed children seat → IsListed (map (rename_child to) children) seat
  listed_renamed children seat (number, there) = (to number, contains_renamed children (record { winner = seat; number = number }) there)

  listed : (children : List Child) (seat : Seat) → IsListed (map (rename_child to) children) seat → IsListed children seat
  listed children seat (number, there) =
      let was = contained children (record { winner = seat; number = number }) there in
      let winner : seat ≡ was.0.winner = ap (λ (child : Child). child.winner) was.1 in
      (was.0.number, subst (λ (child : Child). Contains children child) (let e : was.0 ≡ record { winner = was.0.winner; number = was.0.number } = refl in e ∙ ap (λ (s : Seat). record { winner = s; number = was.0.number }) (sym winner)) was.2)

-- ---- steps
module _ (graph : GraphShape) (root : ℕ) (nodes : List Node) (is_root : root < length graph.nodes) (are : AreExchanged root graph.nodes nodes) where
  abbrev to : ℕ → ℕ
  to = exchanged root

  abbrev other : GraphShape
  other = record { version = graph.version; trump = graph.trump; side = graph.side; nodes = nodes }

  child_right : (node : Node) (cards : List PatCard) (child : Child) → IsRightChild graph node cards child → IsRightChild other (rename_node to node) cards (rename_child to child)
  child_right node cards child (next, there, goes_on) = (
    rename_node to next,
    are.each (to child.number) next (subst (λ n. slice_get graph.nodes n ≡ Some next) (sym (twice root child.number)) there),
    record { lead = goes_on.lead; need = goes_on.need; pattern = goes_on.pattern },
  )

  leaf_right : (node : Node) (cards : List PatCard) (children : List Child) → IsRightLeaf graph node cards children → IsRightLeaf other (rename_node to node) cards (map (rename_child to) children)
  leaf_right node cards children right = record {
    whole = right.whole;
    winners = λ seat. (
      (λ there. let must = (right.winners seat).0 (listed to children seat there) in record { wins = must.wins; needed = must.needed }),
      (λ must. listed_renamed to children seat ((right.winners seat).1 (record { wins = must.wins; needed = must.needed }))),
    );
    each = All-map (IsRightChild other (rename_node to node) cards) (rename_child to) children
        (All-weaker (IsRightChild graph node cards) (λ (child : Child). IsRightChild other (rename_node to node) cards (rename_child to child)) (child_right node cards) children right.each);
  }

  place_right : (node : Node) (cards : List PatCard) (was : TrickTree) → IsRightAfter graph node cards was → IsRightAfter other (rename_node to node) cards (rename_tree to was)
  place_right node cards (Own card tree) (turn, may) = (record { goes_on = turn.goes_on; own = turn.own }, may)
  place_right node cards (Reply branches) (turn, answers) = (
    record { goes_on = turn.goes_on; others = turn.others },
    record {
      each = λ card may. answered_renamed to graph.version node.pattern (player_after node cards) branches card (answers.each card may);
      legal = λ card has. answers.legal card (let there = had to branches card has.0 has.1 in (there.0, there.2));
    },
  )
  place_right node cards (Leaf children) right = leaf_right node cards children right

  step_holds : (node : Node) → StepHolds graph node → StepHolds other (rename_node to node)
  step_holds node holds cards place leads =
      let there = place_back to node.tree cards place leads in
      subst (λ (t : TrickTree). IsRightAfter other (rename_node to node) cards t) (sym there.1) (place_right node cards there.0 (holds cards there.0 there.2))

  steps_hold : StepsHold graph → StepsHold other
  steps_hold hold number node there =
      let within : number < length graph.nodes = omega (arith, slice_get_within nodes number node there, are.as_many) in
      let was = get_or graph.nodes (to number) node in
      let from : slice_get graph.nodes (to number) ≡ Some was = slice_get-get_or graph.nodes (to number) node (below root number (length graph.nodes) is_root within) in
      let same : Some node ≡ Some (rename_node to was) = sym there ∙ are.each number was from in
      let one : node ≡ rename_node to was = cc in
      subst (λ (n : Node). StepHolds other n) (sym one) (step_holds was (hold (to number) was from))

-- ---- the law
none_hold : (other : GraphShape) → other.nodes ≡ [] → StepsHold other
none_hold other none number node there =
    let none_there : slice_get other.nodes number ≡ None = slice_get_past other.nodes number (omega (arith, ap length none)) in
    let both : Some node ≡ None = sym there ∙ none_there in
    cc

pub extracts : ExtractsHold
extracts graph other None is extract hold = none_hold other extract.nodes
extracts graph other (Some root) is extract hold =
    let same : record { version = graph.version; trump = graph.trump; side = graph.side; nodes = other.nodes } ≡ other =
    ap (λ v. record { version = v; trump = graph.trump; side = graph.side; nodes = other.nodes }) (sym extract.version_is)
    ∙ (ap (λ t. record { version = other.version; trump = t; side = graph.side; nodes = other.nodes }) (sym extract.trump_is)
    ∙ ap (λ s. record { version = other.version; trump = other.trump; side = s; nodes = other.nodes }) (sym extract.side_is)) in
    subst StepsHold same (steps_hold graph root other.nodes is extract.nodes hold)
