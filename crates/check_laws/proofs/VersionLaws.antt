-- Where the steps of a graph of version 1 hold, they hold by version 2.
use Rattle.std.proofs.Common.{◌≡◌, List, inl, subst}
use Rattle.std.proofs.lemmas.List.Elements.{All-weaker}
use Rattle.patterns.specs.Shapes.{Covers}
use Rattle.patterns.proofs.CompletionLaws.{Covers-completed}
use Rattle.pattern_step.specs.declared.pat_cards.PatCard.{PatCard}
use Rattle.certificate_graph.specs.declared.children.Child.{Child}
use Rattle.certificate_graph.specs.declared.nodes.Node.{Node}
use Rattle.certificate_graph.specs.declared.versions.Version.{Version}
use Rattle.certificate_graph.specs.declared.versions.Version.TheVariants.{One}
use Rattle.certificate_graph.specs.Trees.{TrickTree, Own, Reply, Leaf}
use Rattle.certificate_graph.specs.Graphs.{GraphShape}
use Rattle.checker.specs.Steps.{player_after, IsAnswered, rest_read, IsRightChild, IsRightLeaf, IsRightAfter}
use Rattle.check_laws.specs.Laws.{as_two, HoldAsTwo}

child_as_two : (graph : GraphShape) (node : Node) (cards : List PatCard) (child : Child) → graph.version ≡ One → IsRightChild graph node cards child → IsRightChild (as_two graph) node cards child
child_as_two graph node cards child is (next, there, goes_on) =
    let rest = goes_on.pattern.0 in
    let covers : Covers next.pattern rest = subst (λ (v : Version). Covers next.pattern (rest_read v rest)) is goes_on.pattern.2 in
    (next, there, record { lead = goes_on.lead; need = goes_on.need; pattern = (rest, goes_on.pattern.1, Covers-completed next.pattern rest covers) })

leaf_as_two : (graph : GraphShape) (node : Node) (cards : List PatCard) (children : List Child) → graph.version ≡ One → IsRightLeaf graph node cards children → IsRightLeaf (as_two graph) node cards children
leaf_as_two graph node cards children is right = record {
  whole = right.whole;
  winners = λ seat. (
    (λ there. let must = (right.winners seat).0 there in record { wins = must.wins; needed = must.needed }),
    (λ must. (right.winners seat).1 (record { wins = must.wins; needed = must.needed })),
  );
  each = All-weaker (IsRightChild graph node cards) (IsRightChild (as_two graph) node cards) (λ child. child_as_two graph node cards child is) children right.each;
}

place_as_two : (graph : GraphShape) (node : Node) (cards : List PatCard) (place : TrickTree) → graph.version ≡ One → IsRightAfter graph node cards place → IsRightAfter (as_two graph) node cards place
place_as_two graph node cards (Own card tree) is right = right
place_as_two graph node cards (Reply branches) is (turn, answers) = (
  turn,
  record {
    each = λ card may. inl (subst (λ (v : Version). IsAnswered v node.pattern (player_after node cards) branches card) is (answers.each card may));
    legal = answers.legal;
  },
)
place_as_two graph node cards (Leaf children) is right = leaf_as_two graph node cards children is right

pub hold_as_two : HoldAsTwo
hold_as_two graph is hold number node there cards place leads = place_as_two graph node cards place is (hold number node there cards place leads)
