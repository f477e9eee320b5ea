use Rattle.std.proofs.Common.{◌≡◌, [], ◌∷◌, ◌++◌, length, length-append, Some, refl, ◌∙◌, ap, subst, sym, arith}
use Rattle.std.specs.Prelude.{slice_get}
use Rattle.std.proofs.lemmas.Option.{slice_get_read}
use Rattle.play_rules.proofs.PositionLaws.{three_cards}
use Rattle.certificate_play.specs.Steps.{IsWayOf}
use Rattle.certificate_play.proofs.StepLaws.{leaf_stands, ended_with, next_with, child_there}
use Rattle.certificate_play.proofs.trick_ends.next_trick.Goals as goal

pub unreachable-requires : goal.unreachable-requires
unreachable-requires c =
    leaf_stands c.args.step.now (c.args.step.now.trick.items ++ c.args.card ∷ []) c.requires.way.0 c.args.leaf.now c.view.result c.requires.by_node c.requires.way.1
    (omega (arith, length-append c.args.step.now.trick.items (c.args.card ∷ []), c.requires.three)) c.view.ensures c.in_default.not-Leaf

pub bounds-nodes-child : goal.bounds-nodes-child
bounds-nodes-child c =
    let step = c.args.step.now in
    let real = step.trick.items ++ c.args.card ∷ [] in
    let way = subst (IsWayOf step real c.requires.way.0) (sym c.in-Leaf.ensures) c.requires.way.1 in
    let within = child_there step real c.requires.way.0 c.in-Leaf.children c.in-Some.child c.requires.by_node way c.in-Some.ensures.1 in
    omega (arith, within, ap length c.nodes.ensures)

pub returns-in-None : goal.returns-in-None
returns-in-None c =
    let step = c.args.step.now in
    let way = subst (IsWayOf step (step.trick.items ++ c.args.card ∷ []) c.requires.way.0) (sym c.in-Leaf.ensures) c.requires.way.1 in
    let wins = rw (c.trump.ensures, c.deref.ensures.0, c.deref-2.ensures.0, c.deref-3.ensures.0) at c.winner-winner.ensures.winner in
    ended_with step _ _ _ c.args.card c.requires.way.0 c.in-Leaf.children c.winner-winner.result (three_cards step.trick.items _ _ _ c.requires.three) c.requires.by_node way wins c.in-None.ensures

pub returns-in-Some : goal.returns-in-Some
returns-in-Some c =
    let step = c.args.step.now in
    let nodes = step.graph.now.nodes in
    let child = c.in-Some.child in
    let next = c.index-nodes-child.result in
    let way = subst (IsWayOf step (step.trick.items ++ c.args.card ∷ []) c.requires.way.0) (sym c.in-Leaf.ensures) c.requires.way.1 in
    let wins = rw (c.trump.ensures, c.deref.ensures.0, c.deref-2.ensures.0, c.deref-3.ensures.0) at c.winner-winner.ensures.winner in
    let within = child_there step (step.trick.items ++ c.args.card ∷ []) c.requires.way.0 c.in-Leaf.children child c.requires.by_node way c.in-Some.ensures.1 in
    let there : slice_get nodes child.number ≡ Some next = slice_get_read nodes (length nodes) child.number next refl within (rw (← c.nodes.ensures) c.index-nodes-child.is) in
    let left = rw (c.deref.ensures.0, c.deref-2.ensures.0, c.deref-3.ensures.0) at c.without-left.ensures in
    next_with step c.first.result _ _ _ c.args.card c.requires.way.0 c.in-Leaf.children child next c.without-left.result (three_cards step.trick.items _ _ _ c.requires.three) c.requires.by_node way c.in-Some.ensures.1
    (c.in-Some.ensures.0 ∙ wins) there left
    (record { graph_is = c.first.ensures.graph; node_is = c.first.ensures.node; place_is = c.first.ensures.place; start_is = c.first.ensures.start; trick_is = c.first.ensures.trick; line_is = c.first.ensures.line })
