-- The cards that lead to a place of a tree, where its step holds: they begin a line, and such a beginning leads to a place.
use Rattle.std.proofs.Common.{List, [], ◌∷◌, ◌++◌, subst, append_assoc}
use Rattle.std.proofs.lemmas.List.{append-nil}
use Rattle.pattern_step.specs.declared.pat_cards.PatCard.{PatCard}
use Rattle.certificate_graph.specs.declared.nodes.Node.{Node}
use Rattle.certificate_graph.specs.Trees.{TrickTree, Own, Reply, Leaf}
use Rattle.certificate_graph.specs.Graphs.{GraphShape}
use Rattle.checker.specs.Places.{LeadsTo}
use Rattle.checker.specs.Steps.{StepHolds, BeginLine}
use Rattle.checker.specs.Faults.{HoldsFrom}
use Rattle.checker.proofs.Lines.{no_cards_begin, one_more_begins}
use Rattle.checker.proofs.HoldLaws.{right_here, own_below, reply_below}

-- cards that begin a line, and those that lead on from there
on_line : (graph : GraphShape) (node : Node) (cards more : List PatCard) (tree place : TrickTree) → BeginLine node cards → HoldsFrom graph node cards tree → LeadsTo tree more place → BeginLine node (cards ++ more)
on_line graph node cards [] tree place begun holds leads = rw append-nil begun
on_line graph node cards (card ∷ more) (Own own tree) place begun holds (is, leads) =
    let right = right_here graph node cards (Own own tree) holds in
    let next = one_more_begins node cards own begun right.1 in
    let far = on_line graph node (cards ++ own ∷ []) more tree place next (own_below graph node cards own tree holds) leads in
    subst (λ (one : PatCard). BeginLine node (cards ++ one ∷ more)) is (subst (BeginLine node) (append_assoc cards (own ∷ []) more) far)
on_line graph node cards (card ∷ more) (Reply branches) place begun holds (tree, has, leads) =
    let right = right_here graph node cards (Reply branches) holds in
    let next = one_more_begins node cards card begun (right.1.legal card (tree, has)) in
    let far = on_line graph node (cards ++ card ∷ []) more tree place next (reply_below graph node cards branches holds card tree has) leads in
    subst (BeginLine node) (append_assoc cards (card ∷ []) more) far
on_line graph node cards (card ∷ more) (Leaf children) place begun holds leads = absurd leads

pub on_lines : (graph : GraphShape) (node : Node) (cards : List PatCard) (place : TrickTree) → StepHolds graph node → LeadsTo node.tree cards place → BeginLine node cards
on_lines graph node cards place holds leads = on_line graph node [] cards node.tree place (no_cards_begin node) holds leads
