-- Graphs and entries are sound: from trick to trick, hands have a card less.
use Rattle.std.proofs.Common.{◌≡◌, ℕ, zero, suc, ◌+◌, ◌≤◌, List, [], Option, None, Some, sym, ◌∙◌, subst, arith}
use Rattle.std.specs.Prelude.{slice_get}
use Rattle.std.proofs.lemmas.List.Elements.{All-contains}
use Rattle.std.proofs.lemmas.Option.{none-some}
use Rattle.cards.specs.declared.seats.Seat.{Seat}
use Rattle.cards.specs.declared.seats.Seat.TheVariants.{North}
use Rattle.cards.specs.declared.seats.Side.{Side}
use Rattle.cards.specs.declared.suits.Trump.{Trump}
use Rattle.cards.specs.Deal.{Deal, IsLayout}
use Rattle.patterns.specs.Shapes.{hand_size, IsPattern}
use Rattle.strategies.specs.Strategies.{CanWin}
use Rattle.strategies.proofs.LawProofs.{nothing}
use Rattle.certificate_graph.specs.declared.nodes.Node.{Node}
use Rattle.certificate_graph.specs.Trees.{Leaf}
use Rattle.certificate_graph.specs.Graphs.{GraphShape, IsGraph}
use Rattle.checker.specs.Steps.{IsRightChild, IsRightLeaf, StepHolds, StepsHold}
use Rattle.checker.specs.Roots.{RootedShape, node_at}
use Rattle.checker.specs.Claims.{Shows}
use Rattle.checker.specs.Soundness.{KeepsItsClaim, IsNamedBy, GraphsAreSound, EntriesAreSound}
use Rattle.checker.proofs.Lines.{four_are_legal}
use Rattle.checker.proofs.LineLaws.{on_lines}
use Rattle.checker.proofs.TrickRest.{rest_is_smaller}
use Rattle.checker.proofs.WayLaws.{pattern_of}
use Rattle.checker.proofs.StepIsSound.{one_step}
use Rattle.checker.proofs.PartLaws.{numbered}

-- a node that a leaf names has a card less in each hand
named_is_smaller : (graph : GraphShape) (node next : Node) → IsPattern node.pattern → StepHolds graph node → IsNamedBy graph node next → hand_size next.pattern North + 1 ≡ hand_size node.pattern North
named_is_smaller graph node next is holds named =
    let leaf : IsRightLeaf graph node named.cards named.children = holds named.cards (Leaf named.children) named.leaf in
    let right : IsRightChild graph node named.cards named.child = All-contains (IsRightChild graph node named.cards) named.children named.child leaf.each named.listed in
    let legal = four_are_legal node named.cards leaf.whole (on_lines graph node named.cards (Leaf named.children) holds named.leaf) in
    let same : right.0 ≡ next = (let both : Some right.0 ≡ Some next = sym right.1 ∙ named.there in cc) in
    subst (λ (other : Node). hand_size other.pattern North + 1 ≡ hand_size node.pattern North) same
    (rest_is_smaller node named.cards graph.version right.0.pattern is legal right.2.pattern)

-- by induction on the cards of a hand: a circle of nodes shows nothing
sound_below : (graph : GraphShape) → IsGraph graph → StepsHold graph → (size number : ℕ) (node : Node) → slice_get graph.nodes number ≡ Some node → hand_size node.pattern North ≤ size → KeepsItsClaim graph node
sound_below graph is hold zero number node there within = absurd (omega (arith, within, (pattern_of graph is number node there).some_cards))
sound_below graph is hold (suc size) number node there within =
    one_step graph node is (pattern_of graph is number node there) (hold number node there)
    (λ next named.
    let smaller = named_is_smaller graph node next (pattern_of graph is number node there) (hold number node there) named in
    sound_below graph is hold size named.child.number next named.there (omega (arith, smaller, within)))

pub graphs_sound : GraphsAreSound
graphs_sound graph is hold number node there = sound_below graph is hold (hand_size node.pattern North) number node there (omega arith)

-- the root has a number
root_number : (list : List Node) (at : Option ℕ) (root : Node) → node_at list at ≡ Some root → (number : ℕ) × (slice_get list number ≡ Some root)
root_number list None root there = absurd (none-some root there)
root_number list (Some number) root there = (number, there)

-- what a graph shows of a layout, its side can win
shown_is_won : (rooted : RootedShape) (deal : Deal) (leader : Seat) (trump : Trump) (side : Side) (need : ℕ) → IsLayout deal → IsGraph rooted.graph → Shows rooted deal leader trump side need →
    CanWin (record { deal = deal; leader = leader; trump = trump }) side need []
shown_is_won rooted deal leader trump side zero layout graph_is shows = nothing (record { deal = deal; leader = leader; trump = trump }) side layout
shown_is_won rooted deal leader trump side (suc need) layout graph_is shows =
    let graph = rooted.graph in
    let root = shows.root.0 in
    let is = shows.root.2 in
    let there = root_number graph.nodes rooted.root root shows.root.1 in
    let steps = shows.steps (numbered graph.nodes rooted.root root shows.root.1) in
    let wins = graphs_sound graph graph_is steps there.0 root there.1 deal layout is.pattern in
    subst (λ (seat : Seat). CanWin (record { deal = deal; leader = seat; trump = trump }) side (suc need) []) is.lead
    (subst (λ (of : Trump). CanWin (record { deal = deal; leader = root.lead; trump = of }) side (suc need) []) shows.trump_is
    (subst (λ (of : Side). CanWin (record { deal = deal; leader = root.lead; trump = graph.trump }) of (suc need) []) shows.side_is
    (subst (λ (tricks : ℕ). CanWin (record { deal = deal; leader = root.lead; trump = graph.trump }) graph.side tricks []) is.need_is wins)))

pub entries_sound : EntriesAreSound
entries_sound deal declarer trump tricks declarers defenders layout one_is other_is show = record {
  within = show.within;
  declarer_wins = shown_is_won declarers deal _ trump _ tricks layout one_is show.declarers_win;
  defenders_win = shown_is_won defenders deal _ trump _ _ layout other_is show.defenders_win;
}
