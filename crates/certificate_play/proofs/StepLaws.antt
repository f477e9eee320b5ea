-- A trick that is played by a node: at its beginning, after a card more, and after its four cards.
use Rattle.std.proofs.Common.{◌≡◌, ℕ, zero, suc, ◌-◌, ◌<◌, List, [], ◌∷◌, ◌++◌, length, Contains, Option, None, Some, refl, sym, ◌∙◌, ap, subst, length-append, arith, inl, inr, ◌⊎◌}
use Rattle.std.specs.Prelude.{slice_get}
use Rattle.std.proofs.lemmas.Bool.{cases_lt}
use Rattle.std.proofs.lemmas.Option.{none-some, slice_get_within}
use Rattle.cards.specs.declared.seats.Seat.{Seat}
use Rattle.cards.specs.declared.seats.Seat.TheVariants.{North}
use Rattle.cards.specs.declared.seats.Side.{Side}
use Rattle.cards.specs.declared.suits.Trump.{Trump}
use Rattle.cards.specs.declared.pack.Card.{Card}
use Rattle.cards.specs.Seats.{seat_in_place}
use Rattle.cards.specs.Deal.{Deal, size_of, IsLayout}
use Rattle.patterns.specs.Holders.{Matches}
use Rattle.pattern_step.specs.declared.pat_cards.PatCard.{PatCard}
use Rattle.pattern_step.specs.LayoutCards.{StandsFor}
use Rattle.pattern_step.specs.Runs.{IsLowerInRun}
use Rattle.play_rules.specs.Winners.{winner_of}
use Rattle.play_rules.specs.History.{Opening, trick_made, trick_of, leader_after, tricks_of}
use Rattle.play_rules.specs.Left.{left_of}
use Rattle.play_rules.specs.Legal.{CanPlay}
use Rattle.play_rules.proofs.HistoryLaws.{Ends-from_four}
use Rattle.strategies.specs.Strategies.{IsTurnOf}
use Rattle.strategies.proofs.Counting.{count_of-left_of, IsLayout-after}
use Rattle.certificate_graph.specs.declared.children.Child.{Child}
use Rattle.certificate_graph.specs.declared.nodes.Node.{Node}
use Rattle.certificate_graph.specs.declared.places.PlaceView.{PlaceView}
use Rattle.certificate_graph.specs.declared.places.PlaceView.TheVariants as view
use Rattle.certificate_graph.specs.Trees.{TrickTree, Own, Reply, Leaf, Branches}
use Rattle.certificate_graph.specs.Views.{tree_seen}
use Rattle.certificate_graph.specs.Graphs.{GraphShape, IsGraph}
use Rattle.checker.specs.Places.{HasBranchOf}
use Rattle.checker.specs.Steps.{HasHigher, IsAnswered, need_after, IsListed, StepHolds, StepsHold}
use Rattle.checker.specs.Roots.{RootedShape, node_at}
use Rattle.checker.specs.Claims.{IsRootOf, Shows}
use Rattle.checker.proofs.TwoLines.{answered_by}
use Rattle.checker.proofs.TrickCards.{IsPlayable}
use Rattle.checker.proofs.OnTheWay.{GoesOnAfter, way_begins, pattern_of, own_goes_on, own_turn, reply_goes_on, reply_turn, leaf_is_whole, own_is_playable, own_leads, reply_is_answered, reply_leads, is_still_needed, winner_is_listed, child_goes_on}
use Rattle.certificate_play.specs.declared.steps.Step.{Step}
use Rattle.certificate_play.specs.Branches.{GoesBy}
use Rattle.certificate_play.specs.Steps.{opening_of, IsWayOf, IsByNode, IsChosen, promise_of, IsKeptBy, IsKeptIn}

-- ---- a trick begins
-- a step before its first card
pub record IsFirst (step : Step) (graph : GraphShape) (node : Node) (start : Deal) : Type 0 where
  pub graph_is : step.graph.now ≡ graph
  pub node_is : step.node.now ≡ node
  pub place_is : step.place ≡ node.tree
  pub start_is : step.start ≡ start
  pub trick_is : step.trick.items ≡ []
  pub line_is : step.line.items ≡ []

pub first_by_node : (step : Step) (graph : GraphShape) (node : Node) (start : Deal) (number : ℕ) → IsFirst step graph node start → IsGraph graph → StepsHold graph → slice_get graph.nodes number ≡ Some node → IsLayout start → Matches node.pattern start →
    IsByNode step
first_by_node step graph node start number first is steps there layout matches = record {
  graph = rw first.graph_is is;
  steps = rw first.graph_is steps;
  number = number;
  there = rw (first.graph_is, first.node_is) there;
  layout = rw first.start_is layout;
  matches = rw (first.node_is, first.start_is) matches;
  short = omega (arith, ap length first.trick_is);
  way = rw (first.graph_is, first.node_is, first.place_is, first.start_is, first.trick_is, first.line_is) (way_begins graph node start);
}

-- ---- a trick goes on
-- the same step with a card more
pub record IsSame (step next : Step) (card : Card) (taken : PatCard) : Type 0 where
  pub graph_is : next.graph.now ≡ step.graph.now
  pub node_is : next.node.now ≡ step.node.now
  pub start_is : next.start ≡ step.start
  pub trick_is : next.trick.items ≡ step.trick.items ++ card ∷ []
  pub line_is : next.line.items ≡ step.line.items ++ taken ∷ []

pub same_kept : (step next : Step) (card : Card) (taken : PatCard) → IsSame step next card taken → IsByNode step → IsWayOf step (step.trick.items ++ card ∷ []) (step.line.items ++ taken ∷ []) next.place → length step.trick.items < 3 → IsKeptBy (promise_of step (step.trick.items ++ card ∷ [])) next
unfolding trick_of leader_after tricks_of left_of
same_kept step next card taken same by_node way short = record {
  before = [];
  history_is = sym same.trick_is;
  whole = refl;
  left = omega (arith, ap size_of same.start_is);
  opening_is = rw (same.graph_is, same.node_is, same.start_is) refl;
  side_is = ap (λ (g : GraphShape). g.side) same.graph_is;
  enough = omega (arith, ap (λ (n : Node). n.need) same.node_is);
  by_node = record {
    graph = rw same.graph_is by_node.graph;
    steps = rw same.graph_is by_node.steps;
    number = by_node.number;
    there = rw (same.graph_is, same.node_is) by_node.there;
    layout = rw same.start_is by_node.layout;
    matches = rw (same.node_is, same.start_is) by_node.matches;
    short = omega (arith, ap length same.trick_is, length-append step.trick.items (card ∷ []));
    way = rw (same.graph_is, same.node_is, same.start_is, same.trick_is, same.line_is) way;
  };
}

-- ---- a trick ends
-- no node goes on where the winner is not listed: no more is needed
pub ended_kept : (step : Step) (a b c d : Card) (line : List PatCard) (children : List Child) → IsByNode step → IsWayOf step (a ∷ b ∷ c ∷ d ∷ []) line (Leaf children) → (IsListed children (winner_of step.graph.now.trump step.node.now.lead (trick_made a b c d)) → ⊥) →
    IsKeptIn (promise_of step (a ∷ b ∷ c ∷ d ∷ [])) None
ended_kept step a b c d line children by_node way none =
    let graph = step.graph.now in
    let node = step.node.now in
    let holds = by_node.steps by_node.number node by_node.there in
    elim (cases_lt 0 (need_after graph.side node.need (winner_of graph.trump node.lead (trick_made a b c d)))) [
      | inl needed ↦ absurd (none (winner_is_listed graph node step.start a b c d line children holds way needed))
      | inr done ↦ omega (arith, is_still_needed graph node a b c d, done)
    ]

-- what goes on where the winner is listed
pub goes_on_after : (step : Step) (real : List Card) (line : List PatCard) (children : List Child) (child : Child) → IsByNode step → IsWayOf step real line (Leaf children) → Contains children child → GoesOnAfter step.graph.now step.node.now step.start real child
goes_on_after step real line children child by_node way listed =
    child_goes_on step.graph.now step.node.now step.start real line children child by_node.graph (pattern_of step.graph.now by_node.graph by_node.number step.node.now by_node.there)
    (by_node.steps by_node.number step.node.now by_node.there) by_node.layout by_node.matches way listed

-- the next trick is played by the node of the seat that has won
pub next_kept : (step next : Step) (a b c d : Card) (line : List PatCard) (children : List Child) (child : Child) (node : Node) → IsByNode step → IsWayOf step (a ∷ b ∷ c ∷ d ∷ []) line (Leaf children) → Contains children child →
    child.winner ≡ winner_of step.graph.now.trump step.node.now.lead (trick_made a b c d) → slice_get step.graph.now.nodes child.number ≡ Some node → IsFirst next step.graph.now node (left_of step.start (a ∷ b ∷ c ∷ d ∷ [])) →
    IsKeptBy (promise_of step (a ∷ b ∷ c ∷ d ∷ [])) next
next_kept step next a b c d line children child node by_node way listed wins there first =
    let graph = step.graph.now in
    let real = a ∷ b ∷ c ∷ d ∷ [] in
    let opening = opening_of step in
    let end = Ends-from_four graph.trump step.node.now.lead a b c d in
    let on = goes_on_after step real line children child by_node way listed in
    let same : on.next ≡ node = (let both : Some on.next ≡ Some node = sym on.there ∙ there in cc) in
    let layout = IsLayout-after opening real by_node.layout way.mirrors.legal end.trick_is on.more in
    let matches : Matches node.pattern (left_of step.start real) = subst (λ (n : Node). Matches n.pattern (left_of step.start real)) same on.matches in
    let lead : node.lead ≡ leader_after graph.trump step.node.now.lead real = ap (λ (n : Node). n.lead) (sym same) ∙ (on.lead ∙ (wins ∙ sym end.leader_is)) in
    let needs : node.need ≡ on.next.need = ap (λ (n : Node). n.need) (sym same) in
    let after : need_after graph.side step.node.now.need child.winner ≡ step.node.now.need - tricks_of graph.side graph.trump step.node.now.lead real =
    ap (need_after graph.side step.node.now.need) wins ∙ is_still_needed graph step.node.now a b c d in
    let count = count_of-left_of graph.trump step.start step.node.now.lead real way.mirrors.legal end.trick_is North in
    record {
      before = real;
      history_is = rw first.trick_is refl;
      whole = end.trick_is;
      left = omega (arith, count, ap size_of first.start_is);
      opening_is = rw (first.graph_is, first.node_is, first.start_is) (ap (λ (s : Seat). let o : Opening = record { deal = left_of step.start real; leader = s; trump = graph.trump } in o) lead);
      side_is = ap (λ (g : GraphShape). g.side) first.graph_is;
      enough = omega (arith, on.need, needs, after, ap (λ (n : Node). n.need) first.node_is);
      by_node = first_by_node next graph node (left_of step.start real) child.number first by_node.graph by_node.steps there layout matches;
    }

-- ---- the first trick of a play
pub record IsRootAt (rooted : RootedShape) (deal : Deal) (leader : Seat) (need number : ℕ) : Type 0 where
  pub node : Node
  pub there : slice_get rooted.graph.nodes number ≡ Some node
  pub is : IsRootOf node deal leader need
  pub steps : StepsHold rooted.graph

-- the root that a graph shows something by
pub root_at : (rooted : RootedShape) (deal : Deal) (leader : Seat) (trump : Trump) (side : Side) (need number : ℕ) → Shows rooted deal leader trump side need → rooted.root ≡ Some number → IsRootAt rooted deal leader need number
root_at rooted deal leader trump side zero number shows numbered = absurd (none-some number (sym shows.root ∙ numbered))
root_at rooted deal leader trump side (suc need) number shows numbered = record {
  node = shows.root.0;
  there = ap (node_at rooted.graph.nodes) (sym numbered) ∙ shows.root.1;
  is = shows.root.2;
  steps = shows.steps (λ none. none-some number (sym none ∙ numbered));
}

-- without a root nothing is needed
pub no_root : (rooted : RootedShape) (deal : Deal) (leader : Seat) (trump : Trump) (side : Side) (need : ℕ) → Shows rooted deal leader trump side need → rooted.root ≡ None → need ≡ 0
no_root rooted deal leader trump side zero shows none = refl
no_root rooted deal leader trump side (suc need) shows none =
    absurd (none-some shows.root.0 (sym (ap (node_at rooted.graph.nodes) none) ∙ shows.root.1))

-- the first trick keeps the promise of a play that has not begun
pub begun_kept : (step : Step) (graph : GraphShape) (deal : Deal) (leader : Seat) (need number : ℕ) (at : Option ℕ) (root : IsRootAt (record { graph = graph; root = at }) deal leader need number) → IsGraph graph → IsLayout deal → IsFirst step graph root.node deal →
    IsKeptBy (record { position = record { opening = record { deal = deal; leader = leader; trump = graph.trump }; history = [] }; side = graph.side; tricks = need }) step
unfolding trick_of leader_after tricks_of left_of
begun_kept step graph deal leader need number at root is layout first = record {
  before = [];
  history_is = rw first.trick_is refl;
  whole = refl;
  left = omega (arith, ap size_of first.start_is);
  opening_is = rw (first.graph_is, first.node_is, first.start_is) (ap (λ (s : Seat). let o : Opening = record { deal = deal; leader = s; trump = graph.trump } in o) root.is.lead);
  side_is = ap (λ (g : GraphShape). g.side) first.graph_is;
  enough = omega (arith, root.is.need_is, ap (λ (n : Node). n.need) first.node_is);
  by_node = first_by_node step graph root.node deal number first is root.steps root.there layout root.is.pattern;
}

-- ---- what stands in the place of a step
-- the step of the node holds
pub holds_here : (step : Step) → IsByNode step → StepHolds step.graph.now step.node.now
holds_here step by_node = by_node.steps by_node.number step.node.now by_node.there

-- what leads to this place, seen so
way_seen : (step : Step) (real : List Card) (line : List PatCard) (seen : PlaceView) (place : TrickTree) → IsWayOf step real line place → tree_seen seen ≡ place → IsWayOf step real line (tree_seen seen)
way_seen step real line seen place way is = subst (IsWayOf step real line) (sym is) way

-- at a turn of the side its card does
pub own_stands : (step : Step) (seen : PlaceView) → IsByNode step → IsTurnOf (opening_of step) step.graph.now.side step.trick.items → tree_seen seen ≡ step.place → ((pat_card : PatCard) (below : TrickTree) → seen ≡ view.Own pat_card below → ⊥) → ⊥
own_stands step (view.Own pat_card below) by_node turn is none = none pat_card below refl
own_stands step (view.Reply branches) by_node turn is none =
    reply_turn step.graph.now step.node.now step.start step.trick.items step.line.items branches (holds_here step by_node) (way_seen step step.trick.items step.line.items (view.Reply branches) step.place by_node.way is) turn
own_stands step (view.Leaf children) by_node turn is none =
    omega (arith, by_node.short, leaf_is_whole step.graph.now step.node.now step.start step.trick.items step.line.items children (holds_here step by_node) (way_seen step step.trick.items step.line.items (view.Leaf children) step.place by_node.way is))

-- at a turn of the opponents their cards do
pub reply_stands : (step : Step) (seen : PlaceView) → IsByNode step → (IsTurnOf (opening_of step) step.graph.now.side step.trick.items → ⊥) → tree_seen seen ≡ step.place → ((branches : Branches) → seen ≡ view.Reply branches → ⊥) → ⊥
reply_stands step (view.Own pat_card below) by_node others is none =
    others (own_turn step.graph.now step.node.now step.start step.trick.items step.line.items pat_card below (holds_here step by_node) (way_seen step step.trick.items step.line.items (view.Own pat_card below) step.place by_node.way is))
reply_stands step (view.Reply branches) by_node others is none = none branches refl
reply_stands step (view.Leaf children) by_node others is none =
    omega (arith, by_node.short, leaf_is_whole step.graph.now step.node.now step.start step.trick.items step.line.items children (holds_here step by_node) (way_seen step step.trick.items step.line.items (view.Leaf children) step.place by_node.way is))

-- after four cards the nodes that go on do
pub leaf_stands : (step : Step) (real : List Card) (line : List PatCard) (place : TrickTree) (seen : PlaceView) → IsByNode step → IsWayOf step real line place → length real ≡ 4 → tree_seen seen ≡ place → ((children : List Child) → seen ≡ view.Leaf children → ⊥) → ⊥
leaf_stands step real line place (view.Own pat_card below) by_node way four is none =
    omega (arith, four, own_goes_on step.graph.now step.node.now step.start real line pat_card below (holds_here step by_node) (way_seen step real line (view.Own pat_card below) place way is))
leaf_stands step real line place (view.Reply branches) by_node way four is none =
    omega (arith, four, reply_goes_on step.graph.now step.node.now step.start real line branches (holds_here step by_node) (way_seen step real line (view.Reply branches) place way is))
leaf_stands step real line place (view.Leaf children) by_node way four is none = none children refl

-- ---- one card
-- some card that may be played is the tree's
pub own_playable : (step : Step) (pat_card : PatCard) (below : TrickTree) → IsByNode step → Own pat_card below ≡ step.place → IsPlayable step.graph.now step.node.now step.start step.trick.items pat_card
own_playable step pat_card below by_node is =
    own_is_playable step.graph.now step.node.now step.start step.trick.items step.line.items pat_card below (holds_here step by_node) by_node.matches (subst (IsWayOf step step.trick.items step.line.items) (sym is) by_node.way)

-- and it leads to the place below
pub own_way : (step : Step) (pat_card : PatCard) (below : TrickTree) (card : Card) → IsByNode step → Own pat_card below ≡ step.place → CanPlay (opening_of step) step.trick.items card → IsChosen step card → IsWayOf step (step.trick.items ++ card ∷ []) (step.line.items ++ pat_card ∷ []) below
own_way step pat_card below card by_node is can (other, below', is', stands) =
    let both : Own pat_card below ≡ Own other below' = is ∙ is' in
    let same : other ≡ pat_card = cc in
    own_leads step.graph.now step.node.now step.start step.trick.items step.line.items pat_card below card (holds_here step by_node) (subst (IsWayOf step step.trick.items step.line.items) (sym is) by_node.way) can
    (subst (λ (p : PatCard). StandsFor step.node.now.pattern step.start p card) same stands)

-- a card of the opponents has its answer
pub reply_answered : (step : Step) (branches : Branches) (pat_card : PatCard) (card : Card) (seat : Seat) → IsByNode step → Reply branches ≡ step.place → CanPlay (opening_of step) step.trick.items card → StandsFor step.node.now.pattern step.start pat_card card →
    seat ≡ seat_in_place step.node.now.lead (length step.trick.items) → (HasBranchOf branches pat_card → ⊥) → (HasHigher step.node.now.pattern seat branches pat_card → ⊥) → ⊥
reply_answered step branches pat_card card seat by_node is can stands player none further =
    let answered = reply_is_answered step.graph.now step.node.now step.start step.trick.items step.line.items branches pat_card card (holds_here step by_node) by_node.matches (subst (IsWayOf step step.trick.items step.line.items) (sym is) by_node.way) can stands in
    let by = answered_by step.graph.now.version step.node.now.pattern seat branches pat_card (subst (λ (s : Seat). IsAnswered step.graph.now.version step.node.now.pattern s branches pat_card) (sym player) answered) in
    elim by.alike [
      | inl same ↦ none (subst (HasBranchOf branches) (sym same) by.branch)
      | inr run ↦ further (by.higher, run, by.branch)
    ]

-- and goes that way
pub reply_way : (step : Step) (branches : Branches) (pat_card taken : PatCard) (below : TrickTree) (card : Card) (seat : Seat) → IsByNode step → Reply branches ≡ step.place → CanPlay (opening_of step) step.trick.items card → StandsFor step.node.now.pattern step.start pat_card card →
    seat ≡ seat_in_place step.node.now.lead (length step.trick.items) → GoesBy step.node.now.pattern seat branches pat_card taken below → IsWayOf step (step.trick.items ++ card ∷ []) (step.line.items ++ taken ∷ []) below
reply_way step branches pat_card taken below card seat by_node is can stands player goes =
    reply_leads step.graph.now step.node.now step.start step.trick.items step.line.items branches pat_card taken below card (holds_here step by_node) by_node.matches (subst (IsWayOf step step.trick.items step.line.items) (sym is) by_node.way) can stands
    (subst (λ (s : Seat). (pat_card ≡ taken) ⊎ IsLowerInRun step.node.now.pattern s pat_card taken) player goes.alike) goes.branch

-- ---- the end of a trick, by the three cards before the last
four_cards : (step : Step) (a b c d : Card) → step.trick.items ≡ a ∷ b ∷ c ∷ [] → step.trick.items ++ d ∷ [] ≡ a ∷ b ∷ c ∷ d ∷ []
four_cards step a b c d is = ap (λ (cards : List Card). cards ++ d ∷ []) is

pub ended_with : (step : Step) (a b c d : Card) (line : List PatCard) (children : List Child) (winner : Seat) → step.trick.items ≡ a ∷ b ∷ c ∷ [] → IsByNode step → IsWayOf step (step.trick.items ++ d ∷ []) line (Leaf children) →
    winner ≡ winner_of step.graph.now.trump step.node.now.lead (trick_made a b c d) → (IsListed children winner → ⊥) → IsKeptIn (promise_of step (step.trick.items ++ d ∷ [])) None
ended_with step a b c d line children winner is by_node way wins none =
    let four = four_cards step a b c d is in
    subst (λ (real : List Card). IsKeptIn (promise_of step real) None) (sym four)
    (ended_kept step a b c d line children by_node (subst (λ (real : List Card). IsWayOf step real line (Leaf children)) four way) (λ listed. none (subst (IsListed children) (sym wins) listed)))

pub next_with : (step next : Step) (a b c d : Card) (line : List PatCard) (children : List Child) (child : Child) (node : Node) (left : Deal) → step.trick.items ≡ a ∷ b ∷ c ∷ [] → IsByNode step → IsWayOf step (step.trick.items ++ d ∷ []) line (Leaf children) → Contains children child →
    child.winner ≡ winner_of step.graph.now.trump step.node.now.lead (trick_made a b c d) → slice_get step.graph.now.nodes child.number ≡ Some node → left ≡ left_of step.start (a ∷ b ∷ c ∷ d ∷ []) → IsFirst next step.graph.now node left →
    IsKeptBy (promise_of step (step.trick.items ++ d ∷ [])) next
next_with step next a b c d line children child node left is by_node way listed wins there left_is first =
    let four = four_cards step a b c d is in
    subst (λ (real : List Card). IsKeptBy (promise_of step real) next) (sym four)
    (next_kept step next a b c d line children child node by_node (subst (λ (real : List Card). IsWayOf step real line (Leaf children)) four way) listed wins there (subst (IsFirst next step.graph.now node) left_is first))

-- the node of a child that is listed is one of the graph
pub child_there : (step : Step) (real : List Card) (line : List PatCard) (children : List Child) (child : Child) → IsByNode step → IsWayOf step real line (Leaf children) → Contains children child → child.number < length step.graph.now.nodes
child_there step real line children child by_node way listed =
    let on = goes_on_after step real line children child by_node way listed in
    slice_get_within step.graph.now.nodes child.number on.next on.there
