-- On the way through a trick: real cards that were played, and the place of the tree to which they lead. If that place is right, what
-- a card more comes to, and how it goes on after four. Of the places before it nothing is asked.
use Rattle.std.proofs.Common.{◌≡◌, ℕ, zero, suc, ◌-◌, ◌<◌, ◌≤◌, Bool, true, false, cond, List, [], ◌∷◌, ◌++◌, length, Contains, Some, ◌⊎◌, refl, sym, ◌∙◌, ap, subst, arith, inl}
use Rattle.std.specs.Prelude.{slice_get}
use Rattle.std.proofs.lemmas.Option.{slice_get_within, get_or_from_slice_get}
use Rattle.std.proofs.lemmas.List.Elements.{All-contains}
use Rattle.cards.specs.declared.pack.Card.{Card}
use Rattle.cards.specs.declared.seats.Seat.{Seat}
use Rattle.cards.specs.declared.seats.Side.{Side}
use Rattle.cards.specs.Seats.{seat_in_place, side_of, is_same_side}
use Rattle.cards.specs.Deal.{Deal, IsLayout}
use Rattle.patterns.specs.Shapes.{IsPattern}
use Rattle.patterns.specs.Holders.{Matches}
use Rattle.pattern_step.specs.declared.pat_cards.PatCard.{PatCard}
use Rattle.pattern_step.specs.Tricks.{played_in_place}
use Rattle.pattern_step.specs.Runs.{IsLowerInRun}
use Rattle.pattern_step.specs.LayoutCards.{StandsFor}
use Rattle.pattern_step.proofs.LayoutLaws.{IsOnePatCard-of}
use Rattle.pattern_step.proofs.RunLaws.{lines_alike}
use Rattle.play_rules.specs.Tricks.{card_in_place}
use Rattle.play_rules.specs.Winners.{winner_of}
use Rattle.play_rules.specs.History.{trick_made, tricks_of}
use Rattle.play_rules.specs.Legal.{CanPlay, IsUnfinished, seat_to_play}
use Rattle.play_rules.specs.Left.{left_of}
use Rattle.play_rules.proofs.HistoryLaws.{Ends-from_four}
use Rattle.certificate_graph.specs.declared.children.Child.{Child}
use Rattle.certificate_graph.specs.declared.nodes.Node.{Node}
use Rattle.certificate_graph.specs.Trees.{TrickTree, Own, Reply, Leaf, Branches}
use Rattle.certificate_graph.specs.Graphs.{GraphShape, IsGraph, IsNode}
use Rattle.checker.specs.Places.{HasBranch, LeadsTo}
use Rattle.checker.specs.Steps.{player_after, MayComeNext, IsAnswered, need_after, IsListed, HasToGoOn, IsRightChild, IsRightLeaf, IsRightAfter, BeginLine}
use Rattle.checker.specs.Soundness.{opening_at}
use Rattle.checker.proofs.Lines.{four_are_legal}
use Rattle.checker.proofs.TwoLines.{StandsForLine, stands_for_itself, comes_on_line, comes_in_play, one_more_stands}
use Rattle.checker.proofs.TrickCards.{Mirrors, player_is, IsPlayable, some_card_playable, each_card_found, one_more_mirrors}
use Rattle.checker.proofs.TrickWinner.{winner_may_win}
use Rattle.checker.proofs.TrickRest.{rest_matches, rest_is_smaller, size_is}

-- each node of a graph has a pattern
pub pattern_of : (graph : GraphShape) → IsGraph graph → (number : ℕ) (node : Node) → slice_get graph.nodes number ≡ Some node → IsPattern node.pattern
pattern_of graph is number node there =
    let within = slice_get_within graph.nodes number node there in
    let listed : Contains graph.nodes node = (number, within, get_or_from_slice_get graph.nodes number node node there) in
    (All-contains (IsNode (length graph.nodes)) graph.nodes node is.each listed).pattern

-- ---- the way
-- Pattern cards stand for the cards played, and this line, which stands for those, leads to this place. What was played may be lower,
-- in runs, than the cards that led there.
pub record IsOnWay (graph : GraphShape) (node : Node) (deal : Deal) (real : List Card) (line : List PatCard) (place : TrickTree) : Type 0 where
  pub pats : List PatCard
  pub mirrors : Mirrors graph node deal pats real
  pub lines : StandsForLine node pats line
  pub leads : LeadsTo node.tree line place

-- cards of the tree that were played are on the way
pub way_of_path : (graph : GraphShape) (node : Node) (deal : Deal) (real : List Card) (line : List PatCard) (place : TrickTree) → Mirrors graph node deal line real → BeginLine node line → LeadsTo node.tree line place → IsOnWay graph node deal real line place
way_of_path graph node deal real line place mirrors begun leads = record { pats = line; mirrors = mirrors; lines = stands_for_itself node line begun; leads = leads }

-- the line is as long as the cards played
as_long : (graph : GraphShape) (node : Node) (deal : Deal) (real : List Card) (line : List PatCard) (place : TrickTree) (way : IsOnWay graph node deal real line place) → length line ≡ length real
as_long graph node deal real line place way = way.lines.as_long ∙ sym way.mirrors.as_long

-- cards that lead to a place, and one more from there
one_more_leads : (tree : TrickTree) (cards : List PatCard) (card : PatCard) (place below : TrickTree) → LeadsTo tree cards place → LeadsTo place (card ∷ []) below → LeadsTo tree (cards ++ card ∷ []) below
one_more_leads tree [] card place below leads next = subst (λ (t : TrickTree). LeadsTo t (card ∷ []) below) (sym leads) next
one_more_leads (Own own tree) (first ∷ cards) card place below (is, leads) next = (is, one_more_leads tree cards card place below leads next)
one_more_leads (Reply branches) (first ∷ cards) card place below (tree, has, leads) next = (tree, has, one_more_leads tree cards card place below leads next)
one_more_leads (Leaf children) (first ∷ cards) card place below leads next = absurd leads

-- the seat to play is the one that plays after the line
to_play : (graph : GraphShape) (node : Node) (deal : Deal) (real : List Card) (line : List PatCard) (place : TrickTree) (way : IsOnWay graph node deal real line place) → length real < 4 → seat_to_play (opening_at graph node deal) real ≡ player_after node line
to_play graph node deal real line place way short = player_is graph node deal way.pats real way.mirrors short ∙ ap (seat_in_place node.lead) (sym way.lines.as_long)

-- ---- whose turn it is, by the place
pub own_goes_on : (graph : GraphShape) (node : Node) (deal : Deal) (real : List Card) (line : List PatCard) (pat : PatCard) (below : TrickTree) → IsRightAfter graph node line (Own pat below) → IsOnWay graph node deal real line (Own pat below) → length real < 4
own_goes_on graph node deal real line pat below right way =
    omega (arith, as_long graph node deal real line (Own pat below) way, right.0.goes_on)

pub own_turn : (graph : GraphShape) (node : Node) (deal : Deal) (real : List Card) (line : List PatCard) (pat : PatCard) (below : TrickTree) → IsRightAfter graph node line (Own pat below) → IsOnWay graph node deal real line (Own pat below) →
    side_of (seat_to_play (opening_at graph node deal) real) ≡ graph.side
own_turn graph node deal real line pat below right way =
    ap side_of (to_play graph node deal real line (Own pat below) way (own_goes_on graph node deal real line pat below right way)) ∙ right.0.own

pub reply_goes_on : (graph : GraphShape) (node : Node) (deal : Deal) (real : List Card) (line : List PatCard) (branches : Branches) → IsRightAfter graph node line (Reply branches) → IsOnWay graph node deal real line (Reply branches) → length real < 4
reply_goes_on graph node deal real line branches right way =
    omega (arith, as_long graph node deal real line (Reply branches) way, right.0.goes_on)

pub reply_turn : (graph : GraphShape) (node : Node) (deal : Deal) (real : List Card) (line : List PatCard) (branches : Branches) → IsRightAfter graph node line (Reply branches) → IsOnWay graph node deal real line (Reply branches) →
    side_of (seat_to_play (opening_at graph node deal) real) ≡ graph.side → ⊥
reply_turn graph node deal real line branches right way turn =
    right.0.others (sym (ap side_of (to_play graph node deal real line (Reply branches) way (reply_goes_on graph node deal real line branches right way))) ∙ turn)

pub leaf_is_whole : (graph : GraphShape) (node : Node) (deal : Deal) (real : List Card) (line : List PatCard) (children : List Child) → IsRightAfter graph node line (Leaf children) → IsOnWay graph node deal real line (Leaf children) → length real ≡ 4
leaf_is_whole graph node deal real line children right way =
    sym (as_long graph node deal real line (Leaf children) way) ∙ right.whole

-- ---- one card more
-- at the side's turn some card that the tree's card stands for may be played, and any such card goes on
pub own_is_playable : (graph : GraphShape) (node : Node) (deal : Deal) (real : List Card) (line : List PatCard) (pat : PatCard) (below : TrickTree) → IsRightAfter graph node line (Own pat below) → Matches node.pattern deal → IsOnWay graph node deal real line (Own pat below) →
    IsPlayable graph node deal real pat
own_is_playable graph node deal real line pat below right matches way =
    some_card_playable graph node deal way.pats real pat matches way.mirrors (own_goes_on graph node deal real line pat below right way) (comes_in_play node way.pats line pat way.lines right.1)

pub own_leads : (graph : GraphShape) (node : Node) (deal : Deal) (real : List Card) (line : List PatCard) (pat : PatCard) (below : TrickTree) (card : Card) → IsRightAfter graph node line (Own pat below) → IsOnWay graph node deal real line (Own pat below) →
    CanPlay (opening_at graph node deal) real card → StandsFor node.pattern deal pat card → IsOnWay graph node deal (real ++ card ∷ []) (line ++ pat ∷ []) below
own_leads graph node deal real line pat below card right way can stands =
    let short = own_goes_on graph node deal real line pat below right way in
    let legal = comes_in_play node way.pats line pat way.lines right.1 in
    record {
      pats = way.pats ++ pat ∷ [];
      mirrors = one_more_mirrors graph node deal way.pats real pat card way.mirrors short can stands;
      lines = one_more_stands node way.pats line pat pat way.lines legal right.1 (inl refl);
      leads = one_more_leads node.tree line pat (Own pat below) below way.leads (refl, refl);
    }

-- a card that the opponents may play is answered, and goes the way of the branch that answers it
reply_may_come : (graph : GraphShape) (node : Node) (deal : Deal) (real : List Card) (line : List PatCard) (branches : Branches) (pat : PatCard) (card : Card) → IsRightAfter graph node line (Reply branches) → Matches node.pattern deal → (way : IsOnWay graph node deal real line (Reply branches)) →
    CanPlay (opening_at graph node deal) real card → StandsFor node.pattern deal pat card → MayComeNext node way.pats pat
reply_may_come graph node deal real line branches pat card right matches way can stands =
    let short = reply_goes_on graph node deal real line branches right way in
    let found = each_card_found graph node deal way.pats real card matches way.mirrors short can in
    let one = IsOnePatCard-of node.pattern deal (seat_to_play (opening_at graph node deal) real) card matches can.held.dealt in
    subst (MayComeNext node way.pats) (one.alone found.pat found.stands ∙ sym (one.alone pat stands)) found.legal

pub reply_is_answered : (graph : GraphShape) (node : Node) (deal : Deal) (real : List Card) (line : List PatCard) (branches : Branches) (pat : PatCard) (card : Card) → IsRightAfter graph node line (Reply branches) → Matches node.pattern deal → IsOnWay graph node deal real line (Reply branches) →
    CanPlay (opening_at graph node deal) real card → StandsFor node.pattern deal pat card → IsAnswered graph.version node.pattern (seat_in_place node.lead (length real)) branches pat
reply_is_answered graph node deal real line branches pat card right matches way can stands =
    let may = reply_may_come graph node deal real line branches pat card right matches way can stands in
    subst (λ (n : ℕ). IsAnswered graph.version node.pattern (seat_in_place node.lead n) branches pat) (as_long graph node deal real line (Reply branches) way)
    (right.1.each pat (comes_on_line node way.pats line pat way.lines may))

pub reply_leads : (graph : GraphShape) (node : Node) (deal : Deal) (real : List Card) (line : List PatCard) (branches : Branches) (pat higher : PatCard) (below : TrickTree) (card : Card) → IsRightAfter graph node line (Reply branches) → Matches node.pattern deal →
    IsOnWay graph node deal real line (Reply branches) → CanPlay (opening_at graph node deal) real card → StandsFor node.pattern deal pat card →
    (pat ≡ higher) ⊎ IsLowerInRun node.pattern (seat_in_place node.lead (length real)) pat higher → HasBranch branches higher below → IsOnWay graph node deal (real ++ card ∷ []) (line ++ higher ∷ []) below
reply_leads graph node deal real line branches pat higher below card right matches way can stands alike has =
    let short = reply_goes_on graph node deal real line branches right way in
    let may = reply_may_come graph node deal real line branches pat card right matches way can stands in
    record {
      pats = way.pats ++ pat ∷ [];
      mirrors = one_more_mirrors graph node deal way.pats real pat card way.mirrors short can stands;
      lines = one_more_stands node way.pats line pat higher way.lines may (right.1.legal higher (below, has))
          (subst (λ (n : ℕ). (pat ≡ higher) ⊎ IsLowerInRun node.pattern (seat_in_place node.lead n) pat higher) (sym (as_long graph node deal real line (Reply branches) way)) alike);
      leads = one_more_leads node.tree line higher (Reply branches) below way.leads (below, has, refl);
    }

-- ---- after four cards
-- what is still needed is what is needed less what was won
still_needed : (side : Side) (need won : ℕ) (winner : Seat) → won ≡ cond (is_same_side (side_of winner) side) 1 0 → need_after side need winner ≡ need - won
still_needed side need won winner is = rw is (go (is_same_side (side_of winner) side))
  where
    go : (own : Bool) → cond own (need - 1) need ≡ need - cond own 1 0
    go true = refl
    go false = omega arith

pub is_still_needed : (graph : GraphShape) (node : Node) (a b c d : Card) →
    need_after graph.side node.need (winner_of graph.trump node.lead (trick_made a b c d)) ≡ node.need - tricks_of graph.side graph.trump node.lead (a ∷ b ∷ c ∷ d ∷ [])
is_still_needed graph node a b c d =
    still_needed graph.side node.need (tricks_of graph.side graph.trump node.lead (a ∷ b ∷ c ∷ d ∷ [])) (winner_of graph.trump node.lead (trick_made a b c d))
    ((Ends-from_four graph.trump node.lead a b c d).tricks_are graph.side)

-- the two lines of a whole trick
four_alike : (graph : GraphShape) (node : Node) (deal : Deal) (real : List Card) (line : List PatCard) (children : List Child) → IsRightAfter graph node line (Leaf children) → (way : IsOnWay graph node deal real line (Leaf children)) → (length way.pats ≡ 4) × (length line ≡ 4)
four_alike graph node deal real line children right way =
    let four = leaf_is_whole graph node deal real line children right way in
    (sym way.mirrors.as_long ∙ four, as_long graph node deal real line (Leaf children) way ∙ four)

-- the seat that won is listed, where something is needed then
pub winner_is_listed : (graph : GraphShape) (node : Node) (deal : Deal) (a b c d : Card) (line : List PatCard) (children : List Child) → IsRightAfter graph node line (Leaf children) → IsOnWay graph node deal (a ∷ b ∷ c ∷ d ∷ []) line (Leaf children) →
    0 < need_after graph.side node.need (winner_of graph.trump node.lead (trick_made a b c d)) → IsListed children (winner_of graph.trump node.lead (trick_made a b c d))
winner_is_listed graph node deal a b c d line children right way needed =
    let winner = winner_of graph.trump node.lead (trick_made a b c d) in
    let four = four_alike graph node deal (a ∷ b ∷ c ∷ d ∷ []) line children right way in
    let legal = four_are_legal node way.pats four.0 way.lines.played in
    let alike = lines_alike node.pattern graph.trump node.lead way.pats line four.0 four.1 legal (four_are_legal node line four.1 way.lines.led) (λ place less. way.lines.alike place (omega (arith, four.0))) in
    let leaf : IsRightLeaf graph node line children = right in
    let go_on : HasToGoOn graph node line winner = record {
      wins = alike.0 winner (winner_may_win node.pattern deal graph.trump node.lead way.pats a b c d four.0 legal stand);
      needed = needed;
    } in
    (leaf.winners winner).1 go_on
  where
    stand : (place : ℕ) → place < 4 → StandsFor node.pattern deal (played_in_place way.pats place) (card_in_place (trick_made a b c d) place)
    stand zero less = way.mirrors.stand 0 (omega arith)
    stand (suc zero) less = way.mirrors.stand 1 (omega arith)
    stand (suc (suc zero)) less = way.mirrors.stand 2 (omega arith)
    stand (suc (suc (suc zero))) less = way.mirrors.stand 3 (omega arith)
    stand (suc (suc (suc (suc place)))) less = absurd (omega arith)

-- a node goes on from the layout that is left, where a child has won
pub record GoesOnAfter (graph : GraphShape) (node : Node) (deal : Deal) (real : List Card) (child : Child) : Type 0 where
  pub next : Node
  pub there : slice_get graph.nodes child.number ≡ Some next
  pub lead : next.lead ≡ child.winner
  pub need : need_after graph.side node.need child.winner ≤ next.need
  pub more : IsUnfinished (opening_at graph node deal) real
  pub matches : Matches next.pattern (left_of deal real)

-- the node of each child that is listed does
pub child_goes_on : (graph : GraphShape) (node : Node) (deal : Deal) (real : List Card) (line : List PatCard) (children : List Child) (child : Child) → IsGraph graph → IsPattern node.pattern → IsRightAfter graph node line (Leaf children) → IsLayout deal → Matches node.pattern deal →
    IsOnWay graph node deal real line (Leaf children) → Contains children child → GoesOnAfter graph node deal real child
child_goes_on graph node deal real line children child is pattern here layout matches way listed =
    let whole = leaf_is_whole graph node deal real line children here way in
    let four = four_alike graph node deal real line children here way in
    let legal = four_are_legal node way.pats four.0 way.lines.played in
    let legal' = four_are_legal node line four.1 way.lines.led in
    let alike = lines_alike node.pattern graph.trump node.lead way.pats line four.0 four.1 legal legal' (λ place less. way.lines.alike place (omega (arith, four.0))) in
    let leaf : IsRightLeaf graph node line children = here in
    let right : IsRightChild graph node line child = All-contains (IsRightChild graph node line) children child leaf.each listed in
    let smaller = rest_is_smaller node line graph.version right.0.pattern pattern legal' right.2.pattern in
    let some = (pattern_of graph is child.number right.0 right.1).some_cards in
    record {
      next = right.0;
      there = right.1;
      lead = right.2.lead;
      need = right.2.need;
      more = omega (arith, whole, smaller, some, size_is node deal layout matches);
      matches = rest_matches graph node deal way.pats line real graph.version right.0.pattern four.0 whole matches way.mirrors alike.1 right.2.pattern;
    }
