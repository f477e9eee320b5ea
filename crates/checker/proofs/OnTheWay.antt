-- On the way through a trick of a node whose whole step holds: the laws of the way, since each place on it is right.
use Rattle.std.proofs.Common.{◌≡◌, ◌<◌, List, [], ◌∷◌, ◌++◌, length, Contains, ◌⊎◌, refl}
use Rattle.cards.specs.declared.pack.Card.{Card}
use Rattle.cards.specs.Seats.{seat_in_place, side_of}
use Rattle.cards.specs.Deal.{Deal, IsLayout}
use Rattle.patterns.specs.Shapes.{IsPattern}
use Rattle.patterns.specs.Holders.{Matches}
use Rattle.pattern_step.specs.declared.pat_cards.PatCard.{PatCard}
use Rattle.pattern_step.specs.Runs.{IsLowerInRun}
use Rattle.pattern_step.specs.LayoutCards.{StandsFor}
use Rattle.play_rules.specs.Winners.{winner_of}
use Rattle.play_rules.specs.History.{trick_made}
use Rattle.play_rules.specs.Legal.{CanPlay, seat_to_play}
use Rattle.certificate_graph.specs.declared.children.Child.{Child}
use Rattle.certificate_graph.specs.declared.nodes.Node.{Node}
use Rattle.certificate_graph.specs.Trees.{TrickTree, Own, Reply, Leaf, Branches}
use Rattle.certificate_graph.specs.Graphs.{GraphShape, IsGraph}
use Rattle.checker.specs.Places.{HasBranch}
use Rattle.checker.specs.Steps.{IsAnswered, need_after, IsListed, StepHolds}
use Rattle.checker.specs.Soundness.{opening_at}
use Rattle.checker.proofs.Lines.{no_cards_begin}
use Rattle.checker.proofs.TrickCards.{nothing_mirrors, IsPlayable}
use Rattle.checker.proofs.WayLaws as law
pub use Rattle.checker.proofs.WayLaws.{pattern_of, IsOnWay, is_still_needed, GoesOnAfter}

-- ---- whose turn it is
pub way_begins : (graph : GraphShape) (node : Node) (deal : Deal) → IsOnWay graph node deal [] [] node.tree
way_begins graph node deal = law.way_of_path graph node deal [] [] node.tree (nothing_mirrors graph node deal) (no_cards_begin node) refl

pub own_goes_on : (graph : GraphShape) (node : Node) (deal : Deal) (real : List Card) (line : List PatCard) (pat : PatCard) (below : TrickTree) → StepHolds graph node → IsOnWay graph node deal real line (Own pat below) → length real < 4
own_goes_on graph node deal real line pat below holds way = law.own_goes_on graph node deal real line pat below (holds line (Own pat below) way.leads) way

pub own_turn : (graph : GraphShape) (node : Node) (deal : Deal) (real : List Card) (line : List PatCard) (pat : PatCard) (below : TrickTree) → StepHolds graph node → IsOnWay graph node deal real line (Own pat below) →
    side_of (seat_to_play (opening_at graph node deal) real) ≡ graph.side
own_turn graph node deal real line pat below holds way = law.own_turn graph node deal real line pat below (holds line (Own pat below) way.leads) way

pub reply_goes_on : (graph : GraphShape) (node : Node) (deal : Deal) (real : List Card) (line : List PatCard) (branches : Branches) → StepHolds graph node → IsOnWay graph node deal real line (Reply branches) → length real < 4
reply_goes_on graph node deal real line branches holds way = law.reply_goes_on graph node deal real line branches (holds line (Reply branches) way.leads) way

pub reply_turn : (graph : GraphShape) (node : Node) (deal : Deal) (real : List Card) (line : List PatCard) (branches : Branches) → StepHolds graph node → IsOnWay graph node deal real line (Reply branches) →
    side_of (seat_to_play (opening_at graph node deal) real) ≡ graph.side → ⊥
reply_turn graph node deal real line branches holds way turn = law.reply_turn graph node deal real line branches (holds line (Reply branches) way.leads) way turn

pub leaf_is_whole : (graph : GraphShape) (node : Node) (deal : Deal) (real : List Card) (line : List PatCard) (children : List Child) → StepHolds graph node → IsOnWay graph node deal real line (Leaf children) → length real ≡ 4
leaf_is_whole graph node deal real line children holds way = law.leaf_is_whole graph node deal real line children (holds line (Leaf children) way.leads) way

-- ---- one card more
pub own_is_playable : (graph : GraphShape) (node : Node) (deal : Deal) (real : List Card) (line : List PatCard) (pat : PatCard) (below : TrickTree) → StepHolds graph node → Matches node.pattern deal → IsOnWay graph node deal real line (Own pat below) →
    IsPlayable graph node deal real pat
own_is_playable graph node deal real line pat below holds matches way = law.own_is_playable graph node deal real line pat below (holds line (Own pat below) way.leads) matches way

pub own_leads : (graph : GraphShape) (node : Node) (deal : Deal) (real : List Card) (line : List PatCard) (pat : PatCard) (below : TrickTree) (card : Card) → StepHolds graph node → IsOnWay graph node deal real line (Own pat below) →
    CanPlay (opening_at graph node deal) real card → StandsFor node.pattern deal pat card → IsOnWay graph node deal (real ++ card ∷ []) (line ++ pat ∷ []) below
own_leads graph node deal real line pat below card holds way can stands = law.own_leads graph node deal real line pat below card (holds line (Own pat below) way.leads) way can stands

pub reply_is_answered : (graph : GraphShape) (node : Node) (deal : Deal) (real : List Card) (line : List PatCard) (branches : Branches) (pat : PatCard) (card : Card) → StepHolds graph node → Matches node.pattern deal → IsOnWay graph node deal real line (Reply branches) →
    CanPlay (opening_at graph node deal) real card → StandsFor node.pattern deal pat card → IsAnswered graph.version node.pattern (seat_in_place node.lead (length real)) branches pat
reply_is_answered graph node deal real line branches pat card holds matches way can stands = law.reply_is_answered graph node deal real line branches pat card (holds line (Reply branches) way.leads) matches way can stands

pub reply_leads : (graph : GraphShape) (node : Node) (deal : Deal) (real : List Card) (line : List PatCard) (branches : Branches) (pat higher : PatCard) (below : TrickTree) (card : Card) → StepHolds graph node → Matches node.pattern deal →
    IsOnWay graph node deal real line (Reply branches) → CanPlay (opening_at graph node deal) real card → StandsFor node.pattern deal pat card →
    (pat ≡ higher) ⊎ IsLowerInRun node.pattern (seat_in_place node.lead (length real)) pat higher → HasBranch branches higher below → IsOnWay graph node deal (real ++ card ∷ []) (line ++ higher ∷ []) below
reply_leads graph node deal real line branches pat higher below card holds matches way can stands alike has = law.reply_leads graph node deal real line branches pat higher below card (holds line (Reply branches) way.leads) matches way can stands alike has

-- ---- after four cards
pub winner_is_listed : (graph : GraphShape) (node : Node) (deal : Deal) (a b c d : Card) (line : List PatCard) (children : List Child) → StepHolds graph node → IsOnWay graph node deal (a ∷ b ∷ c ∷ d ∷ []) line (Leaf children) →
    0 < need_after graph.side node.need (winner_of graph.trump node.lead (trick_made a b c d)) → IsListed children (winner_of graph.trump node.lead (trick_made a b c d))
winner_is_listed graph node deal a b c d line children holds way needed = law.winner_is_listed graph node deal a b c d line children (holds line (Leaf children) way.leads) way needed

pub child_goes_on : (graph : GraphShape) (node : Node) (deal : Deal) (real : List Card) (line : List PatCard) (children : List Child) (child : Child) → IsGraph graph → IsPattern node.pattern → StepHolds graph node → IsLayout deal → Matches node.pattern deal →
    IsOnWay graph node deal real line (Leaf children) → Contains children child → GoesOnAfter graph node deal real child
child_goes_on graph node deal real line children child is pattern holds layout matches way listed = law.child_goes_on graph node deal real line children child is pattern (holds line (Leaf children) way.leads) layout matches way listed
