-- One step is sound: the side wins what the node needs, since it can choose its cards by the tree, whatever is played.
use Rattle.std.proofs.Common.{◌≡◌, ℕ, zero, suc, ◌+◌, ◌-◌, ◌<◌, ◌≤◌, List, [], ◌∷◌, ◌++◌, length, refl, sym, ◌∙◌, subst, arith, inl, inr, length-append}
use Rattle.std.proofs.lemmas.Bool.{cases_lt}
use Rattle.cards.specs.declared.pack.Card.{Card}
use Rattle.cards.specs.declared.seats.Seat.{Seat}
use Rattle.cards.specs.Seats.{seat_in_place}
use Rattle.cards.specs.Deal.{Deal, IsLayout}
use Rattle.patterns.specs.Shapes.{IsPattern}
use Rattle.patterns.specs.Holders.{Matches}
use Rattle.pattern_step.specs.declared.pat_cards.PatCard.{PatCard}
use Rattle.play_rules.specs.Winners.{winner_of}
use Rattle.play_rules.specs.History.{trick_made, tricks_of}
use Rattle.play_rules.specs.Legal.{IsUnfinished}
use Rattle.play_rules.proofs.HistoryLaws.{Ends-from_four}
use Rattle.strategies.specs.Strategies.{CanWin}
use Rattle.strategies.specs.Values.{opening_after}
use Rattle.strategies.proofs.LawProofs.{by_own_card, against_each_card, the_rest, what_is_won, fewer}
use Rattle.certificate_graph.specs.declared.children.Child.{Child}
use Rattle.certificate_graph.specs.declared.nodes.Node.{Node}
use Rattle.certificate_graph.specs.Trees.{TrickTree, Own, Reply, Leaf}
use Rattle.certificate_graph.specs.Graphs.{GraphShape, IsGraph}
use Rattle.checker.specs.Steps.{need_after, IsRightAfter}
use Rattle.checker.specs.Faults.{HoldsFrom}
use Rattle.checker.specs.Soundness.{opening_at, KeepsItsClaim, IsNamedBy, OneStepIsSound}
use Rattle.checker.proofs.TwoLines.{answered_by}
use Rattle.checker.proofs.HoldLaws.{right_here, own_below, reply_below}
use Rattle.checker.proofs.Lines.{no_cards_begin}
use Rattle.checker.proofs.TrickCards.{nothing_mirrors, each_card_found}
use Rattle.checker.proofs.WayLaws.{IsOnWay, way_of_path, own_goes_on, own_turn, reply_goes_on, reply_turn, leaf_is_whole, own_is_playable, own_leads, reply_is_answered, reply_leads, is_still_needed, winner_is_listed, child_goes_on}

-- what the proof of a step has at hand
pub record IsStep (graph : GraphShape) (node : Node) (deal : Deal) : Type 0 where
  pub is : IsGraph graph
  pub pattern : IsPattern node.pattern
  pub claims : (next : Node) → IsNamedBy graph node next → KeepsItsClaim graph next
  pub layout : IsLayout deal
  pub matches : Matches node.pattern deal

-- After four cards that leave something needed the node that goes on wins it.
goes_on : (graph : GraphShape) (node : Node) (deal : Deal) (a b c d : Card) (line : List PatCard) (children : List Child) → IsStep graph node deal → IsRightAfter graph node line (Leaf children) → IsOnWay graph node deal (a ∷ b ∷ c ∷ d ∷ []) line (Leaf children) →
    0 < need_after graph.side node.need (winner_of graph.trump node.lead (trick_made a b c d)) → CanWin (opening_at graph node deal) graph.side node.need (a ∷ b ∷ c ∷ d ∷ [])
goes_on graph node deal a b c d line children step right way needed =
    let real = a ∷ b ∷ c ∷ d ∷ [] in
    let opening = opening_at graph node deal in
    let winner = winner_of graph.trump node.lead (trick_made a b c d) in
    let end = Ends-from_four graph.trump node.lead a b c d in
    let listed = winner_is_listed graph node deal a b c d line children right way needed in
    let child : Child = record { winner = winner; number = listed.0 } in
    let on = child_goes_on graph node deal real line children child step.is step.pattern right step.layout step.matches way listed.1 in
    let next = on.next in
    let claim = step.claims next (record { cards = line; children = children; child = child; leaf = way.leads; listed = listed.1; there = on.there }) in
    let rest = the_rest opening graph.side node.need real step.layout way.mirrors.legal on.more end.trick_is in
    let lacks : node.need - tricks_of graph.side graph.trump node.lead real ≤ next.need = omega (arith, is_still_needed graph node a b c d, on.need) in
    let wins = fewer (opening_at graph next (opening_after opening real).deal) graph.side next.need (node.need - tricks_of graph.side graph.trump node.lead real) [] lacks (claim (opening_after opening real).deal rest.0 on.matches) in
    let lead : next.lead ≡ (opening_after opening real).leader = on.lead ∙ sym end.leader_is in
    rest.1.1 (subst (λ (leader : Seat). CanWin (record { deal = (opening_after opening real).deal; leader = leader; trump = graph.trump }) graph.side (node.need - tricks_of graph.side graph.trump node.lead real) []) lead wins)

-- After four cards the side has won what it needs, or it goes on.
ends_well : (graph : GraphShape) (node : Node) (deal : Deal) (real : List Card) (line : List PatCard) (children : List Child) → IsStep graph node deal → length real ≡ 4 → IsRightAfter graph node line (Leaf children) → IsOnWay graph node deal real line (Leaf children) →
    CanWin (opening_at graph node deal) graph.side node.need real
ends_well graph node deal [] line children step four right way = absurd (omega (arith, four))
ends_well graph node deal (a ∷ []) line children step four right way = absurd (omega (arith, four))
ends_well graph node deal (a ∷ b ∷ []) line children step four right way = absurd (omega (arith, four))
ends_well graph node deal (a ∷ b ∷ c ∷ []) line children step four right way = absurd (omega (arith, four))
ends_well graph node deal (a ∷ b ∷ c ∷ d ∷ e ∷ rest) line children step four right way = absurd (omega (arith, four))
ends_well graph node deal (a ∷ b ∷ c ∷ d ∷ []) line children step four right way =
    elim (cases_lt 0 (need_after graph.side node.need (winner_of graph.trump node.lead (trick_made a b c d)))) [
      | inl needed ↦ goes_on graph node deal a b c d line children step right way needed
      | inr done ↦ what_is_won (opening_at graph node deal) graph.side node.need (a ∷ b ∷ c ∷ d ∷ []) step.layout way.mirrors.legal (omega (arith, is_still_needed graph node a b c d, done))
    ]

-- some card is still to be played in a trick that goes on
trick_goes_on : (graph : GraphShape) (node : Node) (deal : Deal) (real : List Card) → IsLayout deal → length real < 4 → IsUnfinished (opening_at graph node deal) real
trick_goes_on graph node deal real layout short = omega (arith, layout.some_cards)

-- Wherever the tree was led to, if all is right from there on, the side wins what the node needs; so many cards are still to be played to the trick.
pub wins_from : (graph : GraphShape) (node : Node) (deal : Deal) (left : ℕ) (real : List Card) (line : List PatCard) (place : TrickTree) → IsStep graph node deal → length real + left ≡ 4 → HoldsFrom graph node line place → IsOnWay graph node deal real line place →
    CanWin (opening_at graph node deal) graph.side node.need real
wins_from graph node deal left real line (Leaf children) step whole holds way = ends_well graph node deal real line children step (leaf_is_whole graph node deal real line children (right_here graph node line (Leaf children) holds) way) (right_here graph node line (Leaf children) holds) way
wins_from graph node deal zero real line (Own pat below) step whole holds way = absurd (omega (arith, whole, own_goes_on graph node deal real line pat below (right_here graph node line (Own pat below) holds) way))
wins_from graph node deal zero real line (Reply branches) step whole holds way = absurd (omega (arith, whole, reply_goes_on graph node deal real line branches (right_here graph node line (Reply branches) holds) way))
wins_from graph node deal (suc left) real line (Own pat below) step whole holds way =
    let right = right_here graph node line (Own pat below) holds in
    let own = own_is_playable graph node deal real line pat below right step.matches way in
    let wins = wins_from graph node deal left (real ++ own.card ∷ []) (line ++ pat ∷ []) below step (omega (arith, length-append real (own.card ∷ []))) (own_below graph node line pat below holds)
    (own_leads graph node deal real line pat below own.card right way own.can own.stands) in
    (by_own_card (opening_at graph node deal) graph.side node.need real step.layout way.mirrors.legal
    (trick_goes_on graph node deal real step.layout (own_goes_on graph node deal real line pat below right way)) (own_turn graph node deal real line pat below right way)).1
    (own.card, own.can, wins)
wins_from graph node deal (suc left) real line (Reply branches) step whole holds way =
    let right = right_here graph node line (Reply branches) holds in
    let short = reply_goes_on graph node deal real line branches right way in
    (against_each_card (opening_at graph node deal) graph.side node.need real step.layout way.mirrors.legal (trick_goes_on graph node deal real step.layout short) (reply_turn graph node deal real line branches right way)).1
    (λ card can.
    let found = each_card_found graph node deal way.pats real card step.matches way.mirrors short can in
    let by = answered_by graph.version node.pattern (seat_in_place node.lead (length real)) branches found.pat (reply_is_answered graph node deal real line branches found.pat card right step.matches way can found.stands) in
    wins_from graph node deal left (real ++ card ∷ []) (line ++ by.higher ∷ []) by.branch.0 step (omega (arith, length-append real (card ∷ []))) (reply_below graph node line branches holds by.higher by.branch.0 by.branch.1)
    (reply_leads graph node deal real line branches found.pat by.higher by.branch.0 card right step.matches way can found.stands by.alike by.branch.1))

pub one_step : OneStepIsSound
one_step graph node is pattern holds claims deal layout matches =
    let step : IsStep graph node deal = record { is = is; pattern = pattern; claims = claims; layout = layout; matches = matches } in
    wins_from graph node deal 4 [] [] node.tree step (omega arith) holds (way_of_path graph node deal [] [] node.tree (nothing_mirrors graph node deal) (no_cards_begin node) refl)
