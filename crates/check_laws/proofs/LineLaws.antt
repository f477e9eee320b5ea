-- The cards that lead to a place of a tree, where its step holds: they begin a line, and such a beginning leads to a place.
use Rattle.std.proofs.Common.{◌≡◌, suc, ◌≤◌, List, [], ◌∷◌, ◌++◌, length, refl, sym, subst, append_assoc, arith}
use Rattle.std.proofs.lemmas.List.{length-append}
use Rattle.std.proofs.Math.Seq.{take-append_seam, get_or-append_seam}
use Rattle.cards.specs.declared.suits.Suit.TheVariants.{Spades}
use Rattle.pattern_step.specs.declared.pat_cards.PatCard.{PatCard}
use Rattle.pattern_step.specs.declared.pat_cards.PatCard.TheVariants.{Top}
use Rattle.certificate_graph.specs.declared.nodes.Node.{Node}
use Rattle.certificate_graph.specs.declared.versions.Version.{Version}
use Rattle.certificate_graph.specs.declared.versions.Version.TheVariants.{One, Two}
use Rattle.certificate_graph.specs.Trees.{TrickTree, Own, Reply, Leaf, Branches}
use Rattle.certificate_graph.specs.Graphs.{GraphShape}
use Rattle.checker.specs.Places.{HasBranchOf, LeadsTo}
use Rattle.checker.specs.Steps.{MayComeNext, AreAnswers, StepHolds, BeginLine}
use Rattle.checker.specs.Faults.{HoldsFrom}
use Rattle.check_laws.specs.Laws.{GoesOn, KeepTo}
use Rattle.checker.proofs.HoldLaws.{right_here, own_below, reply_below}

-- ---- the other way
-- the next card of a line is legal after those before it
comes_next : (node : Node) (cards more : List PatCard) (card : PatCard) → BeginLine node (cards ++ card ∷ more) → MayComeNext node cards card
comes_next node cards more card begun =
    rw (take-append_seam cards (card ∷ more), get_or-append_seam cards card more (Top Spades 0)) at (begun (length cards) (omega (arith, length-append cards (card ∷ more))))

-- where it goes on among branches, one is of it
goes_by_branch : (version : Version) (node : Node) (cards : List PatCard) (branches : Branches) (card : PatCard) → AreAnswers version node cards branches → MayComeNext node cards card → GoesOn version (Reply branches) card → HasBranchOf branches card
goes_by_branch One node cards branches card answers may goes = answers.each card may
goes_by_branch Two node cards branches card answers may goes = goes

-- the cards that are left of a line lead on from the place that the first of them led to
leads_on : (graph : GraphShape) (node : Node) (cards more : List PatCard) (tree : TrickTree) → HoldsFrom graph node cards tree → length (cards ++ more) ≤ 4 → BeginLine node (cards ++ more) → KeepTo graph.version tree more →
    (place : TrickTree) × LeadsTo tree more place
leads_on graph node cards [] tree holds few begun keep = (tree, refl)
leads_on graph node cards (card ∷ more) (Own own tree) holds few begun keep =
    let is : own ≡ card = keep 0 (Own own tree) (omega arith) refl in
    let same = append_assoc cards (own ∷ []) more in
    let line = subst (λ (one : PatCard). BeginLine node (cards ++ one ∷ more)) (sym is) begun in
    let few' = subst (λ (one : PatCard). length (cards ++ one ∷ more) ≤ 4) (sym is) few in
    let far = leads_on graph node (cards ++ own ∷ []) more tree (own_below graph node cards own tree holds) (rw same few') (rw same line)
    (λ place there less leads. keep (suc place) there (omega arith) (is, leads)) in
    (far.0, (is, far.1))
leads_on graph node cards (card ∷ more) (Reply branches) holds few begun keep =
    let right = right_here graph node cards (Reply branches) holds in
    let branch = goes_by_branch graph.version node cards branches card right.1 (comes_next node cards more card begun) (keep 0 (Reply branches) (omega arith) refl) in
    let same = append_assoc cards (card ∷ []) more in
    let far = leads_on graph node (cards ++ card ∷ []) more branch.0 (reply_below graph node cards branches holds card branch.0 branch.1) (rw same few) (rw same begun)
    (λ place there less leads. keep (suc place) there (omega arith) (branch.0, branch.1, leads)) in
    (far.0, (branch.0, branch.1, far.1))
leads_on graph node cards (card ∷ more) (Leaf children) holds few begun keep =
    let whole = (right_here graph node cards (Leaf children) holds).whole in
    absurd (omega (arith, length-append cards (card ∷ more)))

pub lines_lead : (graph : GraphShape) (node : Node) (cards : List PatCard) → StepHolds graph node → length cards ≤ 4 → BeginLine node cards → KeepTo graph.version node.tree cards → (place : TrickTree) × LeadsTo node.tree cards place
lines_lead graph node cards holds few begun keep = leads_on graph node [] cards node.tree holds few begun keep
