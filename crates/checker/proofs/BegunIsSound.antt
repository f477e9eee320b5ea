-- A begun node keeps its claim: what was played is on the way, and the nodes that go on keep theirs.
use Rattle.std.proofs.Common.{◌+◌, ◌-◌, ◌≤◌, List, [], ◌∷◌, ◌++◌, length, subst, sym, arith, append_assoc, append-nil, length-append}
use Rattle.cards.specs.declared.pack.Card.{Card}
use Rattle.cards.specs.Deal.{Deal}
use Rattle.pattern_step.specs.declared.pat_cards.PatCard.{PatCard}
use Rattle.play_rules.specs.Legal.{IsLegalAfter}
use Rattle.certificate_graph.specs.declared.nodes.Node.{Node}
use Rattle.certificate_graph.specs.Trees.{TrickTree, Own, Reply, Leaf}
use Rattle.certificate_graph.specs.Graphs.{GraphShape}
use Rattle.checker.specs.Places.{LeadsTo}
use Rattle.checker.specs.Steps.{IsRightAfter}
use Rattle.checker.specs.Faults.{HoldsFrom}
use Rattle.checker.specs.Soundness.{opening_at}
use Rattle.checker.specs.Begun.{StepHoldsAfter, StandForCards, BegunStepsShow}
use Rattle.checker.proofs.HoldLaws.{right_here}
use Rattle.checker.proofs.PathLaws.{leads_further}
use Rattle.checker.proofs.TrickCards.{Mirrors, nothing_mirrors, one_more_mirrors}
use Rattle.checker.proofs.WayLaws.{way_of_path}
use Rattle.checker.proofs.StepIsSound.{IsStep, wins_from}
use Rattle.checker.proofs.ClaimsAreSound.{graphs_sound}

-- after cards that mirror some, those that stand for the cards of a legal history mirror these too
mirror_more : (graph : GraphShape) (node : Node) (deal : Deal) (pats : List PatCard) (real : List Card) (more : List PatCard) (later : List Card) → Mirrors graph node deal pats real →
    IsLegalAfter (opening_at graph node deal) real later → StandForCards node.pattern deal more later → length pats + length more ≤ 4 → Mirrors graph node deal (pats ++ more) (real ++ later)
mirror_more graph node deal pats real [] [] mirrors legal stand few =
    subst (λ (p : List PatCard). Mirrors graph node deal p (real ++ [])) (sym (append-nil pats)) (subst (Mirrors graph node deal pats) (sym (append-nil real)) mirrors)
mirror_more graph node deal pats real (pat ∷ more) (card ∷ later) mirrors (can, legal) (stands, stand) few =
    let next = one_more_mirrors graph node deal pats real pat card mirrors (omega (arith, mirrors.as_long, few)) can stands in
    let far = mirror_more graph node deal (pats ++ pat ∷ []) (real ++ card ∷ []) more later next legal stand (omega (arith, few, length-append pats (pat ∷ []))) in
    subst (λ (p : List PatCard). Mirrors graph node deal p (real ++ card ∷ later)) (append_assoc pats (pat ∷ []) more)
    (subst (Mirrors graph node deal ((pats ++ pat ∷ []) ++ more)) (append_assoc real (card ∷ []) later) far)
mirror_more graph node deal pats real [] (card ∷ later) mirrors legal stand few = absurd stand
mirror_more graph node deal pats real (pat ∷ more) [] mirrors legal stand few = absurd stand

-- where the step holds after some cards, all is right from the place on to which they lead
pub holds_from_there : (graph : GraphShape) (node : Node) (cards : List PatCard) (place : TrickTree) → StepHoldsAfter graph node cards → LeadsTo node.tree cards place → HoldsFrom graph node cards place
holds_from_there graph node cards place holds leads more far further = holds more far (leads_further node.tree cards more place far leads further)

-- no more than four cards lead to a place that is right
few_lead : (graph : GraphShape) (node : Node) (cards : List PatCard) (place : TrickTree) → IsRightAfter graph node cards place → length cards ≤ 4
few_lead graph node cards (Own card tree) right = omega (arith, right.0.goes_on)
few_lead graph node cards (Reply branches) right = omega (arith, right.0.goes_on)
few_lead graph node cards (Leaf children) right = omega (arith, right.whole)

pub begun_show : BegunStepsShow
begun_show graph node cards is hold pattern right deal history layout matches legal stand =
    let place = right.path.0 in
    let holds = holds_from_there graph node cards place right.holds right.path.1 in
    let few = few_lead graph node cards place (right_here graph node cards place holds) in
    let mirrors = mirror_more graph node deal [] [] cards history (nothing_mirrors graph node deal) legal stand (omega (arith, few)) in
    let step : IsStep graph node deal = record {
      is = is;
      pattern = pattern;
      claims = λ next named. graphs_sound graph is hold named.child.number next named.there;
      layout = layout;
      matches = matches;
    } in
    wins_from graph node deal (4 - length history) history cards place step (omega (arith, mirrors.as_long, few)) holds (way_of_path graph node deal history cards place mirrors right.legal right.path.1)
