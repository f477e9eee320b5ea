-- The check of a begun node, step by step: the place to which its cards lead, its cards as a trick, and what is told of both.
use Rattle.std.proofs.Common.{◌≡◌, ℕ, ◌+◌, ◌<◌, List, [], ◌∷◌, ◌++◌, length, get_or, take, Option, None, Some, Result, inr, sym, ◌∙◌, subst}
use Rattle.std.specs.Prelude.{MatchOption, MatchResult}
use Rattle.std.proofs.lemmas.List.{take_more}
use Rattle.pattern_step.specs.declared.pat_cards.PatCard.{PatCard}
use Rattle.certificate_graph.specs.declared.nodes.Node.{Node}
use Rattle.certificate_graph.specs.Trees.{TrickTree}
use Rattle.certificate_graph.specs.Graphs.{GraphShape, IsTree}
use Rattle.checker.specs.declared.faults.StepFault.{StepFault}
use Rattle.checker.specs.Places.{LeadsTo}
use Rattle.checker.specs.Steps.{MayComeNext, BeginLine}
use Rattle.checker.specs.Faults.{HoldsFrom, IsFirstFault}
use Rattle.checker.specs.Begun.{IsPathIn, StepHoldsAfter, IsRightBegun, IsBegunFault}
use Rattle.checker.proofs.Lines.{one_more_begins}
use Rattle.checker.proofs.PathLaws.{leads_further, leads_between, one_place}
use Rattle.checker.proofs.WalkLaws.{told_on}

-- ---- the place
-- where the first card leads nowhere, no path that begins with it leads anywhere
pub none_leads : (place : TrickTree) (cards rest : List PatCard) (card : PatCard) → cards ≡ card ∷ rest → ((below : TrickTree) → LeadsTo place (card ∷ []) below → ⊥) → (there : TrickTree) → LeadsTo place cards there → ⊥
none_leads place cards rest card is none there leads =
    let by = leads_between place (card ∷ []) rest there (subst (λ (l : List PatCard). LeadsTo place l there) is leads) in
    none by.place by.first

-- what is told of the cards after the first
pub path_told : (found : Option TrickTree) (place below : TrickTree) (cards rest : List PatCard) (card : PatCard) → cards ≡ card ∷ rest → IsTree place → LeadsTo place (card ∷ []) below →
    MatchOption found ((there : TrickTree) → LeadsTo below rest there → ⊥) (LeadsTo below rest) → MatchOption found ((there : TrickTree) → LeadsTo place cards there → ⊥) (LeadsTo place cards)
path_told None place below cards rest card is tree first told = λ there leads.
    let by = leads_between place (card ∷ []) rest there (subst (λ (l : List PatCard). LeadsTo place l there) is leads) in
    told there (subst (λ (t : TrickTree). LeadsTo t rest there) (one_place place (card ∷ []) by.place below tree by.first first) by.second)
path_told (Some there) place below cards rest card is tree first told = subst (λ (l : List PatCard). LeadsTo place l there) (sym is) (leads_further place (card ∷ []) rest below there first told)

-- ---- the trick
pub one_more_taken : (node : Node) (played next cards : List PatCard) (place : ℕ) (other : PatCard) → place < length cards → played ≡ take place cards → BeginLine node played → MayComeNext node played (get_or cards place other) →
    next ≡ played ++ get_or cards place other ∷ [] → (next ≡ take (place + 1) cards) × BeginLine node next
one_more_taken node played next cards place other less is begun may one = (
  one ∙ (rw is (sym (take_more cards place other less))),
  subst (BeginLine node) (sym one) (one_more_begins node played (get_or cards place other) begun may),
)

-- ---- both
-- all is right from the one place on to which the cards lead
pub step_holds_there : (graph : GraphShape) (node : Node) (cards : List PatCard) (place : TrickTree) → IsTree node.tree → LeadsTo node.tree cards place → HoldsFrom graph node cards place → StepHoldsAfter graph node cards
step_holds_there graph node cards place tree leads holds later far further =
    let by = leads_between node.tree cards later far further in
    holds later far (subst (λ (t : TrickTree). LeadsTo t later far) (one_place node.tree cards by.place place tree by.first leads) by.second)

-- a fault of that place is a fault of the begun node
pub fault_there : (graph : GraphShape) (node : Node) (cards : List PatCard) (path : IsPathIn node.tree cards) (fault : StepFault) → BeginLine node cards → IsFirstFault graph node cards path.0 fault → IsBegunFault graph node cards fault
fault_there graph node cards path fault legal first = inr (λ wrong. wrong path, inr (λ wrong. wrong legal, (path.0, path.1, first)))

pub begun_told : {A : Type 0} (answer : Result A StepFault) (graph : GraphShape) (node : Node) (cards played : List PatCard) (place : TrickTree) → IsTree node.tree → LeadsTo node.tree cards place → played ≡ cards → BeginLine node cards →
    MatchResult answer (λ _. HoldsFrom graph node played place) (IsFirstFault graph node played place) → MatchResult answer (λ _. IsRightBegun graph node cards) (IsBegunFault graph node cards)
begun_told answer graph node cards played place tree leads is legal told =
    let path : IsPathIn node.tree cards = (place, leads) in
    told_on answer (HoldsFrom graph node cards place) (IsRightBegun graph node cards) (IsFirstFault graph node cards place) (IsBegunFault graph node cards)
    (λ holds. record { path = path; legal = legal; holds = step_holds_there graph node cards place tree leads holds })
    (λ fault first. fault_there graph node cards path fault legal first)
    (subst (λ (l : List PatCard). MatchResult answer (λ _. HoldsFrom graph node l place) (IsFirstFault graph node l place)) is told)
