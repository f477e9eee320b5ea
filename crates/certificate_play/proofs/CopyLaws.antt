-- A place of a tree is the only one to which its cards lead, since the cards of branches rise. So a step can be copied.
use Rattle.std.proofs.Common.{◌≡◌, ℕ, ◌+◌, ◌-◌, ◌≤◌, List, ◌∷◌, ◌++◌, length, inl, inr, sym, ◌∙◌, ap, subst, arith}
use Rattle.cards.specs.declared.pack.Card.{Card}
use Rattle.cards.specs.Deal.{size_of}
use Rattle.pattern_step.specs.declared.pat_cards.PatCard.{PatCard}
use Rattle.certificate_graph.specs.Trees.{TrickTree, Reply, Branches, NoBranch, Branch}
use Rattle.certificate_graph.specs.Graphs.{GraphShape, HasForm, HaveForm, IsTree, card_place}
use Rattle.certificate_graph.specs.declared.nodes.Node.{Node}
use Rattle.checker.specs.Places.{HasBranch, LeadsTo}
use Rattle.certificate_play.specs.declared.steps.Step.{Step}
use Rattle.certificate_play.specs.Promises.{Promise}
use Rattle.certificate_play.specs.Steps.{IsCopyOf, IsKeptBy}

-- branches from some card on are of no lower one
no_lower : (room least : ℕ) (branches : Branches) (card : PatCard) (tree : TrickTree) → HaveForm room least branches → HasBranch branches card tree → least ≤ card_place card
no_lower room least NoBranch card tree form has = absurd has
no_lower room least (Branch first below rest) card tree form (inl here) = omega (arith, form.1, ap card_place here.0)
no_lower room least (Branch first below rest) card tree form (inr later) = omega (arith, form.1, no_lower room (card_place first + 1) rest card tree form.3 later)

-- so a card has one branch
pub one_branch : (room least : ℕ) (branches : Branches) (card : PatCard) (one other : TrickTree) → HaveForm room least branches → HasBranch branches card one → HasBranch branches card other → one ≡ other
one_branch room least NoBranch card one other form has has' = absurd has
one_branch room least (Branch first below rest) card one other form (inl here) (inl here') = sym here.1 ∙ here'.1
one_branch room least (Branch first below rest) card one other form (inl here) (inr later) = absurd (omega (arith, ap card_place here.0, no_lower room (card_place first + 1) rest card other form.3 later))
one_branch room least (Branch first below rest) card one other form (inr later) (inl here) = absurd (omega (arith, ap card_place here.0, no_lower room (card_place first + 1) rest card one form.3 later))
one_branch room least (Branch first below rest) card one other form (inr later) (inr later') = one_branch room (card_place first + 1) rest card one other form.3 later later'

-- and what stands below it is a tree
pub branch_form : (room least : ℕ) (branches : Branches) (card : PatCard) (tree : TrickTree) → HaveForm room least branches → HasBranch branches card tree → HasForm room tree
branch_form room least NoBranch card tree form has = absurd has
branch_form room least (Branch first below rest) card tree form (inl here) = subst (HasForm room) here.1 form.2
branch_form room least (Branch first below rest) card tree form (inr later) = branch_form room (card_place first + 1) rest card tree form.3 later

-- the cards after the first lead on from below its branch
pub leads_on : (place : TrickTree) (branches : Branches) (first : PatCard) (line rest : List PatCard) (next there : TrickTree) → IsTree place → Reply branches ≡ place → line ≡ first ∷ rest → HasBranch branches first next → LeadsTo place line there → LeadsTo next rest there
leads_on place branches first line rest next there (room, form) is line_is has leads =
    let form' : HasForm room (Reply branches) = subst (HasForm room) (sym is) form in
    let leads' : LeadsTo (Reply branches) (first ∷ rest) there =
    subst (λ (p : TrickTree). LeadsTo p (first ∷ rest) there) (sym is) (subst (λ (l : List PatCard). LeadsTo place l there) line_is leads) in
    let same = one_branch (room - 1) 0 branches first leads'.0 next form'.1 leads'.1 has in
    subst (λ (t : TrickTree). LeadsTo t rest there) same leads'.2

pub below_is_tree : (place : TrickTree) (branches : Branches) (first : PatCard) (next : TrickTree) → IsTree place → Reply branches ≡ place → HasBranch branches first next → IsTree next
below_is_tree place branches first next (room, form) is has =
    let form' : HasForm room (Reply branches) = subst (HasForm room) (sym is) form in
    (room - 1, branch_form (room - 1) 0 branches first next form'.1 has)

-- ---- copies
-- a copy keeps what the step keeps
pub copy_keeps : (promise : Promise) (step copied : Step) → IsCopyOf step copied → IsKeptBy promise step → IsKeptBy promise copied
copy_keeps promise step copied same kept =
    let by = kept.by_node in
    record {
      before = kept.before;
      history_is = kept.history_is ∙ ap (λ (cards : List Card). kept.before ++ cards) (sym same.trick_is);
      whole = kept.whole;
      left = omega (arith, kept.left, ap size_of same.start_is);
      opening_is = rw (same.graph_is, same.node_is, same.start_is) kept.opening_is;
      side_is = ap (λ (g : GraphShape). g.side) same.graph_is ∙ kept.side_is;
      enough = omega (arith, kept.enough, ap (λ (n : Node). n.need) same.node_is);
      by_node = record {
        graph = rw same.graph_is by.graph;
        steps = rw same.graph_is by.steps;
        number = by.number;
        there = rw (same.graph_is, same.node_is) by.there;
        layout = rw same.start_is by.layout;
        matches = rw (same.node_is, same.start_is) by.matches;
        short = omega (arith, by.short, ap length same.trick_is);
        way = rw (same.graph_is, same.node_is, same.start_is, same.trick_is, same.line_is, same.place_is) by.way;
      };
    }
