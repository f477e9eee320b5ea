-- Paths in a tree: one after another, the one place to which a path leads, and what it keeps of the tree.
use Rattle.std.proofs.Common.{◌≡◌, ℕ, ◌+◌, ◌-◌, ◌≤◌, List, [], ◌∷◌, ◌++◌, length, inl, inr, refl, sym, ◌∙◌, ap, subst, arith}
use Rattle.pattern_step.specs.declared.pat_cards.PatCard.{PatCard}
use Rattle.certificate_graph.specs.Trees.{TrickTree, Own, Reply, Leaf, Branches, NoBranch, Branch}
use Rattle.certificate_graph.specs.Graphs.{card_place, HasForm, HaveForm, IsTree, NamesBelow, NameBelow}
use Rattle.checker.specs.Places.{HasBranch, LeadsTo}

-- ---- one after another
pub leads_further : (tree : TrickTree) (cards more : List PatCard) (place far : TrickTree) → LeadsTo tree cards place → LeadsTo place more far → LeadsTo tree (cards ++ more) far
leads_further tree [] more place far leads next = subst (λ (t : TrickTree). LeadsTo t more far) (sym leads) next
leads_further (Own own tree) (card ∷ cards) more place far (is, leads) next = (is, leads_further tree cards more place far leads next)
leads_further (Reply branches) (card ∷ cards) more place far (below, has, leads) next = (below, has, leads_further below cards more place far leads next)
leads_further (Leaf children) (card ∷ cards) more place far leads next = absurd leads

-- the place between two paths
pub record LeadsBetween (tree : TrickTree) (cards more : List PatCard) (far : TrickTree) : Type 0 where
  pub place : TrickTree
  pub first : LeadsTo tree cards place
  pub second : LeadsTo place more far

pub leads_between : (tree : TrickTree) (cards more : List PatCard) (far : TrickTree) → LeadsTo tree (cards ++ more) far → LeadsBetween tree cards more far
leads_between tree [] more far leads = record { place = tree; first = refl; second = leads }
leads_between (Own own tree) (card ∷ cards) more far (is, leads) =
    let rest = leads_between tree cards more far leads in
    record { place = rest.place; first = (is, rest.first); second = rest.second }
leads_between (Reply branches) (card ∷ cards) more far (below, has, leads) =
    let rest = leads_between below cards more far leads in
    record { place = rest.place; first = (below, has, rest.first); second = rest.second }
leads_between (Leaf children) (card ∷ cards) more far leads = absurd leads

-- ---- one place
-- the cards of branches rise
rise : (room least : ℕ) (branches : Branches) (card : PatCard) (below : TrickTree) → HaveForm room least branches → HasBranch branches card below → least ≤ card_place card
rise room least NoBranch card below form has = absurd has
rise room least (Branch first tree rest) card below (is, at_least, form, more) (inl here) = omega (arith, at_least, ap card_place here.0)
rise room least (Branch first tree rest) card below (is, at_least, form, more) (inr later) = omega (arith, at_least, rise room (card_place first + 1) rest card below more later)

-- so no two have one card
one_branch : (room least : ℕ) (branches : Branches) (card : PatCard) (one other : TrickTree) → HaveForm room least branches → HasBranch branches card one → HasBranch branches card other → one ≡ other
one_branch room least NoBranch card one other form a b = absurd a
one_branch room least (Branch first tree rest) card one other (is, at_least, form, more) (inl a) (inl b) = sym a.1 ∙ b.1
one_branch room least (Branch first tree rest) card one other (is, at_least, form, more) (inl a) (inr b) = absurd (omega (arith, ap card_place a.0, rise room (card_place first + 1) rest card other more b))
one_branch room least (Branch first tree rest) card one other (is, at_least, form, more) (inr a) (inl b) = absurd (omega (arith, ap card_place b.0, rise room (card_place first + 1) rest card one more a))
one_branch room least (Branch first tree rest) card one other (is, at_least, form, more) (inr a) (inr b) = one_branch room (card_place first + 1) rest card one other more a b

branch_form : (room least : ℕ) (branches : Branches) (card : PatCard) (below : TrickTree) → HaveForm room least branches → HasBranch branches card below → HasForm room below
branch_form room least NoBranch card below form has = absurd has
branch_form room least (Branch first tree rest) card below (is, at_least, form, more) (inl here) = subst (HasForm room) here.1 form
branch_form room least (Branch first tree rest) card below (is, at_least, form, more) (inr later) = branch_form room (card_place first + 1) rest card below more later

pub one_place : (tree : TrickTree) (cards : List PatCard) (one other : TrickTree) → IsTree tree → LeadsTo tree cards one → LeadsTo tree cards other → one ≡ other
one_place tree [] one other is a b = sym a ∙ b
one_place (Own own tree) (card ∷ cards) one other (room, form) a b = one_place tree cards one other (room - 1, form.2) a.1 b.1
one_place (Reply branches) (card ∷ cards) one other (room, form) (below, has, leads) (below', has', leads') =
    let same : below ≡ below' = one_branch (room - 1) 0 branches card below below' form.1 has has' in
    one_place below cards one other (room - 1, branch_form (room - 1) 0 branches card below form.1 has) leads (subst (λ (t : TrickTree). LeadsTo t cards other) (sym same) leads')
one_place (Leaf children) (card ∷ cards) one other is a b = absurd a

-- ---- what a path keeps
pub tree_after : (tree : TrickTree) (cards : List PatCard) (place : TrickTree) → IsTree tree → LeadsTo tree cards place → IsTree place
tree_after tree [] place is leads = subst IsTree leads is
tree_after (Own own tree) (card ∷ cards) place (room, form) leads = tree_after tree cards place (room - 1, form.2) leads.1
tree_after (Reply branches) (card ∷ cards) place (room, form) (below, has, leads) = tree_after below cards place (room - 1, branch_form (room - 1) 0 branches card below form.1 has) leads
tree_after (Leaf children) (card ∷ cards) place is leads = absurd leads

branch_names : (count : ℕ) (branches : Branches) (card : PatCard) (below : TrickTree) → NameBelow count branches → HasBranch branches card below → NamesBelow count below
branch_names count NoBranch card below names has = absurd has
branch_names count (Branch first tree rest) card below names (inl here) = subst (NamesBelow count) here.1 names.0
branch_names count (Branch first tree rest) card below names (inr later) = branch_names count rest card below names.1 later

pub names_after : (count : ℕ) (tree : TrickTree) (cards : List PatCard) (place : TrickTree) → NamesBelow count tree → LeadsTo tree cards place → NamesBelow count place
names_after count tree [] place names leads = subst (NamesBelow count) leads names
names_after count (Own own tree) (card ∷ cards) place names leads = names_after count tree cards place names leads.1
names_after count (Reply branches) (card ∷ cards) place names (below, has, leads) = names_after count below cards place (branch_names count branches card below names has) leads
names_after count (Leaf children) (card ∷ cards) place names leads = absurd leads

-- a path is no longer than the tree is deep
pub path_is_short : (room : ℕ) (tree : TrickTree) (cards : List PatCard) (place : TrickTree) → HasForm room tree → LeadsTo tree cards place → length cards ≤ room
path_is_short room tree [] place form leads = omega arith
path_is_short room (Own own tree) (card ∷ cards) place form leads = omega (arith, form.0, path_is_short (room - 1) tree cards place form.2 leads.1)
path_is_short room (Reply branches) (card ∷ cards) place form (below, has, leads) = omega (arith, form.0, path_is_short (room - 1) below cards place (branch_form (room - 1) 0 branches card below form.1 has) leads)
path_is_short room (Leaf children) (card ∷ cards) place form leads = absurd leads
