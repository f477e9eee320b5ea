-- The places of a tree. The cards played on the way lead to each.
use Rattle.std.specs.Prelude.{◌≡◌, List, [], ◌∷◌, ◌⊎◌}
use Rattle.pattern_step.specs.declared.pat_cards.PatCard.{PatCard}
use Rattle.certificate_graph.specs.Trees.{TrickTree, Own, Reply, Leaf, Branches, NoBranch, Branch}

-- one of the branches has this card, and this tree below it
abbrev pub HasBranch : Branches → PatCard → TrickTree → Type 0
HasBranch NoBranch card below = ⊥
HasBranch (Branch first tree rest) card below = ((first ≡ card) × (tree ≡ below)) ⊎ HasBranch rest card below

abbrev pub HasBranchOf : Branches → PatCard → Type 0
HasBranchOf branches card = (below : TrickTree) × HasBranch branches card below

-- these cards, played in turn, lead from a tree to a place below
abbrev pub LeadsTo : TrickTree → List PatCard → TrickTree → Type 0
LeadsTo tree [] place = tree ≡ place
LeadsTo (Own own tree) (card ∷ cards) place = (own ≡ card) × LeadsTo tree cards place
LeadsTo (Reply branches) (card ∷ cards) place =
    (below : TrickTree) × HasBranch branches card below × LeadsTo below cards place
LeadsTo (Leaf children) (card ∷ cards) place = ⊥
