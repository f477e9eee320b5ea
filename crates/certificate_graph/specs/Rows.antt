-- A tree as a row of tokens: that of a place stands before those of what follows it.
use Rattle.std.specs.Prelude.{◌≡◌, List, [], ◌∷◌, ◌++◌, length, map}
use Rattle.pattern_step.specs.declared.pat_cards.PatCard.{PatCard}
use Rattle.certificate_graph.specs.declared.children.Child.{Child}
use Rattle.certificate_graph.specs.declared.rows.Token.{Token}
use Rattle.certificate_graph.specs.declared.rows.Token.TheVariants as token
use Rattle.certificate_graph.specs.Trees.{TrickTree, Own, Reply, Leaf, Branches, NoBranch, Branch}

abbrev pub children_row : List Child → List Token
children_row children = map (λ child. token.Child child.winner child.number) children

abbrev mutual
  pub tree_row : TrickTree → List Token
  tree_row (Own card tree) = token.Own card ∷ tree_row tree
  tree_row (Reply branches) = token.Reply ∷ branches_row branches
  tree_row (Leaf children) = children_row children

  pub branches_row : Branches → List Token
  branches_row NoBranch = []
  branches_row (Branch card tree rest) =
      token.Branch card (length (tree_row tree)) ∷ (tree_row tree ++ branches_row rest)

-- one branch alone
abbrev pub one_branch_row : PatCard → TrickTree → List Token
one_branch_row card tree = token.Branch card (length (tree_row tree)) ∷ tree_row tree

-- the row is that of a tree, of branches, of children
abbrev pub IsTreeRow : List Token → Type 0
IsTreeRow row = (tree : TrickTree) × (row ≡ tree_row tree)

abbrev pub AreBranchesRow : List Token → Type 0
AreBranchesRow row = (branches : Branches) × (row ≡ branches_row branches)

abbrev pub AreChildrenRow : List Token → Type 0
AreChildrenRow row = (children : List Child) × (row ≡ children_row children)
