-- What is to be played in one trick: a tree of pattern cards, with the nodes that go on after it.
use Rattle.std.specs.Prelude.{ℕ, suc, ◌+◌, List, [], ◌∷◌}
use Rattle.pattern_step.specs.declared.pat_cards.PatCard.{PatCard}
use Rattle.certificate_graph.specs.declared.children.Child.{Child}

mutual
  -- what comes next: a card of the side, the cards of the opponents, or the nodes after the trick
  pub data TrickTree : Type 0 where
    Own : PatCard → TrickTree → TrickTree
    Reply : Branches → TrickTree
    Leaf : List Child → TrickTree

  pub data Branches : Type 0 where
    NoBranch : Branches
    Branch : PatCard → TrickTree → Branches → Branches

-- branches in this order, each a card and what follows it
abbrev pub branches_of : List (PatCard × TrickTree) → Branches
branches_of [] = NoBranch
branches_of (branch ∷ rest) = Branch branch.0 branch.1 (branches_of rest)

-- how many places a tree has, each counted so that a part has fewer
abbrev mutual
  pub tree_size : TrickTree → ℕ
  tree_size (Own card tree) = suc (tree_size tree)
  tree_size (Reply branches) = suc (branches_size branches)
  tree_size (Leaf children) = 1

  pub branches_size : Branches → ℕ
  branches_size NoBranch = 0
  branches_size (Branch card tree rest) = suc (tree_size tree + branches_size rest)
