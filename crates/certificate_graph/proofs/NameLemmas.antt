-- The leaves of a tree name nodes below a number where its tokens do.
use Rattle.std.proofs.Common.{ℕ, ◌<◌, List, [], ◌∷◌, ◌++◌, All, ◌↔◌}
use Rattle.std.specs.List.{AllByRecursion}
use Rattle.std.proofs.lemmas.List.Elements.{All-from_recursion, recursion_from_All}
use Rattle.certificate_graph.specs.declared.children.Child.{Child}
use Rattle.certificate_graph.specs.declared.rows.Token.{Token}
use Rattle.certificate_graph.specs.Trees.{TrickTree, Own, Reply, Leaf, Branches, NoBranch, Branch}
use Rattle.certificate_graph.specs.Graphs.{NamesBelow, NameBelow}
use Rattle.certificate_graph.specs.Rows.{tree_row, branches_row, children_row}
use Rattle.certificate_graph.specs.RowNames.{NamesLess}

all_append : (P : Token → Type 0) (xs ys : List Token) → AllByRecursion P xs → AllByRecursion P ys → AllByRecursion P (xs ++ ys)
all_append P [] ys all more = more
all_append P (x ∷ xs) ys all more = (all.0, all_append P xs ys all.1 more)

all_parts : (P : Token → Type 0) (xs ys : List Token) → AllByRecursion P (xs ++ ys) → AllByRecursion P xs × AllByRecursion P ys
all_parts P [] ys all = (tt, all)
all_parts P (x ∷ xs) ys all = let rest = all_parts P xs ys all.1 in ((all.0, rest.0), rest.1)

children_less : (count : ℕ) (children : List Child) → AllByRecursion (λ child. child.number < count) children → AllByRecursion (NamesLess count) (children_row children)
children_less count [] all = tt
children_less count (child ∷ rest) all = (all.0, children_less count rest all.1)

children_below : (count : ℕ) (children : List Child) → AllByRecursion (NamesLess count) (children_row children) → AllByRecursion (λ child. child.number < count) children
children_below count [] all = tt
children_below count (child ∷ rest) all = (all.0, children_below count rest all.1)

mutual
  tree_less : (count : ℕ) (tree : TrickTree) → NamesBelow count tree → AllByRecursion (NamesLess count) (tree_row tree)
  tree_less count (Own card tree) names = (tt, tree_less count tree names)
  tree_less count (Reply branches) names = (tt, branches_less count branches names)
  tree_less count (Leaf children) names = children_less count children names

  branches_less : (count : ℕ) (branches : Branches) → NameBelow count branches → AllByRecursion (NamesLess count) (branches_row branches)
  branches_less count NoBranch names = tt
  branches_less count (Branch card tree rest) names =
      (tt, all_append (NamesLess count) (tree_row tree) (branches_row rest) (tree_less count tree names.0) (branches_less count rest names.1))

mutual
  tree_below : (count : ℕ) (tree : TrickTree) → AllByRecursion (NamesLess count) (tree_row tree) → NamesBelow count tree
  tree_below count (Own card tree) all = tree_below count tree all.1
  tree_below count (Reply branches) all = branches_below count branches all.1
  tree_below count (Leaf children) all = children_below count children all

  branches_below : (count : ℕ) (branches : Branches) → AllByRecursion (NamesLess count) (branches_row branches) → NameBelow count branches
  branches_below count NoBranch all = tt
  branches_below count (Branch card tree rest) all =
      let parts = all_parts (NamesLess count) (tree_row tree) (branches_row rest) all.1 in
      (tree_below count tree parts.0, branches_below count rest parts.1)

pub names_by_row : (count : ℕ) (tree : TrickTree) → All (NamesLess count) (tree_row tree) ↔ NamesBelow count tree
names_by_row count tree = (
  λ all. tree_below count tree (recursion_from_All (NamesLess count) (tree_row tree) all),
  λ names. All-from_recursion (NamesLess count) (tree_row tree) (tree_less count tree names),
)
