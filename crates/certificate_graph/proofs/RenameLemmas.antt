-- A tree whose leaves name other nodes has its tokens renamed.
use Rattle.std.proofs.Common.{◌≡◌, ℕ, List, [], ◌∷◌, ◌++◌, length, map, refl, sym, ◌∙◌, ap, ap₂}
use Rattle.std.proofs.lemmas.List.{map-append, length-map}
use Rattle.certificate_graph.specs.declared.children.Child.{Child}
use Rattle.certificate_graph.specs.declared.rows.Token.TheVariants as token
use Rattle.certificate_graph.specs.Trees.{TrickTree, Own, Reply, Leaf, Branches, NoBranch, Branch}
use Rattle.certificate_graph.specs.Rows.{tree_row, branches_row, children_row}
use Rattle.certificate_graph.specs.Extracts.{rename_child, rename_tree, rename_branches}
use Rattle.certificate_graph.specs.RowNames.{rename_token}

children_renamed : (to : ℕ → ℕ) (children : List Child) → map (rename_token to) (children_row children) ≡ children_row (map (rename_child to) children)
children_renamed to [] = refl
children_renamed to (child ∷ rest) = ap (λ l. token.Child child.winner (to child.number) ∷ l) (children_renamed to rest)

mutual
  pub tree_renamed : (to : ℕ → ℕ) (tree : TrickTree) → map (rename_token to) (tree_row tree) ≡ tree_row (rename_tree to tree)
  tree_renamed to (Own card tree) = ap (λ l. token.Own card ∷ l) (tree_renamed to tree)
  tree_renamed to (Reply branches) = ap (λ l. token.Reply ∷ l) (branches_renamed to branches)
  tree_renamed to (Leaf children) = children_renamed to children

  pub branches_renamed : (to : ℕ → ℕ) (branches : Branches) → map (rename_token to) (branches_row branches) ≡ branches_row (rename_branches to branches)
  branches_renamed to NoBranch = refl
  branches_renamed to (Branch card tree rest) =
      let below = tree_renamed to tree in
      let long : length (tree_row tree) ≡ length (tree_row (rename_tree to tree)) = sym (length-map (tree_row tree) (rename_token to)) ∙ ap length below in
      ap₂ (λ n l. token.Branch card n ∷ l) long
      (map-append (rename_token to) (tree_row tree) (branches_row rest) ∙ ap₂ (λ x y. x ++ y) below (branches_renamed to rest))
