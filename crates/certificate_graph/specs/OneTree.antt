-- A row is that of one tree, and its parts are those of the tree's parts.
use Rattle.std.proofs.Common.{◌≡◌, ℕ, List, [], ◌∷◌, ◌++◌, length, refl, sym, ◌∙◌, ap, ap₂, arith}
use Rattle.cards.specs.declared.seats.Seat.{Seat}
use Rattle.certificate_graph.specs.declared.children.Child.{Child}
use Rattle.certificate_graph.specs.declared.rows.Token.{Token}
use Rattle.certificate_graph.specs.declared.rows.Token.TheVariants as token
use Rattle.certificate_graph.specs.Trees.{TrickTree, Own, Reply, Leaf, Branches, NoBranch, Branch}
use Rattle.certificate_graph.specs.Rows.{tree_row, branches_row, children_row, IsTreeRow, AreBranchesRow}
use Rattle.certificate_graph.specs.Rows.{AreChildrenRow}
use Rattle.std.proofs.Props.{props}
use mathlib.Core.HLevel.{Σ_prop_path}

pub heads : (x y : Token) (xs ys : List Token) → x ∷ xs ≡ y ∷ ys → x ≡ y
heads x y xs ys e = cc

pub tails : (x y : Token) (xs ys : List Token) → x ∷ xs ≡ y ∷ ys → xs ≡ ys
tails x y xs ys e = cc

-- rows of the same length before others
pub parted : (xs ys more others : List Token) → length xs ≡ length ys → xs ++ more ≡ ys ++ others → (xs ≡ ys)
    × (more ≡ others)
parted [] [] more others l e = (refl, e)
parted [] (y ∷ ys) more others l e = absurd (omega (arith, l))
parted (x ∷ xs) [] more others l e = absurd (omega (arith, l))
parted (x ∷ xs) (y ∷ ys) more others l e =
    let rest = parted xs ys more others (omega (arith, l)) (tails x y (xs ++ more) (ys ++ others) e) in
    (ap₂ (λ z zs. z ∷ zs) (heads x y (xs ++ more) (ys ++ others) e) rest.0, rest.1)

pub one_child : (c d : Child) → token.Child c.winner c.number ≡ token.Child d.winner d.number → c ≡ d
one_child c d e =
    let winner : c.winner ≡ d.winner = cc in
    let number : c.number ≡ d.number = cc in
    ap₂ (λ (w : Seat) (n : ℕ). record { winner = w; number = n }) winner number

pub same_children : (cs ds : List Child) → children_row cs ≡ children_row ds → cs ≡ ds
same_children [] [] e = refl
same_children [] (d ∷ ds) e = cc
same_children (c ∷ cs) [] e = cc
same_children (c ∷ cs) (d ∷ ds) e =
    let first : token.Child c.winner c.number ≡ token.Child d.winner d.number = heads _ _ (children_row cs) (children_row ds) e in
    let child : c ≡ d = one_child c d first in
    ap₂ (λ z zs. z ∷ zs) child (same_children cs ds (tails _ _ (children_row cs) (children_row ds) e))

mutual
  pub same_tree : (t u : TrickTree) → tree_row t ≡ tree_row u → t ≡ u
  same_tree (Own c t) (Own d u) e =
      let first : token.Own c ≡ token.Own d = heads _ _ (tree_row t) (tree_row u) e in
      let card : c ≡ d = cc in
      ap₂ (λ z zs. Own z zs) card (same_tree t u (tails _ _ (tree_row t) (tree_row u) e))
  same_tree (Own c t) (Reply bs) e =
      let apart : token.Own c ≡ token.Reply = heads _ _ (tree_row t) (branches_row bs) e in cc
  same_tree (Own c t) (Leaf []) e = cc
  same_tree (Own c t) (Leaf (d ∷ ds)) e =
      let apart : token.Own c ≡ token.Child d.winner d.number = heads _ _ (tree_row t) (children_row ds) e in cc
  same_tree (Reply bs) (Own d u) e =
      let apart : token.Reply ≡ token.Own d = heads _ _ (branches_row bs) (tree_row u) e in cc
  same_tree (Reply bs) (Reply cs) e =
      ap (λ z. Reply z) (same_branches bs cs (tails token.Reply token.Reply (branches_row bs) (branches_row cs) e))
  same_tree (Reply bs) (Leaf []) e = cc
  same_tree (Reply bs) (Leaf (d ∷ ds)) e =
      let apart : token.Reply ≡ token.Child d.winner d.number = heads _ _ (branches_row bs) (children_row ds) e in cc
  same_tree (Leaf []) (Own d u) e = cc
  same_tree (Leaf (c ∷ cs)) (Own d u) e =
      let apart : token.Child c.winner c.number ≡ token.Own d = heads _ _ (children_row cs) (tree_row u) e in cc
  same_tree (Leaf []) (Reply bs) e = cc
  same_tree (Leaf (c ∷ cs)) (Reply bs) e =
      let apart : token.Child c.winner c.number ≡ token.Reply = heads _ _ (children_row cs) (branches_row bs) e in cc
  same_tree (Leaf cs) (Leaf ds) e = ap (λ z. Leaf z) (same_children cs ds e)

  pub same_branches : (bs cs : Branches) → branches_row bs ≡ branches_row cs → bs ≡ cs
  same_branches NoBranch NoBranch e = refl
  same_branches NoBranch (Branch d u cs) e = cc
  same_branches (Branch c t bs) NoBranch e = cc
  same_branches (Branch c t bs) (Branch d u cs) e =
      let first : token.Branch c (length (tree_row t)) ≡ token.Branch d (length (tree_row u)) =
      heads _ _ (tree_row t ++ branches_row bs) (tree_row u ++ branches_row cs) e in
      let card : c ≡ d = cc in
      let long : length (tree_row t) ≡ length (tree_row u) = cc in
      let rest = parted (tree_row t) (tree_row u) (branches_row bs) (branches_row cs) long
      (tails _ _ (tree_row t ++ branches_row bs) (tree_row u ++ branches_row cs) e) in
      let same = same_tree t u rest.0 in
      let others = same_branches bs cs rest.1 in
      ap₂ (λ z zs. z zs) (ap₂ (λ z zs. Branch z zs) card same) others

-- so a row is that of one tree at most
pub one_tree : (row : List Token) → IsProp (IsTreeRow row)
one_tree row s t = Σ_prop_path (λ tree. Prim.hlevel props) (same_tree s.0 t.0 (sym s.1 ∙ t.1))

pub one_branches : (row : List Token) → IsProp (AreBranchesRow row)
one_branches row s t = Σ_prop_path (λ branches. Prim.hlevel props) (same_branches s.0 t.0 (sym s.1 ∙ t.1))

pub one_children : (row : List Token) → IsProp (AreChildrenRow row)
one_children row s t = Σ_prop_path (λ children. Prim.hlevel props) (same_children s.0 t.0 (sym s.1 ∙ t.1))
