-- The chairs of a desk after calls were made from them, and in another order.
use Rattle.std.proofs.Common.{◌≡◌, ℕ, ◌<◌, suc, List, [], ◌∷◌, All, length, map, get_or, set, refl, sym, ap, subst, arith, cond, eqb, ◌∙◌}
use Rattle.std.specs.List.Sorted.{IsPermutation}
use Rattle.std.proofs.Math.Seq.{map-set_same}
use Rattle.std.proofs.lemmas.List.Elements.{All-set}
use Rattle.std.proofs.lemmas.List.Sorted.{IsPermutation-map, All-permutation, length_permutation, sum_by-IsPermutation}
use Rattle.lease_desk.specs.declared.chairs.Chair.{Chair}
use Rattle.lease_desk.specs.declared.desk.Desk.{Desk}
use Rattle.lease_desk.specs.Desks.{IsChairOf, AreAll, AreChairsOf, chairs_of, number_of}

-- the new chair is the desk's, and has the number of the old one
abbrev pub Keeps : Desk → Chair → Chair → Type 0
Keeps desk old new = IsChairOf desk new × (number_of new ≡ number_of old)

pub keeps_as : (desk : Desk) (old new before after : Chair) → before ≡ old → after ≡ new → Keeps desk before after → Keeps desk old new
keeps_as desk old new before after was is keeps =
    (subst (IsChairOf desk) is keeps.0, ap number_of (sym is) ∙ keeps.1 ∙ ap number_of was)

-- the same of each of the new chairs, with the old one in its place
abbrev pub KeepsEach : Desk → List Chair → List Chair → Type 0
KeepsEach desk xs ys = (i : ℕ) (d : Chair) → i < length xs → Keeps desk (get_or xs i d) (get_or ys i d)

same_numbers : (desk : Desk) (xs ys : List Chair) → length ys ≡ length xs → KeepsEach desk xs ys → map number_of ys ≡ map number_of xs
same_numbers desk [] [] long keeps = refl
same_numbers desk [] (y ∷ ys) long keeps = absurd (omega arith)
same_numbers desk (x ∷ xs) [] long keeps = absurd (omega arith)
same_numbers desk (x ∷ xs) (y ∷ ys) long keeps =
    let first : number_of y ≡ number_of x = (keeps 0 x (omega arith)).1 in
    let rest = same_numbers desk xs ys (omega arith) (λ i d within. keeps (suc i) d (omega arith)) in
    cc

module _ (desk : Desk) where
  renumbered : (xs ys : List Chair) → map number_of ys ≡ map number_of xs → All (IsChairOf desk) ys → AreChairsOf desk xs → AreChairsOf desk ys
  renumbered xs ys same each chairs = record { each = each; all = subst (λ ns. AreAll (chairs_of desk) ns) (sym same) chairs.all }

  pub one_changes : (xs : List Chair) (i : ℕ) (chair d : Chair) → IsChairOf desk chair → number_of chair ≡ number_of (get_or xs i d) → AreChairsOf desk xs → AreChairsOf desk (set xs i chair)
  one_changes xs i chair d is same chairs =
      renumbered xs (set xs i chair) (map-set_same number_of xs i chair d same) (All-set (IsChairOf desk) xs i chair is chairs.each) chairs

  pub each_changes : (xs ys : List Chair) → length ys ≡ length xs → KeepsEach desk xs ys → AreChairsOf desk xs → AreChairsOf desk ys
  each_changes xs ys long keeps chairs =
      renumbered xs ys (same_numbers desk xs ys long keeps) (λ i d within. (keeps i d (omega arith)).0) chairs

  pub in_any_order : (xs ys : List Chair) → IsPermutation xs ys → AreChairsOf desk xs → AreChairsOf desk ys
  in_any_order xs ys moved chairs =
      let numbers = IsPermutation-map number_of xs ys moved in
      record {
        each = All-permutation (IsChairOf desk) xs ys moved chairs.each;
        all = record {
          count_is = length_permutation _ _ numbers ∙ chairs.all.count_is;
          once = λ number below. sum_by-IsPermutation (λ (n : ℕ). cond (eqb number n) 1 0) _ _ numbers ∙ chairs.all.once number below;
        };
      }
