-- What is due in a tree.
use Rattle.std.proofs.Common.{◌≡◌, ℕ, ◌+◌, ◌-◌, ◌*◌, ◌/◌, ◌^◌, ◌<◌, ◌≤◌, ◌≢◌, true, false, zero, suc, List, [], ◌∷◌, Option, None, Some, length, get_or, set, drop, take, replicate, refl, sym, ◌∙◌, ap, ⊎_elim, arith}
use Rattle.std.proofs.lemmas.List.{drop-set-add, get_or-drop, get_or-set_other, drop-replicate, take-replicate}
use Rattle.std.proofs.lemmas.Bool.{cases_eq}
use Rattle.std.proofs.lemmas.Bool.Decides.{nat_tests}
use Rattle.std.proofs.Math.Nat.{pow-succ'}
use Rattle.std.proofs.Math.Numerals.{add-one}
use Rattle.due_rows.specs.Moments.{is_due, earlier, moment_at, IsFirstDue, NoneIsDue}
use Rattle.due_rows.specs.Trees.{AreJoined}

-- where the earlier has not come, neither has
pub neither_is_due : (now : ℕ) (one other : Option ℕ) → is_due now (earlier one other) ≡ false → (is_due now one ≡ false) × (is_due now other ≡ false)
neither_is_due now None other h = (refl, h)
neither_is_due now (Some one) None h = (h, refl)
neither_is_due now (Some one) (Some other) h = (grind (arith, nat_tests), grind (arith, nat_tests))

-- where the earlier has come and the first has not, the second has
pub other_is_due : (now : ℕ) (one other : Option ℕ) → is_due now (earlier one other) ≡ true → is_due now one ≡ false → is_due now other ≡ true
other_is_due now None other h n = h
other_is_due now (Some one) None h n = cc
other_is_due now (Some one) (Some other) h n = grind (arith, nat_tests)

twice_power : (n : ℕ) → 2 ^ (n + 1) ≡ 2 * 2 ^ n
twice_power n = rw add-one (pow-succ' 2 n)

pub even_level : (end above : ℕ) → end ≡ 2 ^ (above + 1) → end ≡ 2 * (end / 2)
even_level end above e =
    omega (arith, twice_power above)

module _ (now : ℕ) (nodes : List (Option ℕ)) (joined : AreJoined nodes) where
  -- a node whose parent's moment has not come
  child_is_not : (node : ℕ) → 1 ≤ node / 2 → 2 * (node / 2) + 1 < length nodes → is_due now (moment_at nodes (node / 2)) ≡ false → is_due now (moment_at nodes node) ≡ false
  child_is_not node some within h =
      let both = neither_is_due now (moment_at nodes (2 * (node / 2))) (moment_at nodes (2 * (node / 2) + 1)) (ap (is_due now) (sym (joined (node / 2) some within)) ∙ h) in
      ⊎_elim
      (λ (e : node ≡ 2 * (node / 2)). ap (λ n. is_due now (moment_at nodes n)) e ∙ both.0)
      (λ (ne : node ≢ 2 * (node / 2)). let e : node ≡ 2 * (node / 2) + 1 = omega arith in ap (λ n. is_due now (moment_at nodes n)) e ∙ both.1)
      (cases_eq node (2 * (node / 2)))

  -- none is due up to where no parent is
  pub none_below : (from end : ℕ) → 1 ≤ from → end ≡ 2 * (end / 2) → end ≤ length nodes → is_due now (moment_at nodes from) ≡ false → NoneIsDue now ((from + 1) / 2) (end / 2) nodes → NoneIsDue now from end nodes
  none_below from end some even within not none place h l =
      ⊎_elim
      (λ (e : place ≡ from). ap (λ n. is_due now (moment_at nodes n)) e ∙ not)
      (λ (ne : place ≢ from). child_is_not place (omega arith) (omega arith) (none (place / 2) (omega arith) (omega arith)))
      (cases_eq place from)

  pub left_is_first : (from end parent : ℕ) → 1 ≤ from → end ≡ 2 * (end / 2) → end ≤ length nodes → is_due now (moment_at nodes from) ≡ false → IsFirstDue now ((from + 1) / 2) (end / 2) nodes parent → is_due now (moment_at nodes (2 * parent)) ≡ true → IsFirstDue now from end nodes (2 * parent)
  left_is_first from end parent some even within not first due =
      record {
        from_on = omega (arith, first.from_on);
        before_the_end = omega (arith, first.before_the_end);
        due = due;
        first = none_below from (2 * parent) some (omega arith) (omega (arith, first.before_the_end)) not (λ place h l. first.first place h (omega arith));
      }

  pub right_is_first : (from end parent : ℕ) → 1 ≤ from → end ≡ 2 * (end / 2) → end ≤ length nodes → is_due now (moment_at nodes from) ≡ false → IsFirstDue now ((from + 1) / 2) (end / 2) nodes parent → is_due now (moment_at nodes (2 * parent)) ≡ false → IsFirstDue now from end nodes (2 * parent + 1)
  right_is_first from end parent some even within not first not_left =
      let below = none_below from (2 * parent) some (omega arith) (omega (arith, first.before_the_end)) not (λ place h l. first.first place h (omega arith)) in
      let is_joined = joined parent (omega (arith, first.from_on)) (omega (arith, first.before_the_end)) in
      record {
        from_on = omega (arith, first.from_on);
        before_the_end = omega (arith, first.before_the_end);
        due = other_is_due now (moment_at nodes (2 * parent)) (moment_at nodes (2 * parent + 1)) (ap (is_due now) (sym is_joined) ∙ first.due) not_left;
        first = λ place h l. ⊎_elim
            (λ (e : place ≡ 2 * parent). ap (λ n. is_due now (moment_at nodes n)) e ∙ not_left)
            (λ (ne : place ≢ 2 * parent). below place h (omega arith))
            (cases_eq place (2 * parent));
      }

take-set-any : (n : ℕ) (xs : List (Option ℕ)) (i : ℕ) (x : Option ℕ) → take n (set xs i x) ≡ set (take n xs) i x
take-set-any zero xs i x = refl
take-set-any (suc n) [] i x = refl
take-set-any (suc n) (y ∷ xs) zero x = refl
take-set-any (suc n) (y ∷ xs) (suc i) x = ap (λ zs. y ∷ zs) (take-set-any n xs i x)

-- a row whose leaves are these but for one
pub leaves_after : (nodes after : List (Option ℕ)) (half count place : ℕ) (moment : Option ℕ) → drop half after ≡ drop half (set nodes (half + place) moment) → take count (drop half after) ≡ set (take count (drop half nodes)) place moment
leaves_after nodes after half count place moment e =
    ap (take count) (e ∙ drop-set-add half nodes place moment) ∙ take-set-any count (drop half nodes) place moment

pub others_after : (nodes after : List (Option ℕ)) (half place node : ℕ) (moment : Option ℕ) → drop half after ≡ drop half (set nodes (half + place) moment) → half + place < node → moment_at after node ≡ moment_at nodes node
others_after nodes after half place node moment e l =
    let n : half + (node - half) ≡ node = omega arith in
    let ne : node ≢ half + place = omega arith in
    ap (λ k. get_or after k None) (sym n)
    ∙ sym (get_or-drop half after (node - half) None)
    ∙ ap (λ (xs : List (Option ℕ)). get_or xs (node - half) None) e
    ∙ get_or-drop half (set nodes (half + place) moment) (node - half) None
    ∙ ap (λ k. get_or (set nodes (half + place) moment) k None) n
    ∙ get_or-set_other nodes (half + place) node moment None ne

pub all_none : (half count : ℕ) → count ≤ half → take count (drop half (replicate {A = Option ℕ} (2 * half) None)) ≡ replicate count None
all_none half count l =
    ap (take count) (drop-replicate half (2 * half) None)
    ∙ take-replicate count (2 * half - half) None (omega arith)
