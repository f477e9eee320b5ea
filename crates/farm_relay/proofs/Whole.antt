-- The pass that has all shares knows the whole.
use Rattle.std.proofs.Common.{◌≡◌, ℕ, zero, suc, List, [], ◌∷◌, All, length, sum_by, refl, sym, ap, ◌∙◌, arith}
use Rattle.std.proofs.lemmas.List.Elements.{All-head, All-tail}
use Rattle.std.proofs.lemmas.List.Sums.{sum_by-cons}
use mathlib.Core.Option.{some, some-injective, some-ne-none}
use lib.ListN.{get_elem?}
use Rattle.crossbeam_channel.specs.Fifo.{Held}
use Rattle.farm_relay.specs.declared.items.Item.{Item}
use Rattle.farm_relay.specs.declared.tallies.Tally.{Tally}
use Rattle.farm_relay.specs.Tallies.{all_shares}
use Rattle.farm_relay.specs.Rule.{IsIdle, IsAt}
use Rattle.farm_relay.proofs.Sums.{one_of}

module _ {T : Type 0} (f : Tally T → ℕ) (nothing : (u : Tally T) → u.shares ≡ 0 → IsIdle u → f u ≡ 0) where
  -- what passes without a share sum up to
  none_of : (l : List (Tally T)) → All IsIdle l → sum_by (λ (u : Tally T). u.shares) l ≡ 0 → sum_by f l ≡ 0
  none_of [] idle none = refl
  none_of (x ∷ xs) idle none =
      let k = sum_by-cons (λ (u : Tally T). u.shares) x xs in
      let first = nothing x (omega arith) (All-head IsIdle x xs idle) in
      let others = none_of xs (All-tail IsIdle x xs idle) (omega arith) in
      omega (arith, sum_by-cons f x xs)

  -- what one pass that has all shares knows is the sum
  only : (l : List (Tally T)) (pass : ℕ) (v : Tally T) → All IsIdle l → get_elem? l pass ≡ some v → sum_by (λ (u : Tally T). u.shares) l ≡ v.shares → sum_by f l ≡ f v
  only [] pass v idle e all = absurd (some-ne-none v (sym e))
  only (x ∷ xs) zero v idle e all =
      let same : f x ≡ f v = ap f (some-injective x v e) in
      let shares : x.shares ≡ v.shares = ap (λ (u : Tally T). u.shares) (some-injective x v e) in
      let k = sum_by-cons (λ (u : Tally T). u.shares) x xs in
      let others = none_of xs (All-tail IsIdle x xs idle) (omega arith) in
      omega (arith, sum_by-cons f x xs)
  only (x ∷ xs) (suc pass) v idle e all =
      let k = sum_by-cons (λ (u : Tally T). u.shares) x xs in
      let rest = one_of (λ (u : Tally T). u.shares) xs pass v e in
      let left = rest.1 in
      let first = nothing x (omega arith) (All-head IsIdle x xs idle) in
      let others = only xs pass v (All-tail IsIdle x xs idle) e (omega arith) in
      omega (arith, sum_by-cons f x xs)

module _ {T : Type 0} (weight : Item T → ℕ) where
  no_put : (u : Tally T) → u.shares ≡ 0 → IsIdle u → sum_by weight u.put ≡ 0
  no_put u none idle = ap (sum_by weight) (idle none).0

  no_taken : (u : Tally T) → u.shares ≡ 0 → IsIdle u → sum_by weight u.taken ≡ 0
  no_taken u none idle = ap (sum_by weight) (idle none).1

  -- where the channel is empty, the pass with all shares has put what it has taken
  pub nothing_left : (v : Tally T) → v.shares ≡ all_shares → Held 0 (IsAt v) → sum_by weight v.put ≡ sum_by weight v.taken
  nothing_left v all held =
      let at = held.2 in
      let p = at.balanced.even weight in
      let shared = at.balanced.shared in
      let put = only (λ (u : Tally T). sum_by weight u.put) no_put at.tallies at.pass v at.balanced.idle at.there (shared ∙ sym all) in
      let taken = only (λ (u : Tally T). sum_by weight u.taken) no_taken at.tallies at.pass v at.balanced.idle at.there (shared ∙ sym all) in
      let empty = no_items held.0 held.1 in
      omega arith
    where
      no_items : (items : _) → length items ≡ 0 → sum_by weight items ≡ 0
      no_items [] e = refl
      no_items (x ∷ xs) e = absurd (omega arith)
