-- The rule of a relay's channel: what was put is what was taken and what the channel holds, each item as often.
use Rattle.std.specs.Prelude.{◌≡◌, ℕ, ◌+◌, List, [], All, sum_by}
use mathlib.Core.Option.{some}
use lib.ListN.{get_elem?}
use Rattle.farm_relay.specs.declared.items.Item.{Item}
use Rattle.farm_relay.specs.declared.tallies.Tally.{Tally}
use Rattle.farm_relay.specs.Tallies.{all_shares}

-- Each item is as often among those put as among those taken and those in the channel: so it is where every weight of
-- items gives the same sum.
abbrev pub IsEven : {T : Type 0} → List (Item T) → List (Tally T) → Type 0
IsEven {T} items tallies =
    (weight : Item T → ℕ)
    → sum_by (λ v. sum_by weight v.put) tallies
    ≡ sum_by (λ v. sum_by weight v.taken) tallies + sum_by weight items

-- a pass without a share has put and taken nothing
abbrev pub IsIdle : {T : Type 0} → Tally T → Type 0
IsIdle v = v.shares ≡ 0 → (v.put ≡ []) × (v.taken ≡ [])

pub record IsBalanced {T : Type 0} (items : List (Item T)) (tallies : List (Tally T)) : Type 0 where
  pub shared : sum_by (λ (v : Tally T). v.shares) tallies ≡ all_shares
  pub even : IsEven items tallies
  pub idle : All IsIdle tallies

-- the channel holds these items while one of the passes knows this
pub record IsAt {T : Type 0} (v : Tally T) (items : List (Item T)) : Type 0 where
  pub tallies : List (Tally T)
  pub pass : ℕ
  pub balanced : IsBalanced items tallies
  pub there : get_elem? tallies pass ≡ some v
