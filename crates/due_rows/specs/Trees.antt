-- The tree over a row.
use Rattle.std.specs.Prelude.{◌≡◌, ℕ, ◌+◌, ◌*◌, ◌^◌, ◌<◌, ◌≤◌, List, Option, None, length}
use Rattle.due_rows.specs.Moments.{earlier, moment_at}

-- a node has the earlier of its children's moments
abbrev pub IsJoined : List (Option ℕ) → ℕ → Type 0
IsJoined nodes node = moment_at nodes node ≡ earlier (moment_at nodes (2 * node)) (moment_at nodes (2 * node + 1))

-- each node with children has
abbrev pub AreJoined : List (Option ℕ) → Type 0
AreJoined nodes = (node : ℕ) → 1 ≤ node → 2 * node + 1 < length nodes → IsJoined nodes node

-- what a row keeps
pub record IsTree (nodes : List (Option ℕ)) (half depth count : ℕ) : Type 0 where
  pub sized : length nodes ≡ 2 * half
  pub doubled : half ≡ 2 ^ depth
  pub counted : count ≤ half
  pub small : half ≤ 2 ^ 33
  pub joined : AreJoined nodes
  pub others : (node : ℕ) → half + count ≤ node → moment_at nodes node ≡ None
