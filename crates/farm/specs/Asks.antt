-- The calls of the solver, and what comes of the leases for which it is called.
use Rattle.std.specs.Prelude.{◌≡◌, ℕ, Bool, false, not, List, Option, None, Some, Result, Ok, Err, filter, length}
use Rattle.std.specs.Prelude.{◌-◌, ◌^◌, min, [], ◌∷◌, slice_get, sum_by}
use Rattle.std.specs.Option.{option_flatten}
use Rattle.std.specs.Result.{result_ok}
use Rattle.std.specs.declared.alloc.AllocError.{AllocError}
use Rattle.cards.specs.Deal.{Deal}
use Rattle.cards.specs.declared.suits.Trump.{Trump}
use Rattle.certificate_graph.specs.declared.bundles.Bundle.{Bundle}
use Rattle.certificate_graph.specs.Solvers.{MayFind}
use Rattle.farm.specs.declared.tasks.Task.{Task}
use Rattle.farm.specs.Groups.{declarers_in, is_claimed}

-- the solver may find this for leases of one denomination on a deal; without a deal it finds nothing
abbrev pub IsFoundOn : MayFind → ℕ → List Task → Trump → Option Deal → Option Bundle → Type 0
IsFoundOn may_find budget group trump None found = found ≡ None
IsFoundOn may_find budget group trump (Some deal) found = may_find deal (declarers_in group) trump budget found

-- the solver may find this on the deal of the leases' board, for their declarers and denomination, within the budget
abbrev pub IsFoundFor : MayFind → List (Option Deal) → ℕ → List Task → Option Bundle → Type 0
IsFoundFor may_find deals budget [] found = found ≡ None
IsFoundFor may_find deals budget (first ∷ group) found =
    IsFoundOn may_find budget (first ∷ group) first.entry.trump
    (option_flatten (slice_get deals first.entry.board)) found

-- a call of the solver for leases of one board and denomination, and its answer
pub record Ask : Type 0 where
  pub tasks : List Task
  pub answer : Result (Option Bundle) AllocError

-- the bundle of an answer; without memory there is none
abbrev pub found_in : Result (Option Bundle) AllocError → Option Bundle
found_in answer = option_flatten (result_ok answer)

-- whether there is a claim for a lease
abbrev pub has_claim : Option Bundle → Task → Bool
has_claim None task = false
has_claim (Some bundle) task = is_claimed bundle task

-- the leases for which the answer has a claim, and those for which the solver was asked in vain
abbrev pub claimed_in : Ask → List Task
claimed_in ask = filter (has_claim (found_in ask.answer)) ask.tasks

abbrev pub vain_in : Ask → List Task
vain_in ask = filter (λ task. not (has_claim (found_in ask.answer) task)) ask.tasks

-- how many of the leases in vain ran out of steps: all if the solver answered, and none if it had no memory
abbrev pub steps_of : Result (Option Bundle) AllocError → ℕ → ℕ
steps_of (Ok found) vain = vain
steps_of (Err fault) vain = 0

abbrev pub steps_in : Ask → ℕ
steps_in ask = steps_of ask.answer (length (vain_in ask))

abbrev pub all_steps : List Ask → ℕ
all_steps asks = sum_by steps_in asks

-- as far as a count goes
abbrev pub as_counted : ℕ → ℕ
as_counted count = min count (2 ^ 64 - 1)

-- leases by their weights: those of tasks, and those of calls: all, those with a claim, and those in vain
module _ (weight : ℕ → ℕ) where
  abbrev pub of_task : Task → ℕ
  of_task task = weight task.lease

  abbrev pub of_tasks : List Task → ℕ
  of_tasks tasks = sum_by of_task tasks

  abbrev pub all_asked : List Ask → ℕ
  all_asked asks = sum_by (λ ask. of_tasks ask.tasks) asks

  abbrev pub all_answered : List Ask → ℕ
  all_answered asks = sum_by (λ ask. of_tasks (claimed_in ask)) asks

  abbrev pub all_vain : List Ask → ℕ
  all_vain asks = sum_by (λ ask. of_tasks (vain_in ask)) asks

-- the solver was called for these leases on the deal of their board, and may answer so
abbrev pub IsAsked : MayFind → List (Option Deal) → ℕ → Ask → Type 0
IsAsked may_find deals budget ask = IsFoundFor may_find deals budget ask.tasks (found_in ask.answer)
