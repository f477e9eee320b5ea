-- What is divided is all there.
use Rattle.std.proofs.Common.{◌≡◌, ℕ, ◌+◌, Bool, not, List, filter, refl, ap, arith}
use Rattle.std.proofs.lemmas.List.Filters.{sum_by-filter_both}
use Rattle.farm.specs.declared.tasks.Task.{Task}
use Rattle.farm.specs.Flows.{of_task, of_tasks}

-- the leases that a test chooses, and the others
pub all_divided : (weight : ℕ → ℕ) (p : Task → Bool) (tasks chosen others : List Task) → chosen ≡ filter p tasks → others ≡ filter (λ t. not (p t)) tasks → of_tasks weight chosen + of_tasks weight others ≡ of_tasks weight tasks
all_divided weight p tasks chosen others is other =
    let a = ap (of_tasks weight) is in
    let b = ap (of_tasks weight) other in
    omega (arith, sum_by-filter_both p (λ t. not (p t)) (λ t. refl) (of_task weight) tasks)
