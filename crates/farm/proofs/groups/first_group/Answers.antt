use Rattle.std.proofs.Common.{◌≡◌, Bool, not, filter, take, take_all, ap, ◌∙◌}
use Rattle.farm.specs.declared.tasks.Task.{Task}
use Rattle.farm.specs.Groups.{is_with}
use Rattle.farm.proofs.Dividing.{all_divided}
use Rattle.farm.proofs.groups.first_group.Goals as goal

pub returns-clause-leases : goal.returns-clause-leases
returns-clause-leases c weight =
    let test : Task → Bool = is_with c.in-Some.first.now in
    let i = c.loop-task.invariant in
    let all : take c.loop-task.task-index c.as_slice-tasks.result.now ≡ c.args.batch.now.items = take_all _ _ c.loop-task-test.false ∙ c.as_slice-tasks.ensures.value in
    all_divided weight test c.args.batch.now.items _ _ (i.0 ∙ ap (filter test) all) (i.1 ∙ ap (filter (λ t. not (test t))) all)
