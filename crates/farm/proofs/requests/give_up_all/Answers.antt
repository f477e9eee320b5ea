use Rattle.std.proofs.Common.{◌≡◌, ◌∙◌, List, take, take_all, subst}
use Rattle.lease_desk.specs.Desks.{receipts_in}
use Rattle.farm.specs.declared.tasks.Task.{Task}
use Rattle.farm.specs.Flows.{GaveUp, of_tasks}
use Rattle.farm.proofs.Flows.{gave_more}
use Rattle.farm.proofs.requests.give_up_all.Goals as goal

pub loop-task-preserved : goal.loop-task-preserved
loop-task-preserved g c =
    let tasks : List Task = c.as_slice-tasks.result.now in
    let i = c.loop-task.invariant in
    let told = c.in_ok-give_up.ensures in (
      record { duty = told.stays.duty; number = told.stays.number ∙ i.0.number },
      λ weight. gave_more weight tasks c.loop-task.task-index _ _ _ _ c.loop-task-test.true (i.1 weight) told.told,
    )

pub returns-clause-leases : goal.returns-clause-leases
returns-clause-leases g c weight =
    let all : take c.loop-task.task-index c.as_slice-tasks.result.now ≡ c.args.tasks.now.items = take_all _ _ c.loop-task-test.false ∙ c.as_slice-tasks.ensures.value in
    subst (λ (l : List Task). GaveUp weight (receipts_in c.args.chair.now) (receipts_in c.loop-task.chair) (of_tasks weight l)) all (c.loop-task.invariant.1 weight)
