use Rattle.std.proofs.Common.{◌∙◌, Option, Some, None, refl, subst, arith}
use Rattle.lease_desk.specs.Desks.{receipts_in}
use Rattle.farm.specs.declared.tasks.Task.{Task}
use Rattle.farm.specs.Requests.{IsNextTask}
use Rattle.farm.specs.Flows.{of_task}
use Rattle.farm.proofs.Flows.{leased_first, leased_more}
use Rattle.farm.proofs.Findings.{same_receipts, continues_then, nothing_on, next_on, only_one, one_long, first_given, given_on, given_more}
use Rattle.farm.proofs.batches.lease_batch.Goals as goal

pub loop-more-init : goal.loop-more-init
loop-more-init g c =
    let receipts = receipts_in c.args.chair.now in
    let first = c.args.first in
    let batch = c.push.new.self.items in
    let one = only_one c.new-batch.result.items batch first c.push.ensures.items c.new-batch.ensures in (
      record { duty = c.requires.duty; number = refl },
      one_long batch first one,
      λ weight. leased_first weight receipts first batch one,
      first_given receipts batch first one c.requires.given,
      same_receipts receipts,
    )

pub returns-in_default-clause-given : goal.returns-in_default-clause-given
returns-in_default-clause-given g c =
    let had = receipts_in c.loop-more.chair in
    let has = receipts_in c.next_task.new.chair in
    let nothing : IsNextTask had has None = subst (λ (o : Option Task). IsNextTask had has o) c.in_default.is c.in_ok-task.ensures.told in
    given_on had has c.loop-more.batch.items (nothing_on had has nothing) c.loop-more.invariant.3

pub loop-more-preserved : goal.loop-more-preserved
loop-more-preserved g c =
    let i = c.loop-more.invariant in
    let first = receipts_in c.args.chair.now in
    let had = receipts_in c.loop-more.chair in
    let has = receipts_in c.next_task.new.chair in
    let tasks = c.loop-more.batch.items in
    let batch = c.push-in-loop-more.new.self.items in
    let task = c.in-Some.task in
    let next : IsNextTask had has (Some task) = subst (λ (o : Option Task). IsNextTask had has o) c.in-Some.is c.in_ok-task.ensures.told in
    let stays = c.in_ok-task.ensures.stays in
    let more = c.push-in-loop-more.ensures in (
      record { duty = stays.duty; number = stays.number ∙ i.0.number },
      (let count = i.1 in let many = more.len in omega arith),
      λ weight. leased_more weight first had has (of_task weight c.args.first) tasks batch task more.items next (i.2 weight),
      given_more had has tasks batch task more.items i.3 next,
      continues_then first had has i.4 (next_on had has task next),
    )
