use Rattle.std.proofs.Common.{◌∙◌, Option, Some, None, subst, arith}
use Rattle.lease_desk.specs.Desks.{receipts_in}
use Rattle.farm_relay.specs.Relays.{put_by}
use Rattle.farm.specs.declared.tasks.Task.{Task}
use Rattle.farm.specs.Requests.{IsNextTask}
use Rattle.farm.proofs.Flows.{puts_then, task_moves, nothing_moves, freeing_moves}
use Rattle.farm.proofs.Findings.{continues_then, next_on, nothing_on, freeing_on, lent_on}
use Rattle.farm.proofs.lending.lend_all.Goals as goal

pub loop-batch-preserved-in_ok-lend_batch : goal.loop-batch-preserved-in_ok-lend_batch
loop-batch-preserved-in_ok-lend_batch g c =
    let i = c.loop-batch.invariant in
    let had = receipts_in c.loop-batch.post.chair in
    let one = receipts_in c.next_task.new.chair in
    let has = receipts_in c.lease_batch.new.chair in
    let first = c.in-Some-2.first in
    let next : IsNextTask had one (Some first) = subst (λ (o : Option Task). IsNextTask had one o) c.in-Some-2.is c.in_ok-first.ensures.told in
    let leased = c.in_ok-batch.ensures in
    let worked = c.in_ok-lend_batch.ensures in
    let on = continues_then had one has (next_on had one first next) leased.receipts in (
      record {
        chair = record {
          duty = leased.stays.duty;
          number = leased.stays.number ∙ c.in_ok-first.ensures.stays.number ∙ i.0.chair.number;
        };
        groups = puts_then _ _ _ i.0.groups worked.same;
      },
      λ weight. (
          let own_none = (i.1 weight).settled_none in
          let own_all = (i.1 weight).lends in
          let given_none = (task_moves weight had one first next).settled_none in
          let given_all = (task_moves weight had one first next).in_hand in
          let more_none = (leased.leases weight).settled_none in
          let more_all = (leased.leases weight).in_hand in
          let put = worked.leases weight in
          record { settled_none = omega arith; lends = omega arith }
          ),
      record { each = worked.lends has leased.given (lent_on had has (put_by c.loop-batch.post.groups) on i.2.each) },
    )

pub returns-then-not-branch-clause-lends : goal.returns-then-not-branch-clause-lends
returns-then-not-branch-clause-lends g c =
    let had = receipts_in c.loop-batch.post.chair in
    let one = receipts_in c.next_task.new.chair in
    let has = receipts_in c.frees_a_lease.new.chair in
    let none : IsNextTask had one None = subst (λ (o : Option Task). IsNextTask had one o) c.in_default.is c.in_ok-first.ensures.told in
    let on = continues_then had one has (nothing_on had one none) (freeing_on one has _ c.in_ok-frees_a_lease.ensures.told) in
    record { each = lent_on had has (put_by c.loop-batch.post.groups) on c.loop-batch.invariant.2.each }

pub returns-then-not-branch-clause-leases : goal.returns-then-not-branch-clause-leases
returns-then-not-branch-clause-leases g c weight =
    let had = receipts_in c.loop-batch.post.chair in
    let one = receipts_in c.next_task.new.chair in
    let has = receipts_in c.frees_a_lease.new.chair in
    let none : IsNextTask had one None = subst (λ (o : Option Task). IsNextTask had one o) c.in_default.is c.in_ok-first.ensures.told in
    let own_none = (c.loop-batch.invariant.1 weight).settled_none in
    let own_all = (c.loop-batch.invariant.1 weight).lends in
    let nothing_none = (nothing_moves weight had one none).settled_none in
    let nothing_all = (nothing_moves weight had one none).in_hand in
    let freeing = freeing_moves weight one has _ c.in_ok-frees_a_lease.ensures.told in
    let freeing_none = freeing.settled_none in
    let freeing_all = freeing.in_hand in
    record { settled_none = omega arith; lends = omega arith }

pub loop-batch-preserved : goal.loop-batch-preserved
loop-batch-preserved g c =
    let i = c.loop-batch.invariant in
    let had = receipts_in c.loop-batch.post.chair in
    let one = receipts_in c.next_task.new.chair in
    let has = receipts_in c.frees_a_lease.new.chair in
    let none : IsNextTask had one None = subst (λ (o : Option Task). IsNextTask had one o) c.in_default.is c.in_ok-first.ensures.told in
    let freed = c.in_ok-frees_a_lease.ensures in
    let on = continues_then had one has (nothing_on had one none) (freeing_on one has _ freed.told) in (
      record {
        chair = record { duty = freed.stays.duty; number = freed.stays.number ∙ c.in_ok-first.ensures.stays.number ∙ i.0.chair.number };
        groups = i.0.groups;
      },
      λ weight. (
          let own_none = (i.1 weight).settled_none in
          let own_all = (i.1 weight).lends in
          let nothing_none = (nothing_moves weight had one none).settled_none in
          let nothing_all = (nothing_moves weight had one none).in_hand in
          let freeing = freeing_moves weight one has _ freed.told in
          let freeing_none = freeing.settled_none in
          let freeing_all = freeing.in_hand in
          record { settled_none = omega arith; lends = omega arith }
          ),
      record { each = lent_on had has (put_by c.loop-batch.post.groups) on i.2.each },
    )
