use Rattle.std.proofs.Common.{arith}
use Rattle.farm_relay.specs.Relays.{put_by}
use Rattle.farm.proofs.Flows.{puts_then}
use Rattle.farm.proofs.Findings.{others_given, lends_more, lent_more}
use Rattle.farm.proofs.lending.lend_batch.Goals as goal

pub loop-group-preserved : goal.loop-group-preserved
loop-group-preserved g c =
    let i = c.loop-group.invariant in
    let rest = c.loop-group.rest.items in
    let groups = c.first_group-group.ensures in
    let chosen = c.first_group-group.result.0.items in
    let lent = c.in_ok-lend_group.ensures in
    let before = put_by c.loop-group.groups in
    let after = put_by c.lend_group.new.groups in (
      puts_then _ _ _ i.0 lent.same,
      (let fewer = groups.fewer in let count = i.1 in omega arith),
      λ weight. (let own = i.2 weight in let more = lent_more weight chosen before after lent.puts in let all = groups.leases weight in omega arith),
      λ receipts given own.
          let so = i.3 receipts given own in
          (others_given receipts rest _ groups.others so.0, lends_more receipts rest chosen before after groups.group so.0 lent.puts so.1),
    )
