use Rattle.std.proofs.Common.{List, ◌+◌, inr, subst}
use Rattle.farm_relay.specs.Relays.{put_by}
use Rattle.farm.specs.declared.tasks.Task.{Task}
use Rattle.farm.proofs.Flows.{puts_then, claimed_more}
use Rattle.farm.proofs.Findings.{HasPut, put_next, put_early}
use Rattle.farm.proofs.checking.check_found.Goals as goal

pub returns-in_err-put_claim-clause-puts : goal.returns-in_err-put_claim-clause-puts
returns-in_err-put_claim-clause-puts g c =
    let tasks : List Task = c.deref-task-items-2.result.now in
    let bundle = c.args.found.bundle in
    let before = put_by c.args.claims.now in
    let after = put_by c.put_claim.new.claims in
    let n = c.loop-task-2.task-index + 1 in
    let next = put_next bundle c.in_ok-pair.pair tasks c.loop-task-2.task-index _ before (put_by c.loop-task-2.claims) after c.loop-task-2-test.true c.loop-task-2.invariant.2 c.put_claim.ensures.puts in
    let put = subst (λ (l : List Task). HasPut bundle c.in_ok-pair.pair l before after) c.deref-task-items-2.ensures.0 (put_early bundle c.in_ok-pair.pair tasks n before after next) in
    inr (c.in_ok-pair.pair, put.0, c.in_ok-pair.ensures, put.1, put.2)

pub loop-task-2-preserved : goal.loop-task-2-preserved
loop-task-2-preserved g c =
    let tasks : List Task = c.deref-task-items-2.result.now in
    let i = c.loop-task-2.invariant in
    let put = c.put_claim.ensures in (
      puts_then c.args.claims.now c.loop-task-2.claims c.put_claim.new.claims i.0 put.same,
      λ weight. claimed_more weight tasks c.loop-task-2.task-index _ _ _ _ c.loop-task-2-test.true (i.1 weight) (put.leases weight),
      put_next c.args.found.bundle c.in_ok-pair.pair tasks c.loop-task-2.task-index _ (put_by c.args.claims.now) (put_by c.loop-task-2.claims) (put_by c.put_claim.new.claims) c.loop-task-2-test.true i.2 put.puts,
    )
