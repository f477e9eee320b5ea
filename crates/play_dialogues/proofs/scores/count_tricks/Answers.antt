use Rattle.std.proofs.Common.{true, false, sym, ◌∙◌, arith}
use Rattle.play_dialogues.proofs.TrickLemmas.{tricks_of-next, tricks_of-short}
use Rattle.play_dialogues.proofs.scores.count_tricks.Goals as goal

pub loop-rest-preserved-then-eq : goal.loop-rest-preserved-then-eq
loop-rest-preserved-then-eq c =
    let test = sym c.if-eq.true ∙ rw c.side.ensures at c.eq.ensures in
    let next = tricks_of-next c.args.side c.args.trump c.loop-rest.leader c.leads_next-leader.result c.loop-rest.rest.now c.split_at.result.0.now c.split_at.result.1.now true (omega arith) c.split_at.ensures.front c.split_at.ensures.back c.leads_next-leader.ensures test in
    record {
      all = omega (arith, next, c.loop-rest.invariant.all);
      few = omega (arith, c.loop-rest.invariant.few, c.split_at.ensures.back_len);
    }

pub loop-rest-preserved : goal.loop-rest-preserved
loop-rest-preserved c =
    let test = sym c.if-eq.false ∙ rw c.side.ensures at c.eq.ensures in
    let next = tricks_of-next c.args.side c.args.trump c.loop-rest.leader c.leads_next-leader.result c.loop-rest.rest.now c.split_at.result.0.now c.split_at.result.1.now false (omega arith) c.split_at.ensures.front c.split_at.ensures.back c.leads_next-leader.ensures test in
    record {
      all = omega (arith, next, c.loop-rest.invariant.all);
      few = omega (arith, c.loop-rest.invariant.few, c.split_at.ensures.back_len);
    }

pub returns : goal.returns
returns c =
    omega (arith, c.loop-rest.invariant.all, tricks_of-short c.args.side c.args.trump c.loop-rest.leader c.loop-rest.rest.now (omega arith))
