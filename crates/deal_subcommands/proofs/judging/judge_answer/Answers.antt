use Rattle.std.proofs.Common.{Ok, Err}
use Rattle.checker.specs.Judging.{JudgesGraphs}
use Rattle.deal_subcommands.proofs.judging.judge_answer.Goals as goal

pub returns-in-Ok-Ok : goal.returns-in-Ok-Ok
returns-in-Ok-Ok c =
    let judged : JudgesGraphs c.args.layout.now c.args.declarer c.args.trump c.in-Some.tricks c.in-Some.declarers.now c.in-Some.defenders.now (Ok c.in-Ok-Ok.accepted) =
    rw c.in-Ok-Ok.field-0-is at c.in-Ok-Ok.ensures in (
      record {
        tricks = c.in-Some.tricks;
        declarers = c.in-Some.declarers.now;
        defenders = c.in-Some.defenders.now;
        answer = c.in-Some.ensures;
        judged = judged.0;
        value = c.invariant.ensures.value;
      },
      judged.1,
    )

pub returns-in-Ok-Err : goal.returns-in-Ok-Err
returns-in-Ok-Err c =
    let judged : JudgesGraphs c.args.layout.now c.args.declarer c.args.trump c.in-Some.tricks c.in-Some.declarers.now c.in-Some.defenders.now (Err c.in-Ok-Err.fault) =
    rw c.in-Ok-Err.field-0-is at c.in-Ok-Err.ensures in
    record {
      tricks = c.in-Some.tricks;
      declarers = c.in-Some.declarers.now;
      defenders = c.in-Some.defenders.now;
      answer = c.in-Some.ensures;
      judged = judged;
      value = tt;
    }
