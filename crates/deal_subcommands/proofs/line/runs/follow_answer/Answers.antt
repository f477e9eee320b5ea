use Rattle.std.proofs.Common.{rules}
use Rattle.deal_subcommands.specs.Line.Runs.{IsLineText}
use Rattle.deal_subcommands.proofs.CheckLemmas.{AnswersSource-printed}
use Rattle.deal_subcommands.proofs.line.runs.follow_answer.Goals as goal

pub returns-in-Ok-Ok : goal.returns-in-Ok-Ok
returns-in-Ok-Ok g c =
    let judged = rw c.in-Ok-Ok.field-0-is at c.in-Ok-Ok.ensures in
    AnswersSource-printed IsLineText c.args.value.now _ _ _ _ _ _ _ (c.in-Ok.layout, c.in-Ok.ensures, judged.0) c.follow.result c.follow.ensures

pub returns-in-Ok-Err : goal.returns-in-Ok-Err
returns-in-Ok-Err g c =
    let judged = rw c.in-Ok-Err.field-0-is at c.in-Ok-Err.ensures in
    AnswersSource-printed IsLineText c.args.value.now _ _ _ _ _ _ _ (c.in-Ok.layout, c.in-Ok.ensures, judged) c.refuse.result c.refuse.ensures

pub returns-in-Err-judge_input : goal.returns-in-Err-judge_input
returns-in-Err-judge_input g c = search rules
