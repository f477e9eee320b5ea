use Rattle.std.proofs.Common.{rules}
use Rattle.deal_subcommands.specs.Check.Runs.{IsVerdictLine}
use Rattle.deal_subcommands.proofs.CheckLemmas.{AnswersSource-printed}
use Rattle.deal_subcommands.proofs.check.runs.check_answer.Goals as goal

pub returns-in-Ok-Ok : goal.returns-in-Ok-Ok
returns-in-Ok-Ok g c =
    let judged = rw c.in-Ok-Ok.field-0-is at c.in-Ok-Ok.ensures in
    AnswersSource-printed IsVerdictLine c.args.value.now _ _ _ _ _ _ _ (c.in-Ok.layout, c.in-Ok.ensures, judged.0) c.print_verdict.result c.print_verdict.ensures

pub returns-in-Ok-Err : goal.returns-in-Ok-Err
returns-in-Ok-Err g c =
    let judged = rw c.in-Ok-Err.field-0-is at c.in-Ok-Err.ensures in
    AnswersSource-printed IsVerdictLine c.args.value.now _ _ _ _ _ _ _ (c.in-Ok.layout, c.in-Ok.ensures, judged) c.print_verdict-in-Ok-Err.result c.print_verdict-in-Ok-Err.ensures

pub returns-in-Err-judge_input : goal.returns-in-Err-judge_input
returns-in-Err-judge_input g c = search rules
