use Rattle.std.proofs.Common.{rules, refl, Ok, Err}
use Rattle.pbn_deals.specs.LayoutValue.{SaysLayout}
use Rattle.deal_subcommands.specs.Check.Runs.{IsVerdictOf, LacksVerdict}
use Rattle.deal_subcommands.specs.Play.Runs.{is_no_layout, is_unread, is_no_answer, is_refused, is_played}
use Rattle.deal_subcommands.proofs.play.runs.play_answer.Goals as goal

pub returns-in-Err : goal.returns-in-Err
returns-in-Err g c =
    let unspelt : SaysLayout c.args.options.layout.now (Err c.in-Err.fault) = search rules in
    is_no_layout c.in-Err.fault refl unspelt refl

pub returns-in-Err-read_file : goal.returns-in-Err-read_file
returns-in-Err-read_file g c =
    let spelt : SaysLayout c.args.options.layout.now (Ok c.in-Ok.layout) = search rules in
    is_unread c.in-Ok.layout spelt c.in-Err-read_file.fault refl c.in-Err-read_file.ensures refl

pub returns-in-Ok-Ok : goal.returns-in-Ok-Ok
returns-in-Ok-Ok g c =
    let spelt : SaysLayout c.args.options.layout.now (Ok c.in-Ok.layout) = search rules in
    let judged : IsVerdictOf c.in-Ok-read_file.text.items c.in-Ok.layout c.args.options.declarer c.args.options.trump (Ok c.in-Ok-Ok.accepted.proven) = search rules in
    is_played c.in-Ok-Ok.accepted.proven
    (record { deal = c.in-Ok.layout; text = c.in-Ok-read_file.text.items; answer = record { spelt = spelt; read = c.in-Ok-read_file.ensures }; is = judged })
    c.converse.ensures

pub returns-in-Ok-Err : goal.returns-in-Ok-Err
returns-in-Ok-Err g c =
    let spelt : SaysLayout c.args.options.layout.now (Ok c.in-Ok.layout) = search rules in
    let judged : IsVerdictOf c.in-Ok-read_file.text.items c.in-Ok.layout c.args.options.declarer c.args.options.trump (Err c.in-Ok-Err.fault) = search rules in
    is_refused c.in-Ok-Err.fault
    (record { deal = c.in-Ok.layout; text = c.in-Ok-read_file.text.items; answer = record { spelt = spelt; read = c.in-Ok-read_file.ensures }; is = judged })
    refl c.print_verdict.ensures

pub returns : goal.returns
returns g c =
    let spelt : SaysLayout c.args.options.layout.now (Ok c.in-Ok.layout) = search rules in
    let judged : LacksVerdict c.in-Ok-read_file.text.items c.in-Err-judge_answer.fault = search rules in
    is_no_answer c.in-Ok.layout c.in-Ok-read_file.text.items (record { spelt = spelt; read = c.in-Ok-read_file.ensures })
    c.in-Err-judge_answer.fault refl judged refl
