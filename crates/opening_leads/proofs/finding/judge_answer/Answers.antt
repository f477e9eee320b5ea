use Rattle.std.proofs.Common.{Some, Ok}
use Rattle.patterns.proofs.SeatLaws.{for_each_seat}
use Rattle.opening_leads.specs.declared.rows.DeclarerRows.{DeclarerRows}
use Rattle.opening_leads.specs.Answers.{AreShownLeads}
use Rattle.opening_leads.specs.Tasks.{row_in}
use Rattle.opening_leads.proofs.AnswerLaws.{shown_row}
use Rattle.opening_leads.proofs.finding.judge_answer.Goals as goal

pub returns : goal.returns
returns c =
    let rows : DeclarerRows = record { north = c.judge_row.result; east = c.judge_row-2.result; south = c.judge_row-3.result; west = c.judge_row-4.result } in
    let claims = c.as_slice-claims.ensures.value in
    for_each_seat (λ declarer. AreShownLeads (Ok (Some c.args.bundle)) c.args.layout.now declarer c.args.trump (row_in rows declarer))
    (shown_row _ c.args.bundle _ (record { ns = c.of-ns.ensures; ew = c.of-ew.ensures }) _ _ _ c.judge_row.result (rw claims at c.judge_row.ensures))
    (shown_row _ c.args.bundle _ (record { ns = c.of-ns.ensures; ew = c.of-ew.ensures }) _ _ _ c.judge_row-2.result (rw claims at c.judge_row-2.ensures))
    (shown_row _ c.args.bundle _ (record { ns = c.of-ns.ensures; ew = c.of-ew.ensures }) _ _ _ c.judge_row-3.result (rw claims at c.judge_row-3.ensures))
    (shown_row _ c.args.bundle _ (record { ns = c.of-ns.ensures; ew = c.of-ew.ensures }) _ _ _ c.judge_row-4.result (rw claims at c.judge_row-4.ensures))
