use Rattle.std.proofs.Common.{◌++◌}
use Rattle.cards.proofs.WriteLemmas.{AddsBeginning-stop, AddsBeginning-then, Writes-then, Writes-err}
use Rattle.sheets.specs.Boards.{hands_text, foot_text, dealt_text}
use Rattle.sheets.proofs.boards.write_dealt.Goals as goal

pub returns-in_err-write_facts : goal.returns-in_err-write_facts
unfolding dealt_text
returns-in_err-write_facts g c =
    let printed = g.T.Results.printed_of c.args.results.now c.args.place in
    let deal = c.args.layout.now in
    let conditions = c.args.conditions in
    Writes-err c.from_residual.result _ c.from_residual.ensures.1
    (AddsBeginning-stop (hands_text deal ++ (foot_text printed)) c.in_err-write_facts.ensures)

pub returns-in_err-write_hands : goal.returns-in_err-write_hands
unfolding dealt_text
returns-in_err-write_hands g c =
    let printed = g.T.Results.printed_of c.args.results.now c.args.place in
    let deal = c.args.layout.now in
    let conditions = c.args.conditions in
    Writes-err c.from_residual-in_err-write_hands.result _ c.from_residual-in_err-write_hands.ensures.1
    (AddsBeginning-then c.in_ok-write_facts.ensures
    (AddsBeginning-stop (foot_text printed) c.in_err-write_hands.ensures))

pub returns : goal.returns
unfolding dealt_text
returns g c =
    let printed = g.T.Results.printed_of c.args.results.now c.args.place in
    let deal = c.args.layout.now in
    let conditions = c.args.conditions in
    Writes-then c.write_foot.result _ _ c.in_ok-write_facts.ensures
    (Writes-then c.write_foot.result _ _ c.in_ok-write_hands.ensures
    (c.write_foot.ensures))
