use Rattle.cards.proofs.WriteLemmas.{AddsBeginning-stop, Writes-then, Writes-err}
use Rattle.deal_subcommands.proofs.line.runs.write_line.Goals as goal

pub returns-in_err-write_verdict : goal.returns-in_err-write_verdict
returns-in_err-write_verdict g c = Writes-err c.from_residual.result _ c.from_residual.ensures.1 (AddsBeginning-stop _ c.in_err-write_verdict.ensures)

pub returns : goal.returns
returns g c =
    let play = rw c.shown-shown.ensures at c.write_play.ensures in
    Writes-then c.write_play.result _ _ c.in_ok-write_verdict.ensures play
