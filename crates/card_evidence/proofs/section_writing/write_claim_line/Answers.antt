use Rattle.cards.proofs.WriteLemmas.{AddsBeginning-stop, AddsBeginning-then, Writes-then, Writes-err}
use Rattle.card_evidence.proofs.section_writing.write_claim_line.Goals as goal

pub returns-in_err-write_all : goal.returns-in_err-write_all
returns-in_err-write_all g c =
    let end = c.from_residual-in_err-write_all in
    Writes-err end.result _ end.ensures.1 (AddsBeginning-then c.in_ok-write_letters.ensures (AddsBeginning-stop _ c.in_err-write_all.ensures))

pub returns : goal.returns
returns g c =
    let end = c.write_counted.result in
    Writes-then end _ _ c.in_ok-write_letters.ensures (Writes-then end _ _ c.in_ok-write_all.ensures (rw c.from.ensures at c.write_counted.ensures))
