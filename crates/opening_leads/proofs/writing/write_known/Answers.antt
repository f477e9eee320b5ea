use Rattle.std.proofs.Common.{◌++◌}
use Rattle.std.specs.Prelude.{codes, decimal}
use Rattle.cards.proofs.WriteLemmas.{AddsBeginning-stop, AddsBeginning-then, Writes-then, Writes-err}
use Rattle.opening_leads.specs.Texts.{known_text}
use Rattle.opening_leads.proofs.writing.write_known.Goals as goal

pub returns-in_err-write_all : goal.returns-in_err-write_all
unfolding known_text
returns-in_err-write_all g c =
    Writes-err c.from_residual.result _ c.from_residual.ensures.1
    (AddsBeginning-stop (decimal c.args.known ++ codes " of 20\n") c.in_err-write_all.ensures)

pub returns-in_err-write_number : goal.returns-in_err-write_number
unfolding known_text
returns-in_err-write_number g c =
    Writes-err c.from_residual-in_err-write_number.result _ c.from_residual-in_err-write_number.ensures.1
    (AddsBeginning-then c.in_ok-write_all.ensures (AddsBeginning-stop (codes " of 20\n") c.in_err-write_number.ensures))

pub returns : goal.returns
unfolding known_text
returns g c =
    Writes-then c.write_all-2.result _ _ c.in_ok-write_all.ensures
    (Writes-then c.write_all-2.result _ _ c.in_ok-write_number.ensures c.write_all-2.ensures)
