use Rattle.std.proofs.Common.{◌++◌}
use Rattle.std.specs.Prelude.{codes}
use Rattle.cards.proofs.WriteLemmas.{AddsBeginning-stop, AddsBeginning-then, Writes-then, Writes-err}
use Rattle.card_values.specs.Texts.{cards_worth, line_of}
use Rattle.card_values.proofs.texts.write_line.Goals as goal

pub returns-in_err-write_all : goal.returns-in_err-write_all
unfolding line_of
returns-in_err-write_all g c =
    Writes-err c.from_residual-in_err-write_all.result _ c.from_residual-in_err-write_all.ensures.1
    (AddsBeginning-then c.in_ok-write_number.ensures
    (AddsBeginning-stop (cards_worth c.args.values.now c.args.tricks ++ codes "\n") c.in_err-write_all.ensures))

pub returns-in_err-write_worth : goal.returns-in_err-write_worth
unfolding line_of
returns-in_err-write_worth g c =
    Writes-err c.from_residual-in_err-write_worth.result _ c.from_residual-in_err-write_worth.ensures.1
    (AddsBeginning-then c.in_ok-write_number.ensures
    (AddsBeginning-then c.in_ok-write_all.ensures (AddsBeginning-stop (codes "\n") c.in_err-write_worth.ensures)))

pub returns : goal.returns
unfolding line_of
returns g c =
    Writes-then c.write_all-2.result _ _ c.in_ok-write_number.ensures
    (Writes-then c.write_all-2.result _ _ c.in_ok-write_all.ensures
    (Writes-then c.write_all-2.result _ _ c.in_ok-write_worth.ensures c.write_all-2.ensures))
