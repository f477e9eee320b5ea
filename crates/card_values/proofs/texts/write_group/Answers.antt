use Rattle.cards.proofs.WriteLemmas.{AddsBeginning-stop, AddsBeginning-then, Writes-then, Writes-err}
use Rattle.card_values.specs.Texts.{cards_worth, group_of}
use Rattle.card_values.proofs.texts.write_group.Goals as goal

pub returns-in_err-write_number : goal.returns-in_err-write_number
unfolding group_of
returns-in_err-write_number g c =
    Writes-err c.from_residual-in_err-write_number.result _ c.from_residual-in_err-write_number.ensures.1
    (AddsBeginning-then c.in_ok-write_all.ensures
    (AddsBeginning-stop (cards_worth c.args.values.now c.args.tricks) c.in_err-write_number.ensures))

pub returns : goal.returns
unfolding group_of
returns g c =
    Writes-then c.write_worth.result _ _ c.in_ok-write_all.ensures
    (Writes-then c.write_worth.result _ _ c.in_ok-write_number.ensures c.write_worth.ensures)
