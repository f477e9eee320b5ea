use Rattle.cards.proofs.WriteLemmas.{AddsBeginning-stop, AddsBeginning-then, Writes-then, Writes-err}
use Rattle.deal_subcommands.proofs.card_tricks.refusals.write_side_fault.Goals as goal

pub returns-in_err-write_card : goal.returns-in_err-write_card
returns-in_err-write_card g c =
    Writes-err c.from_residual-in_err-write_card.result _ c.from_residual-in_err-write_card.ensures.1
    (AddsBeginning-then c.in_ok-write_all.ensures (AddsBeginning-stop _ c.in_err-write_card.ensures))

pub returns-in_err-write_all-2 : goal.returns-in_err-write_all-2
returns-in_err-write_all-2 g c =
    Writes-err c.from_residual-in_err-write_all-2.result _ c.from_residual-in_err-write_all-2.ensures.1
    (AddsBeginning-then c.in_ok-write_all.ensures
    (AddsBeginning-then c.in_ok-write_card.ensures (AddsBeginning-stop _ c.in_err-write_all-2.ensures)))

pub returns : goal.returns
returns g c =
    Writes-then c.write_after_fault.result _ _ c.in_ok-write_all.ensures
    (Writes-then c.write_after_fault.result _ _ c.in_ok-write_card.ensures
    (Writes-then c.write_after_fault.result _ _ c.in_ok-write_all-2.ensures c.write_after_fault.ensures))
