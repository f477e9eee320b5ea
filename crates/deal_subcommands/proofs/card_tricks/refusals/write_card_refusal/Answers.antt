use Rattle.cards.proofs.WriteLemmas.{AddsBeginning-stop, AddsBeginning-then, Writes-then, Writes-err}
use Rattle.deal_subcommands.proofs.card_tricks.refusals.write_card_refusal.Goals as goal

pub returns-in_err-write_all : goal.returns-in_err-write_all
returns-in_err-write_all g c =
    Writes-err c.from_residual.result _ c.from_residual.ensures.1 (AddsBeginning-stop _ c.in_err-write_all.ensures)

pub returns-in_err-write_refusal : goal.returns-in_err-write_refusal
returns-in_err-write_refusal g c =
    Writes-err c.from_residual-in_err-write_refusal.result _ c.from_residual-in_err-write_refusal.ensures.1
    (AddsBeginning-then c.in_ok-write_all.ensures (AddsBeginning-stop _ c.in_err-write_refusal.ensures))

pub returns : goal.returns
returns g c =
    Writes-then c.write_all-2.result _ _ c.in_ok-write_all.ensures
    (Writes-then c.write_all-2.result _ _ c.in_ok-write_refusal.ensures c.write_all-2.ensures)
