use Rattle.cards.proofs.WriteLemmas.{AddsBeginning-stop, AddsBeginning-then, Writes-then, Writes-err}
use Rattle.par.specs.Texts.{contract_text}
use Rattle.par.proofs.texts.write_contract.Goals as goal

pub returns-in_err-write_declarers : goal.returns-in_err-write_declarers
unfolding contract_text
returns-in_err-write_declarers g c =
    Writes-err c.from_residual.result _ c.from_residual.ensures.1 (AddsBeginning-stop _ c.in_err-write_declarers.ensures)

pub returns-in_err-write_all : goal.returns-in_err-write_all
unfolding contract_text
returns-in_err-write_all g c =
    Writes-err c.from_residual-in_err-write_all.result _ c.from_residual-in_err-write_all.ensures.1
    (AddsBeginning-then c.in_ok-write_declarers.ensures (AddsBeginning-stop _ c.in_err-write_all.ensures))

pub returns-in_err-write_bid : goal.returns-in_err-write_bid
unfolding contract_text
returns-in_err-write_bid g c =
    Writes-err c.from_residual-in_err-write_bid.result _ c.from_residual-in_err-write_bid.ensures.1
    (AddsBeginning-then c.in_ok-write_declarers.ensures
    (AddsBeginning-then c.in_ok-write_all.ensures (AddsBeginning-stop _ c.in_err-write_bid.ensures)))

pub returns-in_err-write_doubling : goal.returns-in_err-write_doubling
unfolding contract_text
returns-in_err-write_doubling g c =
    Writes-err c.from_residual-in_err-write_doubling.result _ c.from_residual-in_err-write_doubling.ensures.1
    (AddsBeginning-then c.in_ok-write_declarers.ensures
    (AddsBeginning-then c.in_ok-write_all.ensures
    (AddsBeginning-then c.in_ok-write_bid.ensures (AddsBeginning-stop _ c.in_err-write_doubling.ensures))))

pub returns : goal.returns
unfolding contract_text
returns g c =
    let last = c.write_outcome.result in
    Writes-then last _ _ c.in_ok-write_declarers.ensures
    (Writes-then last _ _ c.in_ok-write_all.ensures
    (Writes-then last _ _ c.in_ok-write_bid.ensures
    (Writes-then last _ _ c.in_ok-write_doubling.ensures c.write_outcome.ensures)))
