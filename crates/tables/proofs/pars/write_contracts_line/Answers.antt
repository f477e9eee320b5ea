use Rattle.std.proofs.Common.{◌∷◌, ◌++◌}
use Rattle.cards.proofs.WriteLemmas.{AddsBeginning-stop, AddsBeginning-then, Writes-then, Writes-err}
use Rattle.par.specs.Texts.{contracts_text}
use Rattle.tables.proofs.ParLines.{contracts_line-is}
use Rattle.tables.proofs.pars.write_contracts_line.Goals as goal

pub returns-in_err-write_all : goal.returns-in_err-write_all
returns-in_err-write_all g c =
    let text = contracts_text c.args.contracts.now in
    rw (contracts_line-is c.args.end.now text) (Writes-err c.from_residual.result _ c.from_residual.ensures.1 (AddsBeginning-stop (text ++ (34 ∷ 93 ∷ c.args.end.now)) c.in_err-write_all.ensures))

pub returns-in_err-write_contracts : goal.returns-in_err-write_contracts
returns-in_err-write_contracts g c =
    let text = contracts_text c.args.contracts.now in
    rw (contracts_line-is c.args.end.now text) (Writes-err c.from_residual-in_err-write_contracts.result _ c.from_residual-in_err-write_contracts.ensures.1 (AddsBeginning-then c.in_ok-write_all.ensures (AddsBeginning-stop (34 ∷ 93 ∷ c.args.end.now) c.in_err-write_contracts.ensures)))

pub returns : goal.returns
returns g c =
    let text = contracts_text c.args.contracts.now in
    let last = c.write_line.result in
    rw (contracts_line-is c.args.end.now text) (Writes-then last _ _ c.in_ok-write_all.ensures (Writes-then last _ _ c.in_ok-write_contracts.ensures c.write_line.ensures))
