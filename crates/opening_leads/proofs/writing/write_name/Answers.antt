use Rattle.std.proofs.Common.{◌∷◌, ◌++◌, []}
use Rattle.cards.proofs.WriteLemmas.{AddsBeginning-stop, AddsBeginning-then, Writes-then, Writes-err}
use Rattle.opening_leads.proofs.writing.write_name.Goals as goal

pub returns-in_err-write_all : goal.returns-in_err-write_all
returns-in_err-write_all g c =
    Writes-err c.from_residual.result _ c.from_residual.ensures.1
    (AddsBeginning-stop (c.args.name.now ++ (34 ∷ 93 ∷ 10 ∷ [])) c.in_err-write_all.ensures)

pub returns-in_err-write_all-2 : goal.returns-in_err-write_all-2
returns-in_err-write_all-2 g c =
    let name = rw c.as_bytes.ensures at c.in_err-write_all-2.ensures in
    Writes-err c.from_residual-in_err-write_all-2.result _ c.from_residual-in_err-write_all-2.ensures.1
    (AddsBeginning-then c.in_ok-write_all.ensures (AddsBeginning-stop (34 ∷ 93 ∷ 10 ∷ []) name))

pub returns : goal.returns
returns g c =
    let name = rw c.as_bytes.ensures at c.in_ok-write_all-2.ensures in
    let last = c.write_all-3.result in
    Writes-then last _ _ c.in_ok-write_all.ensures (Writes-then last _ _ name c.write_all-3.ensures)
