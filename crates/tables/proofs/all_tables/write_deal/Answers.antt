use Rattle.std.proofs.Common.{◌∷◌, ◌++◌, []}
use Rattle.cards.proofs.WriteLemmas.{AddsBeginning-stop, AddsBeginning-then, Writes-then, Writes-err}
use Rattle.pbn_deals.specs.DealText.{deal_text}
use Rattle.tables.proofs.all_tables.write_deal.Goals as goal

pub returns-in_err-write_all-in-Some : goal.returns-in_err-write_all-in-Some
returns-in_err-write_all-in-Some g c =
    rw c.in-Some.is
    (Writes-err c.from_residual.result _ c.from_residual.ensures.1
    (AddsBeginning-stop (deal_text c.in-Some.layout ++ (34 ∷ 93 ∷ 10 ∷ [])) c.in_err-write_all-in-Some.ensures))

pub returns-in_err-write_layout-in-Some : goal.returns-in_err-write_layout-in-Some
returns-in_err-write_layout-in-Some g c =
    rw c.in-Some.is
    (Writes-err c.from_residual-in_err-write_layout-in-Some.result _ c.from_residual-in_err-write_layout-in-Some.ensures.1
    (AddsBeginning-then c.in_ok-write_all-in-Some.ensures (AddsBeginning-stop (34 ∷ 93 ∷ 10 ∷ []) c.in_err-write_layout-in-Some.ensures)))

pub returns-in_ok-write_layout-in-Some : goal.returns-in_ok-write_layout-in-Some
returns-in_ok-write_layout-in-Some g c =
    let last = c.write_all-in-Some.result in
    rw c.in-Some.is
    (Writes-then last _ _ c.in_ok-write_all-in-Some.ensures
    (Writes-then last _ _ c.in_ok-write_layout-in-Some.ensures c.write_all-in-Some.ensures))
