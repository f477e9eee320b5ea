use Rattle.std.proofs.Common.{◌≡◌, ◌∙◌, ◌∷◌, [], append_assoc}
use Rattle.std.specs.Fmt.{decimal}
use Rattle.pbn_deals.specs.Faults.{fault_number, fault_name}
use Rattle.cards.proofs.DeviceLemmas.{Adds-twice}
use Rattle.cards.proofs.WriteLemmas.{AddsBeginning-stop, AddsBeginning-then, Writes-then, Writes-err}
use Rattle.run_ends.proofs.refusals.write_refusal.Goals as goal

pub returns-in_err-write_number : goal.returns-in_err-write_number
returns-in_err-write_number g c =
    let number : c.from.result ≡ fault_number c.args.refusal = c.from.ensures ∙ c.number.ensures in
    let first = rw number at c.in_err-write_number.ensures in
    Writes-err c.from_residual.result _ c.from_residual.ensures.1 (AddsBeginning-stop _ first)

pub returns-in_err-write_all : goal.returns-in_err-write_all
returns-in_err-write_all g c =
    let number : c.from.result ≡ fault_number c.args.refusal = c.from.ensures ∙ c.number.ensures in
    let first = rw number at c.in_ok-write_number.ensures in
    let both = AddsBeginning-stop (fault_name c.args.refusal) (AddsBeginning-then first c.in_err-write_all.ensures) in
    Writes-err c.from_residual-in_err-write_all.result _ c.from_residual-in_err-write_all.ensures.1
    (rw (append_assoc (decimal (fault_number c.args.refusal)) (32 ∷ []) (fault_name c.args.refusal)) at both)

pub returns : goal.returns
returns g c =
    let number : c.from.result ≡ fault_number c.args.refusal = c.from.ensures ∙ c.number.ensures in
    let first = rw number at c.in_ok-write_number.ensures in
    let name : c.as_bytes.result.now ≡ fault_name c.args.refusal = c.as_bytes.ensures.value ∙ c.name.ensures in
    let last = rw name at c.write_all-2.ensures in
    let all = Writes-then c.write_all-2.result _ _ (Adds-twice first c.in_ok-write_all.ensures) last in
    rw (append_assoc (decimal (fault_number c.args.refusal)) (32 ∷ []) (fault_name c.args.refusal)) at all
