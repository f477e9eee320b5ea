-- The code of the fault is what is answered.
use Rattle.std.proofs.Common.{◌≡◌, ℤ, arith, inr, refl, subst}
use Rattle.std.proofs.lemmas.Int.{ints}
use mir.Syntax.{w32, w64}
use mir.Val.{of_z, to_z}
use Rattle.dds_calls.specs.Tables.{IsRowFault, row_code}
use Rattle.dds_calls.proofs.sections.ddfarm_evidence_section.Goals as goal

pub returns-in-Err : goal.returns-in-Err
returns-in-Err c =
    let fault = c.in-Err.fault in
    let code : to_z w64 (of_z w64 c.from.result) ≡ row_code fault = omega (arith, ints, c.from.ensures, c.code.ensures) in
    let strain : to_z w32 (of_z w32 c.args.strain) ≡ c.args.strain = omega (arith, ints) in
    let P : ℤ → Type 0 = λ z. IsRowFault c.args.deal.now z fault in
    inr (fault, code, subst P strain c.in-Err.ensures, refl)
