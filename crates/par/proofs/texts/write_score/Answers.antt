use Rattle.std.proofs.Common.{◌∙◌, ap}
use Rattle.std.specs.Prelude.{unsigned_abs}
use Rattle.std.specs.Int.{w32}
use Rattle.std.proofs.lemmas.Int.{to_z-of_z}
use Rattle.cards.proofs.WriteLemmas.{AddsBeginning-stop, AddsBeginning-then, Writes-then, Writes-err}
use Rattle.par.specs.Texts.{gaining_side}
use Rattle.par.proofs.texts.write_score.Goals as goal

pub returns-in_err-write_all : goal.returns-in_err-write_all
returns-in_err-write_all g c =
    let side = rw (c.gaining_side.ensures ∙ ap gaining_side (to_z-of_z w32 c.args.par c.ranges.par)) at (rw c.letters.ensures at (rw c.as_bytes.ensures.value at c.in_err-write_all.ensures)) in
    Writes-err c.from_residual.result _ c.from_residual.ensures.1 (AddsBeginning-stop _ side)

pub returns-in_err-write_all-2 : goal.returns-in_err-write_all-2
returns-in_err-write_all-2 g c =
    let side = rw (c.gaining_side.ensures ∙ ap gaining_side (to_z-of_z w32 c.args.par c.ranges.par)) at (rw c.letters.ensures at (rw c.as_bytes.ensures.value at c.in_ok-write_all.ensures)) in
    Writes-err c.from_residual-in_err-write_all-2.result _ c.from_residual-in_err-write_all-2.ensures.1
    (AddsBeginning-then side (AddsBeginning-stop _ c.in_err-write_all-2.ensures))

pub returns : goal.returns
returns g c =
    let last = c.write_number.result in
    let side = rw (c.gaining_side.ensures ∙ ap gaining_side (to_z-of_z w32 c.args.par c.ranges.par)) at (rw c.letters.ensures at (rw c.as_bytes.ensures.value at c.in_ok-write_all.ensures)) in
    let number = rw (c.unsigned_abs.ensures.value ∙ ap unsigned_abs (to_z-of_z w32 c.args.par c.ranges.par)) at c.write_number.ensures in
    Writes-then last _ _ side (Writes-then last _ _ c.in_ok-write_all-2.ensures number)
