use Rattle.std.proofs.Common.{◌∷◌, [], List, ℕ, subst, ◌∙◌}
use Rattle.std.specs.Prelude.{codes}
use Rattle.cards.specs.Devices.{Adds, AddsBeginning}
use Rattle.cards.proofs.DeviceLemmas.{Adds-twice}
use Rattle.cards.proofs.WriteLemmas.{AddsBeginning-stop, AddsBeginning-then, Writes-then, Writes-err}
use Rattle.run_ends.specs.Explanations.{reason_text}
use Rattle.run_ends.proofs.explanations.write_opening.Goals as goal

pub returns-in_err-write_name : goal.returns-in_err-write_name
returns-in_err-write_name g c =
    rw c.in-Some.is
    (Writes-err c.from_residual-in_err-write_name.result _ c.from_residual-in_err-write_name.ensures.1
    (AddsBeginning-stop (10 ∷ [])
    (AddsBeginning-stop (reason_text c.args.why)
    (AddsBeginning-stop (codes ": ") (AddsBeginning-then c.in_ok-write_all.ensures c.in_err-write_name.ensures)))))

pub returns-in_err-write_all-2 : goal.returns-in_err-write_all-2
returns-in_err-write_all-2 g c =
    rw c.in-Some.is
    (Writes-err c.from_residual-in_err-write_all-2.result _ c.from_residual-in_err-write_all-2.ensures.1
    (AddsBeginning-stop (10 ∷ [])
    (AddsBeginning-stop (reason_text c.args.why)
    (AddsBeginning-then (Adds-twice c.in_ok-write_all.ensures c.in_ok-write_name.ensures) c.in_err-write_all-2.ensures))))

pub returns-in_err-write_all-3 : goal.returns-in_err-write_all-3
returns-in_err-write_all-3 g c =
    let reason =
    subst (λ (t : List ℕ). AddsBeginning (g.E.Sink.state c.write_all-2.new.sink) (g.E.Sink.state c.write_all-3.new.sink) t)
    (c.as_bytes.ensures.value ∙ c.reason_text-2.ensures) c.in_err-write_all-3.ensures in
    rw c.in-Some.is
    (Writes-err c.from_residual-in_err-write_all-3.result _ c.from_residual-in_err-write_all-3.ensures.1
    (AddsBeginning-stop (10 ∷ [])
    (AddsBeginning-then (Adds-twice (Adds-twice c.in_ok-write_all.ensures c.in_ok-write_name.ensures) c.in_ok-write_all-2.ensures) reason)))

pub returns : goal.returns
returns g c =
    let reason =
    subst (λ (t : List ℕ). Adds (g.E.Sink.state c.write_all-2.new.sink) (g.E.Sink.state c.write_all-3.new.sink) t)
    (c.as_bytes.ensures.value ∙ c.reason_text-2.ensures) c.in_ok-write_all-3.ensures in
    rw c.in-Some.is
    (Writes-then c.write_all-4.result _ _
    (Adds-twice (Adds-twice (Adds-twice c.in_ok-write_all.ensures c.in_ok-write_name.ensures) c.in_ok-write_all-2.ensures) reason)
    c.write_all-4.ensures)
