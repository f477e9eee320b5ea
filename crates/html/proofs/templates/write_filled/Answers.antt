use Rattle.std.proofs.Common.{ℕ, List, ◌++◌, subst, ◌∙◌, append_assoc}
use Rattle.cards.specs.Devices.{Adds, AddsBeginning}
use Rattle.cards.proofs.DeviceLemmas.{Adds-twice}
use Rattle.cards.proofs.WriteLemmas.{AddsBeginning-stop, AddsBeginning-then, Writes-err}
use Rattle.html.specs.Values.{value_text}
use Rattle.html.specs.Templates.{filled}
use Rattle.html.proofs.FilledParts.{begins, last, unended, valued}
use Rattle.html.proofs.templates.write_filled.Goals as goal

pub returns-in_err-write_all : goal.returns-in_err-write_all
returns-in_err-write_all g c =
    let (gone, added, whole) = c.loop-place.invariant in
    let values = g.V.Values.values c.args.values.now in
    let text = c.cut.result.0.now in
    let beginning = begins values gone c.loop-place.rest.now text (filled values c.args.template.now) c.cut.ensures.before whole c.cut.result.1 c.cut.ensures.after in
    Writes-err c.from_residual.result _ c.from_residual.ensures.1
    (subst (λ (t : List ℕ). AddsBeginning (g.S.Sink.state c.args.sink.now) (g.S.Sink.state c.write_all.new.sink) t) beginning.is
    (AddsBeginning-then added (AddsBeginning-stop beginning.more c.in_err-write_all.ensures)))

pub returns-in_default : goal.returns-in_default
returns-in_default g c =
    let (gone, added, whole) = c.loop-place.invariant in
    let values = g.V.Values.values c.args.values.now in
    subst (λ (t : List ℕ). Adds (g.S.Sink.state c.args.sink.now) (g.S.Sink.state c.write_all.new.sink) t)
    (last values gone c.loop-place.rest.now c.cut.result.0.now (filled values c.args.template.now) c.cut.ensures.before whole
    (rw c.in_default.is at c.cut.ensures.after))
    (Adds-twice added c.in_ok-write_all.ensures)

pub returns-in_default-after : goal.returns-in_default-after
returns-in_default-after g c =
    let (gone, added, whole) = c.loop-place.invariant in
    let values = g.V.Values.values c.args.values.now in
    subst (λ (t : List ℕ). Adds (g.S.Sink.state c.args.sink.now) (g.S.Sink.state c.write_all.new.sink) t)
    (unended values gone c.loop-place.rest.now c.cut.result.0.now (filled values c.args.template.now) c.cut.ensures.before whole
    c.in-Some.place.now c.cut-in-loop-place.result.0.now (rw c.in-Some.is at c.cut.ensures.after)
    c.cut-in-loop-place.ensures.before (rw c.in_default-after.is at c.cut-in-loop-place.ensures.after))
    (Adds-twice added c.in_ok-write_all.ensures)

pub returns-in_err-write : goal.returns-in_err-write
returns-in_err-write g c =
    let (gone, added, whole) = c.loop-place.invariant in
    let values = g.V.Values.values c.args.values.now in
    let is = valued values gone c.loop-place.rest.now c.cut.result.0.now (filled values c.args.template.now) c.cut.ensures.before whole c.in-Some.place.now c.cut-in-loop-place.result.0.now (rw c.in-Some.is at c.cut.ensures.after) c.cut-in-loop-place.ensures.before c.in-Some-after.after.now (rw c.in-Some-after.is at c.cut-in-loop-place.ensures.after) in
    Writes-err c.from_residual-in_err-write.result _ c.from_residual-in_err-write.ensures.1
    (subst (λ (t : List ℕ). AddsBeginning (g.S.Sink.state c.args.sink.now) (g.S.Sink.state c.write.new.sink) t) is
    (AddsBeginning-then (Adds-twice added c.in_ok-write_all.ensures)
    (AddsBeginning-stop (filled values c.in-Some-after.after.now) c.in_err-write.ensures)))

pub loop-place-preserved : goal.loop-place-preserved
loop-place-preserved g c =
    let (gone, added, whole) = c.loop-place.invariant in
    let values = g.V.Values.values c.args.values.now in
    let text = c.cut.result.0.now in
    let value = value_text (values c.cut-in-loop-place.result.0.now) in
    let rest = filled values c.in-Some-after.after.now in
    let is = valued values gone c.loop-place.rest.now text (filled values c.args.template.now) c.cut.ensures.before whole c.in-Some.place.now c.cut-in-loop-place.result.0.now (rw c.in-Some.is at c.cut.ensures.after) c.cut-in-loop-place.ensures.before c.in-Some-after.after.now (rw c.in-Some-after.is at c.cut-in-loop-place.ensures.after) in (
      (gone ++ text) ++ value,
      Adds-twice (Adds-twice added c.in_ok-write_all.ensures) c.in_ok-write.ensures,
      append_assoc (gone ++ text) value rest ∙ is,
    )
