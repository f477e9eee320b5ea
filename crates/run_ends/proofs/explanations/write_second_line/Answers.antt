use Rattle.std.proofs.Common.{◌≡◌, ◌∷◌, [], List, ℕ, subst}
use Rattle.cards.specs.Devices.{Adds, AddsBeginning}
use Rattle.cards.proofs.DeviceLemmas.{Adds-twice}
use Rattle.cards.proofs.WriteLemmas.{AddsBeginning-stop, AddsBeginning-then, Writes-then, Writes-err}
use Rattle.run_ends.proofs.ExplainLaws.{no_text, second_line-text}
use Rattle.run_ends.proofs.explanations.write_second_line.Goals as goal

pub returns-in_err-write_all-2 : goal.returns-in_err-write_all-2
returns-in_err-write_all-2 g c =
    let some : c.args.text.now ≡ [] → ⊥ = λ e. no_text (c.is_empty.ensures) c.if-is_empty.false e in
    let middle =
    subst (λ (t : List ℕ). AddsBeginning (g.E.Sink.state c.write_all.new.sink) (g.E.Sink.state c.write_all-2.new.sink) t)
    c.as_bytes.ensures.value c.in_err-write_all-2.ensures in
    rw (second_line-text c.args.text.now some)
    (Writes-err c.from_residual-in_err-write_all-2.result _ c.from_residual-in_err-write_all-2.ensures.1
    (AddsBeginning-stop (10 ∷ []) (AddsBeginning-then c.in_ok-write_all.ensures middle)))

pub returns : goal.returns
returns g c =
    let some : c.args.text.now ≡ [] → ⊥ = λ e. no_text (c.is_empty.ensures) c.if-is_empty.false e in
    let middle =
    subst (λ (t : List ℕ). Adds (g.E.Sink.state c.write_all.new.sink) (g.E.Sink.state c.write_all-2.new.sink) t)
    c.as_bytes.ensures.value c.in_ok-write_all-2.ensures in
    rw (second_line-text c.args.text.now some)
    (Writes-then c.write_all-3.result _ _ (Adds-twice c.in_ok-write_all.ensures middle) c.write_all-3.ensures)
