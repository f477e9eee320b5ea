use Rattle.std.proofs.Common.{List, ℕ, subst, sym, ◌∙◌, arith}
use Rattle.cards.specs.Devices.{Adds, AddsBeginning}
use Rattle.cards.proofs.WriteLemmas.{AddsBeginning-piece, Writes-err, pieces-all}
use Rattle.html.proofs.CharTexts.{shown_text, chars_text-flat}
use Rattle.html.proofs.values.write_bytes.Goals as goal

pub returns-in_err-write_char : goal.returns-in_err-write_char
returns-in_err-write_char g c =
    let bytes = c.args.bytes.now in
    Writes-err c.from_residual.result _ c.from_residual.ensures.1
    (subst (λ (t : List ℕ). AddsBeginning (g.S.Sink.state c.args.sink.now) (g.S.Sink.state c.write_char.new.sink) t)
    (sym (chars_text-flat bytes))
    (AddsBeginning-piece shown_text bytes c.loop-byte.byte-index 0 (omega arith) c.loop-byte.invariant c.in_err-write_char.ensures))

pub returns : goal.returns
returns g c =
    let bytes = c.args.bytes.now in
    subst (λ (t : List ℕ). Adds (g.S.Sink.state c.args.sink.now) (g.S.Sink.state c.loop-byte.sink) t)
    (pieces-all shown_text bytes c.loop-byte.byte-index (omega arith) ∙ sym (chars_text-flat bytes))
    c.loop-byte.invariant
