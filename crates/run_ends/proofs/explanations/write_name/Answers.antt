use Rattle.std.proofs.Common.{[], ◌∷◌, ℕ, List, arith, get_or, ap, ◌∙◌, subst}
use Rattle.cards.specs.Devices.{AddsBeginning}
use Rattle.cards.proofs.WriteLemmas.{AddsBeginning-piece, Writes-err}
use Rattle.run_ends.specs.Explanations.{shown_byte}
use Rattle.run_ends.proofs.explanations.write_name.Goals as goal

pub returns-in_err-write_all : goal.returns-in_err-write_all
returns-in_err-write_all g c =
    let is =
    c.shown_byte.ensures
    ∙ ap (λ (name : List ℕ). shown_byte (get_or name c.loop-byte.byte-index 0)) c.as_bytes-byte-items.ensures.value in
    let piece =
    subst (λ (byte : ℕ). AddsBeginning (g.E.Sink.state c.loop-byte.errors) (g.E.Sink.state c.write_all.new.sink) (byte ∷ []))
    is c.in_err-write_all.ensures in
    Writes-err c.from_residual.result _ c.from_residual.ensures.1
    (AddsBeginning-piece (λ byte. shown_byte byte ∷ []) c.args.name.now c.loop-byte.byte-index 0 (omega arith) c.loop-byte.invariant piece)
