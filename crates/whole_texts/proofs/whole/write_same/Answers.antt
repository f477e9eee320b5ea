use Rattle.std.proofs.Common.{subst}
use Rattle.cards.specs.Devices.{AddsBeginning, Writes}
use Rattle.cards.proofs.WriteLemmas.{AddsBeginning-stop, Writes-then, Writes-err}
use Rattle.whole_texts.proofs.LineCuts.{lines_bytes}
use Rattle.whole_texts.proofs.whole.write_same.Goals as goal

pub returns-in_err-write_all : goal.returns-in_err-write_all
returns-in_err-write_all g c = λ old lines h.
    let game = c.args.game.now in
    Writes-err c.from_residual.result _ c.from_residual.ensures.1
    (subst (λ t. AddsBeginning (g.S.Sink.state c.args.sink.now) (g.S.Sink.state c.write_all.new.sink) t) (lines_bytes _ lines h.read)
    (AddsBeginning-stop game.back.now c.in_err-write_all.ensures))

pub returns : goal.returns
returns g c = λ old lines h.
    subst (λ t. Writes (g.S.Sink.state c.args.sink.now) (g.S.Sink.state c.write_all-2.new.sink) t c.write_all-2.result) (lines_bytes _ lines h.read)
    (Writes-then c.write_all-2.result _ _ c.in_ok-write_all.ensures c.write_all-2.ensures)
