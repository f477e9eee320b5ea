use Rattle.std.proofs.Common.{arith}
use Rattle.cards.proofs.WriteLemmas.{Adds-none, Writes-err}
use Rattle.play_pages.proofs.PieceLaws.{gone_more, gone_partly, all_gone}
use Rattle.play_pages.proofs.pages.write_lines.Goals as goal

pub loop-place-init : goal.loop-place-init
loop-place-init g c = record { gone = Adds-none (g.S.Sink.state c.args.sink.now) }

pub returns-in_err-write_asked : goal.returns-in_err-write_asked
returns-in_err-write_asked g c =
    Writes-err c.from_residual.result _ c.from_residual.ensures.1
    (gone_partly c.args.mistakes c.args.lines.now c.loop-place.place _ _ _ _ (omega arith) c.loop-place.invariant c.in_err-write_asked.ensures)

pub loop-place-preserved : goal.loop-place-preserved
loop-place-preserved g c =
    gone_more c.args.mistakes c.args.lines.now c.loop-place.place _ _ _ _ (omega arith) c.loop-place.invariant c.in_ok-write_asked.ensures

pub returns : goal.returns
returns g c = all_gone c.args.mistakes c.args.lines.now c.loop-place.place _ _ (omega arith) c.loop-place.invariant
