use Rattle.std.proofs.Common.{◌∙◌}
use Rattle.certificate_play.specs.Promises.{Promise}
use Rattle.certificate_play.specs.Steps.{IsKeptIn}
use Rattle.certificate_play.proofs.CopyLaws.{copy_keeps}
use Rattle.certificate_play.proofs.playing.Playing.copy.Goals as goal
use Rattle.certificate_play.proofs.playing.Playing.copy.Goals.{in-Some, in-None}

pub invariant_of-result : goal.invariant_of-result
invariant_of-result c =
    let promise : Promise = record { position = c.self.inside.table; side = c.self.inside.side; tricks = c.self.inside.promised } in
    let kept : IsKeptIn promise c.match-self.step = elim c.match-self.branch [
      | in-Some w ↦ rw w.step-is (copy_keeps promise w.in-Some.step w.copy.result w.copy.ensures (rw w.in-Some.is at c.self.invariant.kept))
      | in-None w ↦ rw w.step-is (rw w.in-None.is at c.self.invariant.kept)
    ] in
    rw c.same_table.ensures (record {
      reached = c.self.invariant.reached;
      layout_is = c.self.invariant.layout_is;
      history_is = c.same_history.ensures ∙ c.self.invariant.history_is;
      kept = kept;
    })
