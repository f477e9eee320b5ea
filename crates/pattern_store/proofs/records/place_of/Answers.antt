use Rattle.std.proofs.Common.{below_more, arith}
use Rattle.pattern_store.proofs.records.place_of.Goals as goal
use Rattle.pattern_store.proofs.records.place_of.Goals.{else-need-via-then-need+else-agrees, else-need-via-else-need}

pub loop-place-preserved : goal.loop-place-preserved
loop-place-preserved g c =
    below_more _ _ c.loop-place.invariant
    (λ enough. elim c.else-need.branch [
      | else-need-via-then-need+else-agrees w ↦ w.agrees.ensures.differs w.if-agrees.false
      | else-need-via-else-need w ↦ absurd (omega (arith, enough, w.if-need.false, c.need.ensures))
    ])
