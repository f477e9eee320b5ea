use Rattle.std.proofs.Common.{arith}
use Rattle.play_values.proofs.KeptLaws.{can_play_next}
use Rattle.play_values.proofs.recordings.RecordedPlay.table_after.Goals as goal

pub after-table-requires-clause-legal : goal.after-table-requires-clause-legal
after-table-requires-clause-legal c =
    can_play_next c.args.self.now.position c.loop-place.table c.cards-cards.result.now c.loop-place.place _ c.invariant.ensures c.cards-cards.ensures (omega (arith, c.loop-place-test.true, c.requires)) c.loop-place.invariant
