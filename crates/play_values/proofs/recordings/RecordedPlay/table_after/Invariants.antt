-- The first cards so far were played.
use Rattle.std.proofs.Common.{◌≡◌}
use Rattle.play_values.specs.PlayValues.{first_cards}
use Rattle.play_values.proofs.recordings.RecordedPlay.table_after.Given as goal

abbrev pub invariant-loop-place : goal.invariant-loop-place
invariant-loop-place l = l.table ≡ record l.self.position { history = first_cards l.self l.place }
