-- Whether one of the records so far agrees.
use Rattle.std.proofs.Common.{◌<◌, ◌↔◌, ℕ, IsTrue}
use Rattle.pattern_store.specs.Blocks.{record_at}
use Rattle.pattern_store.specs.Record.{AgreesNear}
use Rattle.pattern_store.proofs.blocks.Block.may_agree.Given as goal

abbrev pub invariant-loop-place : goal.invariant-loop-place
invariant-loop-place l = IsTrue l.agrees ↔ ((place : ℕ) × (place < l.place) × AgreesNear (record_at l.self place) l.near)
