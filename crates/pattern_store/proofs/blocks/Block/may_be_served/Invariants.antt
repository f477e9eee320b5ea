-- Whether one of the records so far may be served.
use Rattle.std.proofs.Common.{◌<◌, ◌↔◌, ℕ, IsTrue}
use Rattle.pattern_store.specs.Blocks.{record_at}
use Rattle.pattern_store.specs.Record.{NamesNoMoreNear}
use Rattle.pattern_store.proofs.blocks.Block.may_be_served.Given as goal

abbrev pub invariant-loop-place : goal.invariant-loop-place
invariant-loop-place l = IsTrue l.served ↔ ((place : ℕ) × (place < l.place) × NamesNoMoreNear l.new (record_at l.self place))
