-- Whether one of the records so far names more.
use Rattle.std.proofs.Common.{◌<◌, ◌↔◌, ℕ, IsTrue}
use Rattle.pattern_store.specs.Blocks.{record_at}
use Rattle.pattern_store.specs.Record.{NamesOver}
use Rattle.pattern_store.proofs.blocks.Block.names_more.Given as goal

abbrev pub invariant-loop-place : goal.invariant-loop-place
invariant-loop-place l = IsTrue l.more ↔ ((place : ℕ) × (place < l.place) × NamesOver l.named (record_at l.self place))
