-- The records so far that let the side win as much differ.
use Rattle.std.proofs.Common.{◌<◌, ◌≤◌, ℕ}
use Rattle.pattern_store.specs.Blocks.{record_at}
use Rattle.pattern_store.specs.Record.{Differs}
use Rattle.pattern_store.proofs.records.place_of.Given as goal

abbrev pub invariant-loop-place : goal.invariant-loop-place
invariant-loop-place g l = (place : ℕ) → place < l.place → l.need ≤ (record_at l.block place).need → Differs (record_at l.block place) l.near (g.F.Fn.post l.deep (tt {0}))
