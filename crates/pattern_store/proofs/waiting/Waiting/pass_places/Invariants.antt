-- What the block and what waits have become since the first place.
use Rattle.std.proofs.Common.{◌≡◌}
use Rattle.pattern_store.specs.Blocks.{Passes, LosesServed}
use Rattle.pattern_store.proofs.waiting.Waiting.pass_places.Given as goal

abbrev pub invariant-loop-place : goal.invariant-loop-place
invariant-loop-place l = record {
  passes : Passes l.fn.block l.block l.fn.self.moved l.self.moved;
  loses : LosesServed l.fn.self.told l.fn.block l.block l.fn.self.moved l.self.moved;
  told : l.self.told ≡ l.fn.self.told;
}
