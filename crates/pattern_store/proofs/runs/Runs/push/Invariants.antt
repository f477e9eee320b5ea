-- What lists have they had.
use Rattle.std.proofs.Common.{◌≡◌}
use Rattle.pattern_store.specs.Records.{Keeps}
use Rattle.pattern_store.proofs.runs.Runs.push.Given as goal

abbrev pub invariant-loop : goal.invariant-loop
invariant-loop l = record {
  keeps : Keeps l.fn.self.blocks.items l.self.blocks.items l.fn.self.room;
  room : l.self.room ≡ l.fn.self.room;
}
