-- Nothing changes.
use Rattle.std.specs.Prelude.{⊤}
use Rattle.pattern_store.proofs.records.Records.find.Given as goal

abbrev pub invariant-loop-number : goal.invariant-loop-number
invariant-loop-number g l = ⊤
