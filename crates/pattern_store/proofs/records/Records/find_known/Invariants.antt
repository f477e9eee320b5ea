-- The first record that was found is one.
use Rattle.std.proofs.Common.{IfSome}
use Rattle.pattern_store.specs.Record.{IsKnown}
use Rattle.pattern_store.specs.Records.{Finds}
use Rattle.pattern_store.proofs.records.Records.find_known.Given as goal

abbrev pub invariant-loop-number : goal.invariant-loop-number
invariant-loop-number g l = IfSome l.first (Finds l.fn.self l.fn.list l.fn.need (λ r. IsKnown r l.fn.owners l.fn.known))

abbrev pub invariant-loop-place : goal.invariant-loop-place
invariant-loop-place g l = IfSome l.first (Finds l.fn.self l.fn.list l.fn.need (λ r. IsKnown r l.fn.owners l.fn.known))
