-- The lines are those of the values so far.
use Rattle.std.proofs.Common.{◌+◌}
use Rattle.dds_calls.specs.Lines.{HasLines}
use Rattle.dds_calls.proofs.lines.with_worth.Given as goal

abbrev pub invariant-loop-value : goal.invariant-loop-value
invariant-loop-value l = HasLines l.fn.layout l.fn.player l.fn.values (l.fn.tricks + 1) l.value-index l.lines.items
