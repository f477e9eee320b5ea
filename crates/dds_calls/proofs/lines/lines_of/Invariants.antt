-- The lines are those of more tricks.
use Rattle.std.proofs.Common.{◌-◌}
use Rattle.dds_calls.specs.Lines.{HasLines}
use Rattle.dds_calls.proofs.lines.lines_of.Given as goal

abbrev pub invariant-loop-lack : goal.invariant-loop-lack
invariant-loop-lack l = HasLines l.fn.layout l.fn.player l.fn.values (14 - l.lack) 0 l.lines.items
