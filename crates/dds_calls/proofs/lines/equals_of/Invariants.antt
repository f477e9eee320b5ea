-- The bits so far are those of the cards so far.
use Rattle.std.proofs.Common.{take}
use Rattle.dds_calls.specs.Lines.{AreEquals}
use Rattle.dds_calls.proofs.lines.equals_of.Given as goal

abbrev pub invariant-loop-other : goal.invariant-loop-other
invariant-loop-other l = AreEquals l.fn.layout l.fn.player (take l.other-index l.fn.values) l.fn.value l.equals
