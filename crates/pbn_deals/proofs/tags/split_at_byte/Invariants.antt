-- The byte has not come yet.
use Rattle.std.proofs.Common.{take}
use Rattle.pbn_deals.specs.Reading.{Lacks}
use Rattle.pbn_deals.proofs.tags.split_at_byte.Given as goal

abbrev pub invariant-loop-i : goal.invariant-loop-i
invariant-loop-i l = Lacks l.byte (take l.i l.text)
