-- What the rest of the line does, the line does.
use Rattle.std.proofs.Common.{false, length}
use Rattle.pbn_deals.specs.Views.{tags_seen}
use Rattle.pbn_deals.specs.Reading.{LineEnd, Scans}
use Rattle.pbn_deals.proofs.line_reader.read_line.Given as goal

abbrev pub invariant-loop-first : goal.invariant-loop-first
invariant-loop-first l =
    (last : LineEnd) → Scans l.number l.count l.in_data (tags_seen l.tags) l.rest last → Scans l.number l.count false (tags_seen l.fn.tags) l.line last

abbrev pub decreases-loop-first : goal.decreases-loop-first
decreases-loop-first l = length l.rest
