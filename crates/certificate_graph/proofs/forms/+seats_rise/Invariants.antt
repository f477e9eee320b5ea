use Rattle.std.proofs.Common.{length}
use Rattle.certificate_graph.proofs.forms.+seats_rise.Given as goal

abbrev pub decreases-seats_rise : goal.decreases-seats_rise
decreases-seats_rise l = length l.children.now
