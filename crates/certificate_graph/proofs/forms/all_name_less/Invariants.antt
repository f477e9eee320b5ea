use Rattle.std.proofs.Common.{take, All}
use Rattle.certificate_graph.specs.RowNames.{NamesLess}
use Rattle.certificate_graph.proofs.forms.all_name_less.Given as goal

abbrev pub invariant-loop-token : goal.invariant-loop-token
invariant-loop-token l = All (NamesLess l.count) (take l.token-index l.row)
