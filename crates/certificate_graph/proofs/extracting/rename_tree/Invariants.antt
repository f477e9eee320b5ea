-- The tokens so far are the first ones, renamed.
use Rattle.std.proofs.Common.{◌≡◌, map, take}
use Rattle.certificate_graph.specs.Extracts.{exchanged}
use Rattle.certificate_graph.specs.RowNames.{rename_token}
use Rattle.certificate_graph.proofs.extracting.rename_tree.Given as goal

abbrev pub invariant-loop-token : goal.invariant-loop-token
invariant-loop-token l = l.renamed.items ≡ map (rename_token (exchanged l.root)) (take l.token-index l.row)
