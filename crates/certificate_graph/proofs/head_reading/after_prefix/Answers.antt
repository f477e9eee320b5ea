use Rattle.std.specs.Cmp.{unsigned_Decides}
use Rattle.std.proofs.lemmas.Slice.Eq.{strip_prefix_is}
use Rattle.certificate_graph.proofs.head_reading.after_prefix.Goals as goal

pub returns : goal.returns
returns c = strip_prefix_is unsigned_Decides c.args.text.now c.args.prefix.now c.strip_prefix.result c.strip_prefix.ensures.cases
