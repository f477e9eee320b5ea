use Rattle.certificate_graph.proofs.HeadLemmas.{no_side}
use Rattle.certificate_graph.proofs.head_reading.read_side.Goals as goal

pub returns-in_default-after_prefix : goal.returns-in_default-after_prefix
returns-in_default-after_prefix c =
    no_side c.args.text.now (rw c.side_line.ensures at c.in_default.ensures) (rw c.side_line-2.ensures at c.in_default-after_prefix.ensures)
