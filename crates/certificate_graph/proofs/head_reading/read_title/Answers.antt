use Rattle.certificate_graph.proofs.HeadLemmas.{no_title}
use Rattle.certificate_graph.proofs.head_reading.read_title.Goals as goal

pub returns-in_default-after_prefix : goal.returns-in_default-after_prefix
returns-in_default-after_prefix c =
    no_title c.args.text.now (rw c.title_line.ensures at c.in_default.ensures) (rw c.title_line-2.ensures at c.in_default-after_prefix.ensures)
