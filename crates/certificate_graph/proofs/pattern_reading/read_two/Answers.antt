use Rattle.certificate_graph.proofs.PatternLemmas.{two_by_second}
use Rattle.certificate_graph.proofs.pattern_reading.read_two.Goals as goal

pub returns-in_default-read_len : goal.returns-in_default-read_len
returns-in_default-read_len c =
    two_by_second c.args.first c.args.second c.args.text.now _ _ c.requires.first c.in-Some.ensures c.in_default-read_len.ensures
