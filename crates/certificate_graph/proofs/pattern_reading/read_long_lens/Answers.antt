use Rattle.certificate_graph.proofs.PatternLemmas.{lens_by_first, lens_by_second}
use Rattle.certificate_graph.proofs.pattern_reading.read_long_lens.Goals as goal

pub returns-in_default : goal.returns-in_default
returns-in_default c = lens_by_first c.args.text.now c.in_default.ensures

pub returns-in_default-read_two : goal.returns-in_default-read_two
returns-in_default-read_two c = lens_by_second c.args.text.now _ _ _ c.in-Some.ensures c.in_default-read_two.ensures
