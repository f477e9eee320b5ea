use Rattle.certificate_graph.proofs.PatternLemmas.{pattern_by_first, pattern_by_second}
use Rattle.certificate_graph.proofs.pattern_reading.read_suits.Goals as goal

pub returns-in_default : goal.returns-in_default
returns-in_default c = pattern_by_first c.args.text.now c.in_default.ensures

pub returns-in_default-read_two_suits : goal.returns-in_default-read_two_suits
returns-in_default-read_two_suits c =
    pattern_by_second c.args.text.now _ _ _ c.in-Some.ensures.2 c.in_default-read_two_suits.ensures
