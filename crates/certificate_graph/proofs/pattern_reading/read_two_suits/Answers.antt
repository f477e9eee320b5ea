use Rattle.certificate_graph.proofs.PatternLemmas.{two_suits_by_second}
use Rattle.certificate_graph.proofs.pattern_reading.read_two_suits.Goals as goal

pub returns-in_default-read_suit : goal.returns-in_default-read_suit
returns-in_default-read_suit c =
    two_suits_by_second c.args.text.now _ _ c.in-Some.ensures.1 c.in_default-read_suit.ensures
