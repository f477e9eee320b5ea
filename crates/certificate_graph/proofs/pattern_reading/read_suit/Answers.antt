use Rattle.certificate_graph.proofs.PatternLemmas.{suit_by_owners, suit_begun}
use Rattle.certificate_graph.proofs.pattern_reading.read_suit.Goals as goal

pub returns-then-not-read_owners : goal.returns-then-not-read_owners
returns-then-not-read_owners c =
    let first = c.in-Some.ensures in
    suit_by_owners c.args.text.now first.0 _ first.1 c.if-not-read_owners.ensures

pub returns : goal.returns
returns c =
    let first = c.in-Some.ensures in
    let begins = c.if-not-read_owners.ensures in
    suit_begun c.args.text.now first.0 _ c.in-Some.lens _ begins.0 _ first.1 first.2 begins.1 begins.2 begins.3
