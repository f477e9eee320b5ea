use Rattle.std.proofs.Common.{◌∷◌, [], sym}
use Rattle.patterns.specs.Shapes.{suit_of}
use Rattle.certificate_graph.proofs.TextParts.{suit-cut}
use Rattle.cards.proofs.WriteLemmas.{Writes-then}
use Rattle.certificate_graph.proofs.WriteLemmas.{writes_same, stops_within}
use Rattle.certificate_graph.proofs.writing.write_suit_and_blank.Goals as goal

pub returns : goal.returns
returns g c =
    let done = c.write_all.result in
    writes_same _ _ done (sym (suit-cut (suit_of c.args.pattern.now c.args.suit) [] (32 ∷ [])))
    (Writes-then done _ _ c.in_ok-write_suit.ensures c.write_all.ensures)

pub returns-in_err-write_suit : goal.returns-in_err-write_suit
returns-in_err-write_suit g c =
    stops_within _ _ c.from_residual.result _ (32 ∷ []) c.from_residual.ensures.1 (sym (suit-cut (suit_of c.args.pattern.now c.args.suit) [] (32 ∷ []))) c.in_err-write_suit.ensures
