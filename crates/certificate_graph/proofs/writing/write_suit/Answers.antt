use Rattle.std.proofs.Common.{[], ap, ◌∙◌}
use Rattle.patterns.specs.Shapes.{SuitShape}
use Rattle.certificate_graph.specs.Texts.{owners_text, suit_text}
use Rattle.cards.proofs.WriteLemmas.{Writes-then}
use Rattle.certificate_graph.proofs.PieceLemmas.{suit_is}
use Rattle.certificate_graph.proofs.WriteLemmas.{writes_same, stops_within}
use Rattle.certificate_graph.proofs.writing.write_suit.Goals as goal

pub returns-in_err-write_lens : goal.returns-in_err-write_lens
returns-in_err-write_lens g c =
    let end = c.from_residual in
    let suit = c.suit-word.result in
    stops_within _ _ end.result _ (owners_text suit.owners []) end.ensures.1
    (suit_is suit _ _ _ _ c.len.ensures.len c.len-2.ensures.len c.len-3.ensures.len c.len-4.ensures.len
    ∙ ap (λ (s : SuitShape). suit_text s []) c.suit-word.ensures)
    c.in_err-write_lens.ensures

pub returns : goal.returns
returns g c =
    let done = c.write_owners.result in
    let suit = c.suit-word.result in
    writes_same _ _ done
    (suit_is suit _ _ _ _ c.len.ensures.len c.len-2.ensures.len c.len-3.ensures.len c.len-4.ensures.len
    ∙ ap (λ (s : SuitShape). suit_text s []) c.suit-word.ensures)
    (Writes-then done _ _ c.in_ok-write_lens.ensures c.write_owners.ensures)
