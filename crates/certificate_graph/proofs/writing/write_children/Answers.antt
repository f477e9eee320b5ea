use Rattle.std.proofs.Common.{◌∷◌, [], sym, ap}
use Rattle.certificate_graph.specs.Texts.{more_children_text}
use Rattle.certificate_graph.proofs.TextParts.{child-cut}
use Rattle.cards.proofs.WriteLemmas.{Writes-then}
use Rattle.certificate_graph.proofs.WriteLemmas.{writes_same, stops_within}
use Rattle.certificate_graph.proofs.writing.write_children.Goals as goal

pub returns-in_ok-write_child-in-Some : goal.returns-in_ok-write_child-in-Some
returns-in_ok-write_child-in-Some g c =
    let child = c.in-Some.child in
    let more = more_children_text c.in-Some.more [] in
    let done = c.write_more_children.result in
    writes_same _ _ done (rw c.in-Some.ensures (sym (ap (λ s. 123 ∷ s) (child-cut child [] more))))
    (Writes-then done _ _ c.in_ok-write_child-in-Some.ensures c.write_more_children.ensures)

pub returns-in_err-write_child-in-Some : goal.returns-in_err-write_child-in-Some
returns-in_err-write_child-in-Some g c =
    let child = c.in-Some.child in
    let more = more_children_text c.in-Some.more [] in
    let end = c.from_residual in
    stops_within _ _ end.result _ more end.ensures.1
    (rw c.in-Some.ensures (sym (ap (λ s. 123 ∷ s) (child-cut child [] more)))) c.in_err-write_child-in-Some.ensures
