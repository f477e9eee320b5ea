use Rattle.std.proofs.Common.{[], refl}
use Rattle.certificate_graph.proofs.TextParts.{heading-parts, heading-whole}
use Rattle.cards.proofs.WriteLemmas.{Writes-then}
use Rattle.certificate_graph.proofs.WriteLemmas.{writes_same, stops_within}
use Rattle.certificate_graph.proofs.line_writing.write_heading.Goals as goal

pub returns-in_err-write_all : goal.returns-in_err-write_all
returns-in_err-write_all g c =
    let end = c.from_residual in
    writes_same _ _ end.result (heading-parts c.args.version c.args.trump c.args.side []) (stops_within _ _ end.result _ _ end.ensures.1 refl (rw c.title_line.ensures at c.in_err-write_all.ensures))

pub returns-in_err-write_all-2 : goal.returns-in_err-write_all-2
returns-in_err-write_all-2 g c =
    let end = c.from_residual-in_err-write_all-2 in
    writes_same _ _ end.result (heading-parts c.args.version c.args.trump c.args.side []) (Writes-then end.result _ _ (rw c.title_line.ensures at c.in_ok-write_all.ensures)
    (stops_within _ _ end.result _ _ end.ensures.1 refl (rw c.trump_line.ensures at c.in_err-write_all-2.ensures)))

pub returns : goal.returns
returns g c =
    let done = c.write_all-3.result in
    writes_same _ _ done (heading-whole c.args.version c.args.trump c.args.side) (Writes-then done _ _ (rw c.title_line.ensures at c.in_ok-write_all.ensures)
    (Writes-then done _ _ (rw c.trump_line.ensures at c.in_ok-write_all-2.ensures)
    (rw c.side_line.ensures at c.write_all-3.ensures)))
