use Rattle.std.proofs.Common.{◌∷◌, ◌++◌, [], refl}
use Rattle.std.specs.Fmt.{decimal}
use Rattle.cards.proofs.WriteLemmas.{Writes-then}
use Rattle.certificate_graph.proofs.WriteLemmas.{writes_same, stops_within}
use Rattle.certificate_graph.proofs.line_writing.write_claim.Goals as goal

pub returns : goal.returns
returns g c =
    let done = c.write_len.result in
    writes_same _ _ done (rw c.seat_byte.ensures refl) (Writes-then done _ _ c.in_ok-write_all.ensures c.write_len.ensures)

pub returns-in_err-write_all : goal.returns-in_err-write_all
returns-in_err-write_all g c =
    let end = c.from_residual in
    stops_within _ _ end.result _ (decimal c.args.need ++ (32 ∷ [])) end.ensures.1 (rw c.seat_byte.ensures refl) c.in_err-write_all.ensures
