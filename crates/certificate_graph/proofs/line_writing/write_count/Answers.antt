use Rattle.std.proofs.Common.{[], ◌∷◌, ◌++◌, refl}
use Rattle.std.specs.Fmt.{decimal}
use Rattle.cards.proofs.WriteLemmas.{Writes-then}
use Rattle.certificate_graph.proofs.WriteLemmas.{stops_within}
use Rattle.certificate_graph.proofs.line_writing.write_count.Goals as goal

pub returns-in_err-write_all : goal.returns-in_err-write_all
returns-in_err-write_all g c =
    let end = c.from_residual in
    stops_within _ _ end.result _ (decimal c.args.count ++ (10 ∷ [])) end.ensures.1 refl c.in_err-write_all.ensures

pub returns-in_err-write_number : goal.returns-in_err-write_number
returns-in_err-write_number g c =
    let end = c.from_residual-in_err-write_number in
    Writes-then end.result _ _ c.in_ok-write_all.ensures (stops_within _ _ end.result _ (10 ∷ []) end.ensures.1 refl (rw c.from.ensures at c.in_err-write_number.ensures))

pub returns : goal.returns
returns g c =
    let done = c.write_all-2.result in
    Writes-then done _ _ c.in_ok-write_all.ensures (Writes-then done _ _ (rw c.from.ensures at c.in_ok-write_number.ensures) c.write_all-2.ensures)
