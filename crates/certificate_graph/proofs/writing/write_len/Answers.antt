use Rattle.std.proofs.Common.{◌∷◌, [], refl}
use Rattle.cards.proofs.WriteLemmas.{Writes-then}
use Rattle.certificate_graph.proofs.WriteLemmas.{stops_within}
use Rattle.certificate_graph.proofs.writing.write_len.Goals as goal

pub returns-in_err-write_number : goal.returns-in_err-write_number
returns-in_err-write_number g c =
    let end = c.from_residual in
    stops_within _ _ end.result _ (c.args.after ∷ []) end.ensures.1 refl (rw c.from.ensures at c.in_err-write_number.ensures)

pub returns : goal.returns
returns g c = Writes-then c.write_all.result _ _ (rw c.from.ensures at c.in_ok-write_number.ensures) c.write_all.ensures
