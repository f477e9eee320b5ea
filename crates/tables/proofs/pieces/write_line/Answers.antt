use Rattle.cards.proofs.WriteLemmas.{Writes-then}
use Rattle.tables.proofs.pieces.write_line.Goals as goal

pub returns : goal.returns
returns g c = Writes-then c.write_all.result _ _ c.in_ok-write_pieces.ensures c.write_all.ensures
