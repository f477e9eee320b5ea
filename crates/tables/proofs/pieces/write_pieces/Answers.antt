use Rattle.std.proofs.Common.{ℕ, List, Bor, [], arith}
use Rattle.cards.proofs.WriteLemmas.{AddsBeginning-piece, Writes-err}
use Rattle.tables.proofs.pieces.write_pieces.Goals as goal

pub returns-in_err-write_all : goal.returns-in_err-write_all
returns-in_err-write_all g c =
    Writes-err c.from_residual.result _ c.from_residual.ensures.1
    (AddsBeginning-piece (λ (piece : Bor (List ℕ)). piece.now) c.args.pieces.now c.loop-piece.piece-index (record { ref_ptr = (0, 0); now = [] }) (omega arith) c.loop-piece.invariant c.in_err-write_all.ensures)
