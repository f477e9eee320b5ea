-- What is left of the pieces so far has gone out.
use Rattle.std.proofs.Common.{List, Bool, false, length, flat_map}
use Rattle.pbn_deals.specs.Pieces.{Piece, bytes_of, HasPieces}
use Rattle.whole_texts.specs.OldTables.{left_pieces}
use Rattle.whole_texts.proofs.PiecesGo.{PiecesGo}
use Rattle.whole_texts.proofs.leaving.write_pieces.Given as goal

abbrev pub invariant-loop-piece : goal.invariant-loop-piece
invariant-loop-piece g l =
    (pieces : List Piece) (is_open : Bool) → HasPieces false l.fn.line pieces is_open
    → PiecesGo l.fn.renews (g.S.Sink.state l.fn.sink) (g.S.Sink.state l.sink) l.fn.last l.last (flat_map bytes_of (left_pieces l.fn.renews l.fn.in_table pieces)) l.in_table l.in_data l.rest

abbrev pub decreases-loop-piece : goal.decreases-loop-piece
decreases-loop-piece g l = length l.rest
