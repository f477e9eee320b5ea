-- The pieces that were taken, and those of the rest of the line.
use Rattle.std.proofs.Common.{List, Bool, false, length}
use Rattle.pbn_deals.specs.Pieces.{Piece, HasPieces}
use Rattle.recorded_plays.specs.Values.{AreValues}
use Rattle.recorded_plays.proofs.Taken.{GoesOn}
use Rattle.recorded_plays.proofs.game_texts.GameText.take_pieces.Given as goal

abbrev pub invariant-loop-piece : goal.invariant-loop-piece
invariant-loop-piece l =
    (pieces more : List Piece) (is_open : Bool) → AreValues pieces false l.fn.self → HasPieces false l.fn.line more is_open
    → GoesOn pieces more is_open l.self l.in_data l.rest

abbrev pub decreases-loop-piece : goal.decreases-loop-piece
decreases-loop-piece l = length l.rest
