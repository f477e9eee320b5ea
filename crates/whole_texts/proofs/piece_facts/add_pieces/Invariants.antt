-- The pieces that were taken, and those of the rest of the line.
use Rattle.std.proofs.Common.{List, Bool, false, length}
use Rattle.pbn_deals.specs.Pieces.{Piece, HasPieces}
use Rattle.whole_texts.specs.Facts.{AreFacts}
use Rattle.whole_texts.proofs.FactsOf.{GoesOn}
use Rattle.whole_texts.proofs.piece_facts.add_pieces.Given as goal

abbrev pub invariant-loop-piece : goal.invariant-loop-piece
invariant-loop-piece l =
    (t : Bool) (pieces more : List Piece) (is_open : Bool) → AreFacts l.fn.renews t pieces false l.fn.before → HasPieces false l.fn.line more is_open
    → GoesOn l.fn.renews t pieces more is_open l.facts l.in_data l.rest

abbrev pub decreases-loop-piece : goal.decreases-loop-piece
decreases-loop-piece l = length l.rest
