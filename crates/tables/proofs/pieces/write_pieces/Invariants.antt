-- The pieces so far have gone out.
use Rattle.std.proofs.Common.{take}
use Rattle.std.specs.List.{flat_map}
use Rattle.cards.specs.Devices.{Adds}
use Rattle.tables.proofs.pieces.write_pieces.Given as goal

abbrev pub invariant-loop-piece : goal.invariant-loop-piece
invariant-loop-piece g l =
    Adds (g.S.Sink.state l.fn.sink) (g.S.Sink.state l.sink) (flat_map (λ piece. piece.now) (take l.piece-index l.pieces))
