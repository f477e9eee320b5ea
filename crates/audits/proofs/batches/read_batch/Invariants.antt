-- So many pieces are cut.
use Rattle.std.proofs.Common.{◌≤◌, length}
use Rattle.audits.specs.Batches.{Cuts}
use Rattle.audits.proofs.batches.read_batch.Given as goal

abbrev pub invariant-loop-piece : goal.invariant-loop-piece
invariant-loop-piece g l =
    record {
      cuts : Cuts l.initial.evidence l.pieces.items l.evidence;
      many : l._piece ≤ length l.pieces.items;
    }
