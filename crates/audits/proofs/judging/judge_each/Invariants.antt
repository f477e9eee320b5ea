use Rattle.std.proofs.Common.{take}
use Rattle.std.specs.List.{AllZip}
use Rattle.audits.specs.Batches.{Judges}
use Rattle.audits.proofs.judging.judge_each.Given as goal

abbrev pub invariant-loop-piece : goal.invariant-loop-piece
invariant-loop-piece g l = AllZip (Judges l.boards l.firsts) (take l.piece-index l.pieces) l.judged.items
