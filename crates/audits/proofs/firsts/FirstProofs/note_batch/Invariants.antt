-- The pieces before `one-index` are noted.
use Rattle.std.proofs.Common.{List, take}
use Rattle.std.specs.List.{AllZip}
use Rattle.evidence.specs.declared.parts.Piece.{Piece}
use Rattle.audits.specs.Firsts.{HasPlaces}
use Rattle.audits.specs.Batches.{Judges, Grows, NotesPieces}
use Rattle.audits.proofs.firsts.FirstProofs.note_batch.Given as goal

abbrev pub invariant-loop-one : goal.invariant-loop-one
invariant-loop-one l =
    record {
      notes :
          (pieces : List Piece) → AllZip (Judges l.boards l.initial.self) pieces l.judged
          → NotesPieces l.boards (take l.one-index pieces) l.initial.self l.self l.initial.damage l.damage;
      grows : Grows l.initial.self l.self;
      places : HasPlaces l.boards l.self;
    }
