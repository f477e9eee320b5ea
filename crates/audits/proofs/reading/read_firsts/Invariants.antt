-- Since the first batch began, some parts were noted. The first proofs are those of their sections, and this batch comes
-- next.
use Rattle.std.proofs.Common.{List}
use Rattle.evidence.specs.declared.parts.Part.{Part}
use Rattle.evidence.specs.Wholes.{Whole}
use Rattle.audits.specs.Reads.{sections_of}
use Rattle.audits.specs.Firsts.{AreFirstShown, HasPlaces}
use Rattle.audits.specs.Batches.{ReadsBatch}
use Rattle.audits.proofs.ReadLaws.{ReadsSome}
use Rattle.audits.proofs.reading.read_firsts.Given as goal

abbrev pub invariant-loop-turn : goal.invariant-loop-turn
invariant-loop-turn g l =
    record {
      so_far :
          (old : Whole) → ReadsBatch old l.initial.evidence l.initial.course.batch.pieces.items l.initial.course.batch.ended
          → (now : Whole) × (parts : List Part)
          × ReadsSome old now parts l.damage
          × AreFirstShown l.boards (sections_of parts) l.firsts
          × ReadsBatch now l.evidence l.course.batch.pieces.items l.course.batch.ended;
      places : HasPlaces l.boards l.firsts;
    }
