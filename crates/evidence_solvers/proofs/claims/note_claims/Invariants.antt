-- The claims so far are those of sections, if they were before and the answer's section is one.
use Rattle.std.proofs.Common.{List}
use Rattle.std.specs.Prelude.{All, Contains}
use Rattle.evidence.specs.Sections.{SectionShape, kept_of}
use Rattle.evidence_solvers.specs.Claims.{IsClaimedIn}
use Rattle.evidence_solvers.proofs.claims.note_claims.Given as goal

abbrev pub invariant-loop-declarer : goal.invariant-loop-declarer
invariant-loop-declarer l =
    (sections : List SectionShape) → Contains sections (kept_of l.layout l.trump l.bundle) → All (IsClaimedIn sections) l.fn.claims.items
    → All (IsClaimedIn sections) l.claims.items
