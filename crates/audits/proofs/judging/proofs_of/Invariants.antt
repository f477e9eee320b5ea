-- The proofs are those of the claims before `claim-index`.
use Rattle.std.proofs.Common.{take}
use Rattle.audits.specs.Firsts.{AreShownBy}
use Rattle.audits.proofs.ShownLaws.{section_of}
use Rattle.audits.proofs.judging.proofs_of.Given as goal

abbrev pub invariant-loop-claim : goal.invariant-loop-claim
invariant-loop-claim g l = AreShownBy (section_of l.layout l.trump l.pair (take l.claim-index l.claim-items)) l.proofs.items
