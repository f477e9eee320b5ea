-- The entries of the claims before `claim-index` have proofs.
use Rattle.std.proofs.Common.{take}
use Rattle.audits.specs.Firsts.{AllKnown}
use Rattle.audits.proofs.firsts.FirstProofs.are_known.Given as goal

abbrev pub invariant-loop-claim : goal.invariant-loop-claim
invariant-loop-claim l = AllKnown l.self l.board l.trump (take l.claim-index l.claims)
