-- The leases before `grant-index` are given up, and the others are held.
use Rattle.std.proofs.Common.{drop}
use Rattle.audits.proofs.GiveUpLaws.{Frees}
use Rattle.audits.proofs.publishing.give_up_all.Given as goal

abbrev pub invariant-loop-grant : goal.invariant-loop-grant
invariant-loop-grant l = Frees l.initial.book l.book l.now (drop l.grant-index l.kept)
