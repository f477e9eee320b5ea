-- The entries so far are judged.
use Rattle.certified_plays.proofs.EntryLaws.{AreJudgedTo}
use Rattle.certified_plays.proofs.judging.judge_play.Given as goal

abbrev pub invariant-loop-count : goal.invariant-loop-count
invariant-loop-count l = AreJudgedTo l.proofs l.claims l.play l.entries.items l.count
