-- The trick's cards so far were played.
use Rattle.dds_calls.proofs.PlayLaws.{AreBegunTo}
use Rattle.dds_calls.proofs.plays.begun_with.Given as goal

abbrev pub invariant-loop-card : goal.invariant-loop-card
invariant-loop-card l = AreBegunTo l.trick l.play l.card-index
