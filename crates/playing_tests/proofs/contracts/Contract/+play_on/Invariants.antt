use Rattle.playing_tests.proofs.contracts.Contract.+play_on.Given as goal

abbrev pub decreases-play_on : goal.decreases-play_on
decreases-play_on g l = l.left
