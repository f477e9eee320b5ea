-- Fewer cards are left to be played.
use Rattle.play_tests.proofs.slow.+can_take.Given as goal

abbrev pub decreases-can_take : goal.decreases-can_take
decreases-can_take l = l.cards
