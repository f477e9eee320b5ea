use Rattle.playing_tests.proofs.card_value_tests.+can_take.Given as goal

abbrev pub decreases-can_take : goal.decreases-can_take
decreases-can_take l = l.cards
