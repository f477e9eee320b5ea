use Rattle.playing_tests.proofs.told.+tell_tree.Given as goal

abbrev pub decreases-tell_tree : goal.decreases-tell_tree
decreases-tell_tree g l = l.left
