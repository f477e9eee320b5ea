use Rattle.checker.proofs.turns.+has_higher.Given as goal

abbrev pub decreases-has_higher : goal.decreases-has_higher
decreases-has_higher l = l.place
