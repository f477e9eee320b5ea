use Rattle.certificate_play.proofs.branches.+below_higher.Given as goal

abbrev pub decreases-below_higher : goal.decreases-below_higher
decreases-below_higher l = l.place
