use Rattle.patterns.proofs.patterns.Pattern.matches.Goals as goal

pub returns : goal.returns
returns c = rw (← c.self.view_is) c.matches.ensures
