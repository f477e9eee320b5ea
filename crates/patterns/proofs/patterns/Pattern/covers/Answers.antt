use Rattle.patterns.proofs.patterns.Pattern.covers.Goals as goal

pub returns : goal.returns
returns c = rw (← c.self.view_is, ← c.held.ensures) c.covers.ensures
