use Rattle.patterns.proofs.HolderLaws.{IsPattern-of_layout, Matches-of_layout}
use Rattle.patterns.proofs.patterns.Pattern.of_layout.Goals as goal

pub invariant_of-result : goal.invariant_of-result
invariant_of-result c = rw (c.of_layout.ensures) (IsPattern-of_layout c.args.layout.now c.args.depths c.invariant.ensures)

pub returns-clause-matches : goal.returns-clause-matches
returns-clause-matches c = rw (c.of_layout.ensures) (Matches-of_layout c.args.layout.now c.args.depths)
