use Rattle.checker.proofs.LineLaws.{on_lines}
use Rattle.check_laws.proofs.steps.places_are_on_lines.Goals as goal

pub returns : goal.returns
returns c = on_lines
