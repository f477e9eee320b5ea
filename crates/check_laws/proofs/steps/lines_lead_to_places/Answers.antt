use Rattle.check_laws.proofs.LineLaws.{lines_lead}
use Rattle.check_laws.proofs.steps.lines_lead_to_places.Goals as goal

pub returns : goal.returns
returns c = lines_lead
