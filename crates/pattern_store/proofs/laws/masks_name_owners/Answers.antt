use Rattle.pattern_store.proofs.Serving.{agrees_by_owners}
use Rattle.pattern_store.proofs.laws.masks_name_owners.Goals as goal

pub returns : goal.returns
returns c = agrees_by_owners
