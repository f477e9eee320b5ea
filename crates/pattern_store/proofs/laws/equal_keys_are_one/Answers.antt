use Rattle.pattern_store.proofs.SameKeys.{keys_equal-Decides}
use Rattle.pattern_store.proofs.laws.equal_keys_are_one.Goals as goal

pub returns : goal.returns
returns c = keys_equal-Decides
