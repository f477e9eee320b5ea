use Rattle.std.proofs.Common.{arith}
use Rattle.std.proofs.lemmas.Bool.Decides.{Decides-eqb}
use Rattle.pattern_store.proofs.OwnerWords.{shallow}
use Rattle.pattern_store.proofs.record.is_shallow.Goals as goal

pub returns : goal.returns
returns c = λ few suit s. omega (arith, shallow c.args.depths ((Decides-eqb _ 0).0 few) suit s)
