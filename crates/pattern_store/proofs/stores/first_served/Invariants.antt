use Rattle.std.proofs.Common.{take}
use Rattle.pattern_store.specs.Stores.{NoneServes}
use Rattle.pattern_store.proofs.stores.first_served.Given as goal

abbrev pub invariant-loop-added : goal.invariant-loop-added
invariant-loop-added l = NoneServes l.layout l.need (take l.added-index l.adds)
