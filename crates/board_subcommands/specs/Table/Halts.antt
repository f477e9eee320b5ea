-- Why no tables were made where a farm was halted.
use Rattle.std.specs.Prelude.{Option, None, Some}
use Rattle.farm.specs.declared.faults.FarmFault.{FarmFault}
use Rattle.farm.specs.declared.faults.FarmFault.TheVariants as farm
use Rattle.tournaments.specs.declared.faults.MakeFault.{MakeFault}
use Rattle.tournaments.specs.declared.faults.MakeFault.TheVariants.{OutOfMemory, NoThread}

-- why a farm over the boards of a text was halted; that there can be no book over them is never the reason
abbrev pub halted_fault : FarmFault → Option MakeFault
halted_fault farm.OutOfMemory = Some OutOfMemory
halted_fault farm.NoThread = Some NoThread
halted_fault (farm.Book fault) = None
