-- Which fault a source makes.
use Rattle.streams.specs.declared.inputs.InputFault.{InputFault}
use Rattle.streams.specs.declared.inputs.InputFault.TheVariants as input
use Rattle.tournaments.specs.declared.faults.MakeFault.{MakeFault}
use Rattle.tournaments.specs.declared.faults.MakeFault.TheVariants.{OutOfMemory, Read}

-- why a source could not be read
abbrev pub input_fault : InputFault → MakeFault
input_fault input.OutOfMemory = OutOfMemory
input_fault input.Read = Read
