-- What is printed of a fault of the program.
use Rattle.std.specs.Prelude.{ℕ, List, [], Option, None, codes}
use Rattle.run_ends.specs.Telling.{told_text}
use Rattle.run_ends.specs.declared.statuses.Status.{Status}
use Rattle.run_ends.specs.declared.statuses.Status.TheVariants.{Failed, Refused}
use Rattle.command_line.specs.declared.faults.ProgramFault.{ProgramFault}
use Rattle.command_line.specs.declared.faults.ProgramFault.TheVariants.{OutOfMemory, Write, NotText}

abbrev pub status : ProgramFault → Status
status OutOfMemory = Failed
status Write = Failed
status NotText = Refused

abbrev pub said : ProgramFault → List ℕ
said OutOfMemory = codes "out of memory"
said Write = codes "writing failed"
said NotText = codes "a word of the command line is not UTF-8"

-- all that is written of it
abbrev pub told : ProgramFault → List ℕ
told fault = told_text None (said fault) None []
