use Rattle.deal_subcommands.proofs.fault_words.write_said.Goals as goal

pub returns-in-OutOfMemory : goal.returns-in-OutOfMemory
returns-in-OutOfMemory g c = rw c.in-OutOfMemory.is c.write_all.ensures
