use Rattle.board_subcommands.proofs.ends.tell_unread.Goals as goal

pub returns-in-OutOfMemory-clause-line : goal.returns-in-OutOfMemory-clause-line
returns-in-OutOfMemory-clause-line g c = rw c.in-OutOfMemory.is c.tell.ensures.text

pub returns-in-Read-clause-line : goal.returns-in-Read-clause-line
returns-in-Read-clause-line g c = rw c.in-Read.is c.tell-in-Read.ensures.text
