use Rattle.command_line.proofs.run_commands.run_command.Goals as goal

pub returns : goal.returns
returns g c = c.run_read.ensures _ _ c.parse_arguments.ensures
