use Rattle.command_line.proofs.run_commands.run_program.Goals as goal

pub returns : goal.returns
returns g c = λ words processors said. record {
  between = _;
  handed_on = _;
  code = c.run_read-code.result;
  meets = c.run_read-code.ensures words processors said;
  closes = c.close_output.ensures;
}
