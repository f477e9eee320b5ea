use Rattle.std.proofs.Common.{rules, option_map}
use Rattle.command_line.specs.Commands.{is_shown, is_refused}
use Rattle.command_line.proofs.run_commands.tell_words.Goals as goal

pub returns-in-DisplayHelp : goal.returns-in-DisplayHelp
returns-in-DisplayHelp g c = is_shown (search rules) (option_map (λ text. text.bytes.items) c.lines_of.result) (search rules) c.show_help.ensures

pub returns-in_default : goal.returns-in_default
returns-in_default g c =
    is_refused (search rules) (search rules) (option_map (λ text. text.bytes.items) c.lines_of-in_default.result) (search rules) (search rules) c.tell_refusal.ensures
