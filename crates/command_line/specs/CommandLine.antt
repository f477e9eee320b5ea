-- The command line in the terms of `clap`.
use Rattle.std.specs.Prelude.{[], codes, true, false}
use Rattle.clap.specs.Words.{App}
use Rattle.clap.specs.Simple.{new_shape}
use Rattle.command_words.specs.declared.commands.Letters.{Letters}
use Rattle.command_line.specs.Subcommands.{shapes}

-- the program without its subcommands
abbrev pub program : App
program = record {
  top = record (new_shape (codes "ddfarm")) {
    has_version = true;
    disable_help_subcommand = true;
    arg_required_else_help = true;
    subcommand_required = true;
  };
  subs = [];
}

-- the program's words: one of the subcommands has to be named
abbrev pub command_line : Letters → App
command_line letters = record { top = record program.top { is_leaf = false }; subs = shapes letters }
