-- The options of `leads`.
use Rattle.std.specs.Prelude.{ℕ, List, [], ◌∷◌, codes}
use Rattle.clap.specs.Words.{Row, Shape}
use Rattle.command_words.specs.Options.{budget_option, solvers_option}
use Rattle.command_words.specs.Rules.{flag, number_rule, optional_word, subcommand}
use Rattle.command_words.specs.Says.{SaysBoards, SaysFlag, SaysNumber, SaysThreads}
use Rattle.board_subcommands.specs.Table.Options.{progress_option}
use Rattle.board_subcommands.specs.declared.leads.options.LeadsOptions.{LeadsOptions}

abbrev pub shape : Shape
shape = subcommand (codes "leads")
    (number_rule solvers_option ∷ number_rule budget_option ∷ flag progress_option
    ∷ optional_word (codes "BOARDS") ∷ [])

-- the words say the options, on a machine with this number of processors
abbrev pub Says : List Row → ℕ → LeadsOptions → Type 0
Says said processors options = SaysThreads said processors solvers_option options.solvers
    × SaysNumber said budget_option options.budget
    × SaysFlag said progress_option options.progress
    × SaysBoards said options.boards
