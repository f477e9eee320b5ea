-- The words and options of `table`.
use Rattle.std.specs.Prelude.{◌≡◌, ℕ, false, true, List, [], ◌∷◌, ◌++◌, codes}
use Rattle.std.specs.Str.Parse.{digits_value}
use Rattle.clap.specs.Words.{Row, Rule, Shape}
use Rattle.farm.specs.Settings.{defaults}
use Rattle.farm.specs.declared.settings.Settings.{Settings}
use Rattle.command_words.specs.Options.{OptionNumbers, budget_option, solvers_option}
use Rattle.command_words.specs.Rules.{flag, number_rule, optional_word, subcommand, text_rule}
use Rattle.command_words.specs.Says.{SaysBoards, SaysFlag, SaysNumber, SaysText, SaysThreads}
use Rattle.board_subcommands.specs.PageOptions.{SaysPage, page_rules}
use Rattle.board_subcommands.specs.declared.table.options.TableOptions.{TableOptions}

-- how many threads check them
abbrev pub checkers_option : OptionNumbers
checkers_option = record { name = codes "checkers"; least = 1; most = 64; default = codes "2"; is_by_machine = true }

-- how many seconds an entry is lent
abbrev pub term_option : OptionNumbers
term_option = record { name = codes "term"; least = 0; most = 1000000000; default = codes "600"; is_by_machine = false }

-- how often an entry is searched
abbrev pub tries_option : OptionNumbers
tries_option = record { name = codes "tries"; least = 1; most = 1000; default = codes "3"; is_by_machine = false }

-- how many entries are lent at a time
abbrev pub batch_option : OptionNumbers
batch_option = record { name = codes "batch"; least = 1; most = 20; default = codes "20"; is_by_machine = false }

-- whether the progress of the work is printed
abbrev pub progress_option : List ℕ
progress_option = codes "progress"

-- the file in which evidence is kept
abbrev pub evidence_option : List ℕ
evidence_option = codes "evidence"

abbrev pub number_rules : List Rule
number_rules = number_rule solvers_option ∷ number_rule checkers_option ∷ number_rule term_option
    ∷ number_rule tries_option ∷ number_rule budget_option ∷ number_rule batch_option ∷ []

abbrev pub shape : Shape
shape = subcommand (codes "table")
    (number_rules ++ flag progress_option ∷ (page_rules
    ++ text_rule evidence_option ∷ optional_word (codes "BOARDS") ∷ []))

-- the words say the numbers of the settings, on a machine with this number of processors
pub record SaysSettings (said : List Row) (processors : ℕ) (settings : Settings) : Type 0 where
  pub solvers : SaysThreads said processors solvers_option settings.solvers
  pub checkers : SaysThreads said processors checkers_option settings.checkers
  pub term : SaysNumber said term_option settings.term
  pub tries : SaysNumber said tries_option settings.tries
  pub budget : SaysNumber said budget_option settings.budget
  pub batch : SaysNumber said batch_option settings.batch

-- the number stands for a missing one
abbrev pub IsDefault : OptionNumbers → ℕ → Type 0
IsDefault option number = digits_value 10 option.default ≡ number

-- the numbers that stand for missing ones are those of settings that nothing was said of
pub record AreDefaults : Type 0 where
  pub solvers : IsDefault solvers_option defaults.solvers
  pub checkers : IsDefault checkers_option defaults.checkers
  pub term : IsDefault term_option defaults.term
  pub tries : IsDefault tries_option defaults.tries
  pub budget : IsDefault budget_option defaults.budget
  pub batch : IsDefault batch_option defaults.batch

-- the words say the options, on a machine with this number of processors
abbrev pub Says : List Row → ℕ → TableOptions → Type 0
Says said processors options = SaysSettings said processors options.settings
    × SaysFlag said progress_option options.progress
    × SaysPage said options.page
    × SaysBoards said options.boards
    × SaysText said evidence_option options.evidence
