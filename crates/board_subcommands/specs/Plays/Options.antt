-- The options of `plays`.
use Rattle.std.specs.Prelude.{◌≡◌, ℕ, List, [], ◌∷◌, ◌++◌, Option, codes, option_map}
use Rattle.std.specs.Borrow.{Bor}
use Rattle.clap.specs.Words.{Row, Shape, first_of}
use Rattle.command_words.specs.Options.{budget_option, solvers_option}
use Rattle.command_words.specs.Proofs.{SaysProof, proof_rules}
use Rattle.command_words.specs.Rules.{flag, number_rule, optional_word, subcommand}
use Rattle.command_words.specs.Says.{SaysNumber, SaysThreads, named_boards}
use Rattle.board_subcommands.specs.declared.plays.options.PlaysOptions.{PlaysOptions}
use Rattle.board_subcommands.specs.PageOptions.{mistakes_option, sheet_option}
use Rattle.board_subcommands.specs.Plays.Forms.{SaysForm}

abbrev pub shape : Shape
shape = subcommand (codes "plays")
    (number_rule solvers_option ∷ number_rule budget_option ∷ flag mistakes_option
    ∷ flag sheet_option ∷ (proof_rules ++ optional_word (codes "GAMES") ∷ []))

-- the words name the file with the games, or the input
abbrev pub SaysGames : List Row → Option (Bor (List ℕ)) → Type 0
SaysGames said games = option_map (λ t. t.now) games ≡ named_boards (first_of (codes "GAMES") said)

-- the words say the options, on a machine with this number of processors
abbrev pub Says : List Row → ℕ → PlaysOptions → Type 0
Says said processors options = SaysThreads said processors solvers_option options.solvers
    × SaysNumber said budget_option options.budget
    × SaysForm said options.form
    × SaysProof said options.proof
    × SaysGames said options.games
