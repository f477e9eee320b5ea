-- The words and options of `audit`.
use Rattle.std.specs.Prelude.{◌≡◌, List, [], ◌∷◌, ◌++◌, Some, codes}
use Rattle.clap.specs.Words.{Row, Shape, first_of}
use Rattle.command_words.specs.Rules.{optional_word, subcommand, word}
use Rattle.command_words.specs.Says.{SaysBoards}
use Rattle.board_subcommands.specs.PageOptions.{SaysPage, page_rules}
use Rattle.board_subcommands.specs.declared.audit.options.AuditOptions.{AuditOptions}

abbrev pub shape : Shape
shape = subcommand (codes "audit") (page_rules ++ word (codes "FILE") ∷ optional_word (codes "BOARDS") ∷ [])

-- the words say the options
abbrev pub Says : List Row → AuditOptions → Type 0
Says said options = (first_of (codes "FILE") said ≡ Some options.file.now)
    × SaysPage said options.page
    × SaysBoards said options.boards
