-- What the words of a command line ask for.
use Rattle.std.specs.Prelude.{◌≡◌, ◌⊎◌, ◌||◌, ℕ, Bool, true, false, List, [], ◌∷◌, Option, Some, None, Result, Ok, Err}
use Rattle.clap.specs.Words.{IsAmong, Kinds, Row, Text, fault_of, kind_of, subcommand_of}
use Rattle.clap.specs.Kinds.{or_else}
use Rattle.clap.specs.declared.error.Error.{Error}
use Rattle.clap.specs.declared.error.kind.ErrorKind.{ErrorKind}
use Rattle.clap.specs.declared.error.kind.ErrorKind.TheVariants.{ArgumentConflict, MissingSubcommand, OutOfMemory}
use Rattle.command_line.specs.declared.subcommands.Subcommand.{Subcommand}
use Rattle.command_line.specs.Subcommands.{SaysMatched}
use Rattle.board_subcommands.specs.PageOptions.{asks_for_both}
use Rattle.command_words.specs.Proofs.{names_both_files}
use Rattle.command_words.specs.Rules.{AreLetters}
use Rattle.command_line.specs.CommandLine.{command_line}
use Rattle.command_words.specs.declared.commands.Letters.{Letters}

-- The words, of which the first is the program's name, ask for the subcommand: `clap` takes them, and it is the one
-- that they name, with the layout, the seat, the denomination and the numbers that they give it, on a machine with this
-- number of processors.
abbrev pub AskFor : Letters → List Text → ℕ → Subcommand → Type 0
AskFor letters words processors asked =
    (fault_of (command_line letters) words ≡ [])
    × SaysMatched (subcommand_of (command_line letters) words) processors asked

-- the words ask for nothing
abbrev pub AskForNothing : Letters → List Text → ℕ → Type 0
AskForNothing letters words processors = (asked : Subcommand) → AskFor letters words processors asked → ⊥

-- the words have two options that exclude each other: two pages, or two files of evidence
abbrev pub exclude_each_other : Option (Text × List Row) → Bool
exclude_each_other None = false
exclude_each_other (Some matched) = asks_for_both matched.1 || names_both_files matched.1

-- why words that `clap` takes are refused: two options exclude each other, or nothing is asked for
abbrev pub refusal_kind : Bool → ErrorKind
refusal_kind true = ArgumentConflict
refusal_kind false = MissingSubcommand

-- why words that ask for nothing are refused, or what help they ask for
abbrev pub reasons : Letters → List Text → Kinds
reasons letters words =
    or_else (fault_of (command_line letters) words)
    (refusal_kind (exclude_each_other (subcommand_of (command_line letters) words)) ∷ [])

-- there is no subcommand: memory ran out, or the words ask for none
abbrev pub HasNone : Letters → List Text → ℕ → ErrorKind → Type 0
HasNone letters words processors kind =
    (kind ≡ OutOfMemory) ⊎ (AskForNothing letters words processors × IsAmong kind (reasons letters words))

abbrev pub AreReadBy : Letters → List Text → ℕ → Result Subcommand Error → Type 0
AreReadBy letters words processors (Ok asked) = AskFor letters words processors asked
AreReadBy letters words processors (Err error) = HasNone letters words processors (kind_of error)

-- the words are read as the subcommand that they ask for, or there is none
abbrev pub AreReadAs : List Text → ℕ → Result Subcommand Error → Type 0
AreReadAs words processors answer = (letters : Letters) × AreLetters letters × AreReadBy letters words processors answer
