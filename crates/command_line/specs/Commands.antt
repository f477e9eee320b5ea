-- What a run does for the words of a command line.
use Rattle.std.specs.Prelude.{◌≡◌, ℕ, List, [], ◌∷◌, ◌++◌, ◌⊎◌, Option, Some, None, IfSome, codes}
use Rattle.clap.specs.declared.error.kind.ErrorKind.{ErrorKind}
use Rattle.clap.specs.declared.error.kind.ErrorKind.TheVariants as kinds
use Rattle.cards.specs.Devices.{Device}
use Rattle.streams.specs.RunStreams.{RunDevices}
use Rattle.lease_book.specs.Moments.{MayTell}
use Rattle.command_words.specs.Rules.{AreLetters}
use Rattle.command_line.specs.Words.{AskFor, HasNone}
use Rattle.command_words.specs.declared.commands.Letters.{Letters}
use Rattle.command_line.specs.declared.faults.ProgramFault.TheVariants.{OutOfMemory}
use Rattle.run_ends.specs.declared.statuses.Status.{Status}
use Rattle.run_ends.specs.declared.statuses.Status.TheVariants.{Failed, Refused}
use Rattle.command_line.specs.declared.subcommands.Subcommand.{Subcommand}
use Rattle.command_line.specs.Faults.{told}
use Rattle.run_ends.specs.Statuses.{status_code}
use Rattle.run_ends.specs.Telling.{IsTold}
use Rattle.command_line.specs.Outputs.{EndsStreams, Shows}
use Rattle.command_line.specs.Subcommands.{LeftFiles, MayOpen, MaySolve, RunsSubcommand}
use Rattle.cards.specs.Bytes as ascii

-- help or the version is asked for
abbrev pub IsAsked : ErrorKind → Type 0
IsAsked kind = (kind ≡ kinds.DisplayHelp) ⊎ (kind ≡ kinds.DisplayVersion)

-- a line at least, and each is ended
abbrev pub AreLines : List ℕ → Type 0
AreLines text = (beginning : List ℕ) × (text ≡ beginning ++ ascii.line_feed ∷ [])

-- what is said, with the end of its last line, which may be missing
pub record IsInLines (said lines : List ℕ) : Type 0 where
  pub ended : AreLines said → lines ≡ said
  pub unended : (AreLines said → ⊥) → lines ≡ said ++ ascii.line_feed ∷ []

-- whole lines, which say what is said, where that is known
abbrev pub AreLinesOf : Option (List ℕ) → List ℕ → Type 0
AreLinesOf said lines = AreLines lines × IfSome said (λ bytes. IsInLines bytes lines)

-- nothing is read or written, and it is reported that memory ran out
abbrev pub TellsNoMemory : RunDevices → RunDevices → Status → Type 0
TellsNoMemory old new status =
    (status ≡ Failed) × (new.both ≡ old.both) × IsTold old.errors new.errors (told OutOfMemory)

-- the lines of help are written, unless memory ran out for them
abbrev pub ShowsHelp : Option (List ℕ) → RunDevices → RunDevices → Status → Type 0
ShowsHelp (Some lines) old new status = Shows old new lines status
ShowsHelp None old new status = TellsNoMemory old new status

-- What is printed of refused words: the lines of why. If memory ran out for those, only that the words are refused.
abbrev pub refusal_lines : Option (List ℕ) → List ℕ
refusal_lines (Some lines) = lines
refusal_lines None = codes "ddfarm: the command line is refused" ++ ascii.line_feed ∷ []

abbrev pub TellsRefusal : Option (List ℕ) → Device → Device → Status → Type 0
TellsRefusal lines errors errors' status = (status ≡ Refused) × IsTold errors errors' (refusal_lines lines)

-- What comes of words that ask for no subcommand, by the kind of the error and what it says, in lines if memory held
-- them: help that was asked for is written; a refusal is printed on the error output alone; or memory ran out. The
-- input stays as it was.
pub data EndsWords (said : Option (List ℕ)) (old new : RunDevices) (kind : ErrorKind) (status : Status) : Type 0 where
  is_shown : IsAsked kind → (lines : Option (List ℕ)) → IfSome lines (AreLinesOf said)
      → ShowsHelp lines old new status
      → EndsWords said old new kind status
  is_refused : (IsAsked kind → ⊥) → (kind ≡ kinds.OutOfMemory → ⊥) → (lines : Option (List ℕ))
      → IfSome lines (AreLinesOf said) → new.both ≡ old.both → TellsRefusal lines old.errors new.errors status
      → EndsWords said old new kind status
  is_without_memory : kind ≡ kinds.OutOfMemory → TellsNoMemory old new status
      → EndsWords said old new kind status

-- the words ask for a subcommand, which is done, or there is none; `clap` doesn't tell what its errors say
pub data MeetsWords (may_solve : MaySolve) (may_tell : MayTell) (may_open : MayOpen) (words : List (List ℕ))
    (processors : ℕ) (old new : RunDevices) (handed_on : Option (List ℕ)) (status : Status)
    : Type 0 where
  is_done : (letters : Letters) → AreLetters letters → (asked : Subcommand) → AskFor letters words processors asked
      → (left : LeftFiles) → RunsSubcommand may_solve may_tell may_open asked left old new handed_on status
      → MeetsWords may_solve may_tell may_open words processors old new handed_on status
  is_none : (letters : Letters) → AreLetters letters → (kind : ErrorKind) → HasNone letters words processors kind
      → EndsWords None old new kind status
      → MeetsWords may_solve may_tell may_open words processors old new handed_on status

-- the exit status is the number of the status that the run ends with
abbrev pub ExitsBy : (Status → Type 0) → ℕ → Type 0
ExitsBy Ends code = (status : Status) × Ends status × (code ≡ status_code status)

-- what a run of the program does, by what it does for its words: that, and then the output is flushed and closed
pub record RunsProgram (Meets : RunDevices → RunDevices → Option (List ℕ) → Status → Type 0) (old new : RunDevices)
    (below : Option (List ℕ)) (ended : ℕ)
    : Type 0 where
  pub between : RunDevices
  pub handed_on : Option (List ℕ)
  pub code : ℕ
  pub meets : ExitsBy (Meets old between handed_on) code
  pub closes : EndsStreams between new below code ended
