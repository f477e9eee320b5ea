-- What `plays` leaves in the new file of evidence.
use Rattle.std.specs.Prelude.{◌≡◌, ℕ, List, Option, None, Some, Result, Ok, Err, ◌⊎◌}
use Rattle.std.proofs.Common.{Vec, Global}
use Rattle.cards.specs.Devices.{Device}
use Rattle.cards.specs.declared.devices.DeviceFault.{DeviceFault}
use Rattle.cards.specs.declared.faults.OutOfMemory.{OutOfMemory}
use Rattle.streams.specs.declared.opening.CannotOpen.{CannotOpen}
use Rattle.evidence_solvers.specs.declared.faults.KeepFault.TheVariants as keep
use Rattle.play_pages.specs.declared.making.PlaysMade.{PlaysMade}
use Rattle.run_ends.specs.NamedFiles.{IsKeptIn, Opens}
use Rattle.run_ends.specs.declared.named_files.FileFault.TheVariants as file
use Rattle.board_subcommands.specs.declared.faults.BoardFault.{BoardFault}
use Rattle.board_subcommands.specs.declared.faults.BoardFault.TheVariants as fault
use Rattle.board_subcommands.specs.declared.plays.ends.PlaysOutcome.{PlaysOutcome}
use Rattle.board_subcommands.specs.FinishedRuns.{undamaged}

-- what is said of a file that got its text, or a beginning of it
abbrev pub written_answer : Result Unit DeviceFault → Result Unit BoardFault
written_answer (Ok done) = Ok done
written_answer (Err device) = Err (fault.Unkept keep.Write)

-- A file of this name was made and got the text, or a beginning of it, and then a write has failed. Or none could be
-- made.
abbrev pub KeepsText : Opens → List ℕ → List ℕ → Option Device → Result Unit BoardFault → Type 0
KeepsText makes name text left kept =
    ((written : Result Unit DeviceFault) × (kept ≡ written_answer written) × IsKeptIn makes name text written left)
    ⊎ ((why : CannotOpen) × (kept ≡ Err (fault.Evidence (file.Open why))) × makes name (Err why) × (left ≡ None))

-- the sections of the plays were kept, or memory ran out for them
abbrev pub KeepsEvidence : Opens → List ℕ → Result (Vec ℕ Global) OutOfMemory → Option Device → Result Unit BoardFault
    → Type 0
KeepsEvidence makes name (Ok text) left kept = KeepsText makes name text.items left kept
KeepsEvidence makes name (Err memory) left kept = (kept ≡ Err (fault.Unkept keep.OutOfMemory)) × (left ≡ None)

-- what comes of plays that were written: their evidence was kept, as far as is said
pub record KeepsMade (makes : Opens) (name : List ℕ) (made : PlaysMade) (left : Option Device) (ended : PlaysOutcome)
    : Type 0 where
  pub report : ended.report ≡ made.report
  pub damage : ended.damage ≡ undamaged
  pub keeps : KeepsEvidence makes name made.evidence left ended.kept

-- that, or no plays were written, and no file was made
abbrev pub KeepsAnswer : Opens → List ℕ → Result PlaysMade BoardFault → Option Device → Result PlaysOutcome BoardFault
    → Type 0
KeepsAnswer makes name (Ok made) left (Ok ended) = KeepsMade makes name made left ended
KeepsAnswer makes name (Ok made) left (Err why) = ⊥
KeepsAnswer makes name (Err why) left answer = (answer ≡ Err why) × (left ≡ None)
