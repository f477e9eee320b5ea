-- What `plays --audit` does with a file of evidence.
use Rattle.std.specs.Prelude.{◌≡◌, ℕ, List, Result, Ok, Err, ◌⊎◌}
use Rattle.cards.specs.Devices.{Device, one_more}
use Rattle.streams.specs.Inputs.{IsReadToEnd, Loses}
use Rattle.streams.specs.RunStreams.{Devices}
use Rattle.evidence.specs.declared.damages.Damage.{Damage}
use Rattle.play_evidence.specs.Answers.{answers_of}
use Rattle.play_evidence.specs.Sections.{PlaySectionShape}
use Rattle.play_evidence.specs.Wholes.{IsWhole}
use Rattle.play_evidence.specs.declared.wholes.WholeEvidence.{WholeEvidence}
use Rattle.play_pages.specs.declared.making.PlaysMade.{PlaysMade}
use Rattle.run_ends.specs.NamedFiles.{Opens}
use Rattle.run_ends.specs.declared.named_files.FileFault.TheVariants as file
use Rattle.board_subcommands.specs.declared.faults.BoardFault.{BoardFault}
use Rattle.board_subcommands.specs.declared.faults.BoardFault.TheVariants as fault
use Rattle.board_subcommands.specs.declared.plays.ends.PlaysOutcome.{PlaysOutcome}
use Rattle.board_subcommands.specs.declared.plays.options.PlaysOptions.{PlaysOptions}
use Rattle.board_subcommands.specs.Plays.Games.{PlaysOn}

-- the file of this name was opened and read to its end, and has these sections and this damage
pub record HasSections (opens : Opens) (name : List ℕ) (sections : List PlaySectionShape) (damage : Damage)
    : Type 0 where
  pub source : Device
  pub opened : opens name (Ok source)
  pub none_failed : source.failed ≡ 0
  pub left : Device
  pub text : List ℕ
  pub read : IsReadToEnd source left text
  pub whole : IsWhole text sections damage

-- why the file gave no sections: it can't be opened, or it can't be read to its end, or memory ran out
abbrev pub LacksSections : Opens → List ℕ → BoardFault → Type 0
LacksSections opens name (fault.Evidence (file.Open why)) = opens name (Err why)
LacksSections opens name (fault.Evidence file.Read) =
    (source : Device) × (left : Device) × opens name (Ok source) × Loses source left (one_more source.failed)
LacksSections opens name fault.OutOfMemory = (source : Device) × opens name (Ok source)
LacksSections opens name _ = ⊥

-- the sections of the file, or why it gave none
abbrev pub ReadsSections : Opens → List ℕ → Result WholeEvidence BoardFault → Type 0
ReadsSections opens name (Ok whole) = HasSections opens name whole.sections.items whole.damage
ReadsSections opens name (Err why) = LacksSections opens name why

-- plays were written with the sections in place of a solver
pub record AuditsMade (opens : Opens) (options : PlaysOptions) (name : List ℕ) (old new : Devices)
    (ended : PlaysOutcome)
    : Type 0 where
  pub sections : List PlaySectionShape
  pub has : HasSections opens name sections ended.damage
  pub made : PlaysMade
  pub plays : PlaysOn (answers_of sections) opens options options.games old new (Ok made)
  pub report : ended.report ≡ made.report
  pub kept : ended.kept ≡ Ok tt

-- That, or the file gave no sections, and nothing of the games was read and nothing was written; or no plays were
-- written with its sections.
abbrev pub AuditsPlays : Opens → PlaysOptions → List ℕ → Devices → Devices → Result PlaysOutcome BoardFault → Type 0
AuditsPlays opens options name old new (Ok ended) = AuditsMade opens options name old new ended
AuditsPlays opens options name old new (Err why) =
    (LacksSections opens name why × (new ≡ old))
    ⊎ ((sections : List PlaySectionShape) × (damage : Damage) × HasSections opens name sections damage
    × PlaysOn (answers_of sections) opens options options.games old new (Err why))
