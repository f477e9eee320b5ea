-- The page of recorded plays that is made of a text of games.
use Rattle.std.specs.Prelude.{◌≡◌, ℕ, List, Result, Ok, Err, IfOk, count_by, length}
use Rattle.cards.specs.Devices.{Device, Adds, AddsBeginning, one_more}
use Rattle.streams.specs.Inputs.{IsReadToEnd, Loses}
use Rattle.streams.specs.RunStreams.{Devices}
use Rattle.streams.specs.declared.inputs.InputFault.{InputFault}
use Rattle.streams.specs.declared.inputs.InputFault.TheVariants as input
use Rattle.play_claims.specs.Solvers.{MayFindPlay}
use Rattle.recorded_plays.specs.declared.plays.RecordedGame.{RecordedGame}
use Rattle.recorded_plays.specs.Games.{HasPlays}
use Rattle.play_pages.specs.declared.faults.PlaysFault.{PlaysFault}
use Rattle.play_pages.specs.declared.faults.PlaysFault.TheVariants.{OutOfMemory, Read, Write}
use Rattle.play_pages.specs.declared.making.PlaysMade.{PlaysMade}
use Rattle.play_pages.specs.declared.making.PlaysReport.{PlaysReport}
use Rattle.play_pages.specs.declared.queries.PlayQuery.{PlayQuery}
use Rattle.play_pages.specs.declared.lines.PlayLines.{PlayLines}
use Rattle.play_pages.specs.Answers.{AreFoundOn}
use Rattle.play_pages.specs.Evidence.{evidence_text}
use Rattle.play_pages.specs.Counts.{missing_count, is_passed_over, is_lacking, is_illegal, is_cut}

-- a page, of games and the lines of their plays by the games' places
abbrev pub PlaysText : Type 0
PlaysText = List RecordedGame → (ℕ → PlayLines) → List ℕ

-- The source was read to its end, these are the games of its text, and the lines are those that were found for their
-- plays.
pub record FindsPlays (may_find : MayFindPlay) (query : PlayQuery) (old new : Device) (games : List RecordedGame)
    (lines : ℕ → PlayLines)
    : Type 0 where
  pub text : List ℕ
  pub all : IsReadToEnd old new text
  pub read : HasPlays text games
  pub found : AreFoundOn may_find query games lines

-- the report counts what is missing and what was passed over
pub record Reports (games : List RecordedGame) (lines : ℕ → PlayLines) (report : PlaysReport) : Type 0 where
  pub count : report.games ≡ length games
  pub missing : report.missing ≡ missing_count games lines
  pub passed_over : report.passed_over ≡ count_by is_passed_over games
  pub lacking : report.lacking ≡ count_by is_lacking games
  pub illegal : report.illegal ≡ count_by is_illegal games
  pub cut : report.cut ≡ count_by is_cut games

-- the page was written, and these are the sections of the plays, unless memory ran out for them
pub record WritesPlays (may_find : MayFindPlay) (query : PlayQuery) (text : PlaysText) (old new : Devices)
    (made : PlaysMade)
    : Type 0 where
  pub games : List RecordedGame
  pub lines : ℕ → PlayLines
  pub finds : FindsPlays may_find query old.source new.source games lines
  pub written : Adds old.sink new.sink (text games lines)
  pub reports : Reports games lines made.report
  pub evidence : IfOk made.evidence (λ bytes. bytes.items ≡ evidence_text games lines)

-- a beginning of the page was written, and then the sink failed
pub record BeginsPlays (may_find : MayFindPlay) (query : PlayQuery) (text : PlaysText) (old new : Devices)
    : Type 0 where
  pub games : List RecordedGame
  pub lines : ℕ → PlayLines
  pub finds : FindsPlays may_find query old.source new.source games lines
  pub written : AddsBeginning old.sink new.sink (text games lines)

-- The answer, the bytes read from the source and the bytes in the sink. If the source failed or memory ran out, the
-- bytes that were read are the first of the source. After a fault something was written only if the sink failed.
abbrev pub MakesPlays : MayFindPlay → PlayQuery → PlaysText → Devices → Devices → Result PlaysMade PlaysFault → Type 0
MakesPlays may_find query text old new (Ok made) = WritesPlays may_find query text old new made
MakesPlays may_find query text old new (Err OutOfMemory) =
    Loses old.source new.source old.source.failed × (new.sink ≡ old.sink)
MakesPlays may_find query text old new (Err Read) =
    Loses old.source new.source (one_more old.source.failed) × (new.sink ≡ old.sink)
MakesPlays may_find query text old new (Err Write) = BeginsPlays may_find query text old new

-- why a source could not be read
abbrev pub input_fault : InputFault → PlaysFault
input_fault input.OutOfMemory = OutOfMemory
input_fault input.Read = Read
