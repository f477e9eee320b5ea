-- What `check` does with the bytes of a layout and the input.
use Rattle.std.specs.Prelude.{◌≡◌, ℕ, List, Result, Ok, Err, ⊤}
use Rattle.cards.specs.declared.seats.Seat.{Seat}
use Rattle.cards.specs.declared.suits.Trump.{Trump}
use Rattle.cards.specs.Deal.{Deal}
use Rattle.cards.specs.Devices.{Device, Adds, AddsBeginning, one_more}
use Rattle.pbn_deals.specs.LayoutValue.{SaysLayout}
use Rattle.strategies.specs.Values.{IsValue}
use Rattle.streams.specs.Inputs.{IsReadToEnd, Loses}
use Rattle.streams.specs.RunStreams.{Devices}
use Rattle.checker.specs.declared.entries.Shown.{Shown}
use Rattle.checker.specs.declared.hand_faults.HandFault.{HandFault}
use Rattle.checker.specs.Verdicts.{IsVerdict}
use Rattle.deal_subcommands.specs.declared.faults.DealFault.{DealFault}
use Rattle.deal_subcommands.specs.declared.faults.DealFault.TheVariants.{OutOfMemory, Read, Write, Layout, NoResult}
use Rattle.run_ends.specs.declared.statuses.Status.{Status}
use Rattle.deal_subcommands.specs.Answers.{IsAnswer, LacksResult}
use Rattle.deal_subcommands.specs.VerdictLines.{verdict_line, verdict_status}
use Rattle.std.specs.Prelude.{None}
use Rattle.streams.specs.RunStreams.{RunDevices}
use Rattle.deal_subcommands.specs.Runs.{Runs}
use Rattle.command_words.specs.declared.reading.LayoutWords.{LayoutWords}

-- what a verdict says is so in play: the number shown is the double-dummy value
abbrev pub IsTrueVerdict : Result Shown HandFault → Type 0
IsTrueVerdict (Ok shown) = IsValue shown.layout shown.declarer shown.trump shown.k
IsTrueVerdict (Err fault) = ⊤

-- the text is an answer that has this verdict for the deal
pub record IsVerdictOf (text : List ℕ) (deal : Deal) (declarer : Seat) (trump : Trump)
    (verdict : Result Shown HandFault) : Type 0 where
  pub tricks : ℕ
  pub declarers : List ℕ
  pub defenders : List ℕ
  pub answer : IsAnswer text tricks declarers defenders
  pub judged : IsVerdict deal declarer trump tricks declarers defenders verdict
  pub value : IsTrueVerdict verdict

-- why there is no verdict on a text: it is no answer, or memory ran out
abbrev pub LacksVerdict : List ℕ → DealFault → Type 0
LacksVerdict text NoResult = LacksResult text
LacksVerdict text OutOfMemory = ⊤
LacksVerdict text _ = ⊥

-- The source was read to its end, and its text has this verdict, or is no answer; or the source failed or memory ran
-- out, and the bytes that were read are the first of the source.
abbrev pub ReadsVerdict : Deal → Seat → Trump → Device → Device → Result (Result Shown HandFault) DealFault → Type 0
ReadsVerdict deal declarer trump old new (Ok verdict) =
    (text : List ℕ) × IsReadToEnd old new text × IsVerdictOf text deal declarer trump verdict
ReadsVerdict deal declarer trump old new (Err NoResult) = (text : List ℕ) × IsReadToEnd old new text × LacksResult text
ReadsVerdict deal declarer trump old new (Err OutOfMemory) = Loses old new old.failed
ReadsVerdict deal declarer trump old new (Err Read) = Loses old new (one_more old.failed)
ReadsVerdict deal declarer trump old new (Err _) = ⊥

-- the bytes spell a layout, for which this was read
abbrev pub ReadsFor : List ℕ → Seat → Trump → Device → Device → Result (Result Shown HandFault) DealFault → Type 0
ReadsFor value declarer trump old new read =
    (deal : Deal) × SaysLayout value (Ok deal) × ReadsVerdict deal declarer trump old new read

-- ---- what is written
-- which text is written of a verdict
abbrev pub TextFact : Type 1
TextFact = Result Shown HandFault → List ℕ → Type 0

-- such a text of the verdict was written, or a beginning of it
abbrev pub Prints : TextFact → Result Shown HandFault → Device → Device → Result Status DealFault → Type 0
Prints IsText verdict sink sink' (Ok status) =
    (status ≡ verdict_status verdict) × (text : List ℕ) × IsText verdict text × Adds sink sink' text
Prints IsText verdict sink sink' (Err Write) = (text : List ℕ) × IsText verdict text × AddsBeginning sink sink' text
Prints IsText verdict sink sink' (Err _) = ⊥

-- What was answered for the answer that a source gives, and what the sink has got: a text of the verdict. Bytes that
-- spell no layout leave the source as it was. Where the source failed or memory ran out, the bytes that were read are
-- the first of the source. With all refusals but that of the sink nothing was written.
abbrev pub AnswersSource : TextFact → List ℕ → Seat → Trump → Devices → Devices → Result Status DealFault
    → Type 0
AnswersSource IsText value declarer trump old new (Ok status) =
    (verdict : Result Shown HandFault) × ReadsFor value declarer trump old.source new.source (Ok verdict)
    × Prints IsText verdict old.sink new.sink (Ok status)
AnswersSource IsText value declarer trump old new (Err Write) =
    (verdict : Result Shown HandFault) × ReadsFor value declarer trump old.source new.source (Ok verdict)
    × Prints IsText verdict old.sink new.sink (Err Write)
AnswersSource IsText value declarer trump old new (Err (Layout fault)) =
    SaysLayout value (Err fault) × (new ≡ old)
AnswersSource IsText value declarer trump old new (Err fault) =
    ReadsFor value declarer trump old.source new.source (Err fault) × (new.sink ≡ old.sink)

-- ---- `check`
-- the text is the line of the verdict
abbrev pub IsVerdictLine : TextFact
IsVerdictLine verdict text = text ≡ verdict_line verdict

abbrev pub ChecksAnswer : List ℕ → Seat → Trump → Devices → Devices → Result Status DealFault → Type 0
ChecksAnswer = AnswersSource IsVerdictLine

-- a whole run
abbrev pub RunsCheck : LayoutWords → RunDevices → RunDevices → Status → Type 0
RunsCheck options old new status = Runs (ChecksAnswer options.layout.now options.seat options.trump) None old new status
