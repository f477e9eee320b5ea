-- What `play` does with the bytes of a layout, the name of a file with an answer, and the input.
use Rattle.std.specs.Prelude.{◌≡◌, ℕ, ◌-◌, List, Result, Ok, Err}
use Rattle.std.proofs.Common.{Vec, Global}
use Rattle.deal_subcommands.specs.declared.play.sides.ContractSide.{ContractSide}
use Rattle.deal_subcommands.specs.declared.play.sides.ContractSide.TheVariants.{Declarer, Defenders}
use Rattle.deal_subcommands.specs.declared.play.options.PlayOptions.{PlayOptions}
use Rattle.cards.specs.Seats.{side_of, other_side}
use Rattle.cards.specs.Deal.{Deal, size_of}
use Rattle.cards.specs.Devices.{Device, one_more}
use Rattle.pbn_deals.specs.declared.faults.PbnFault.{PbnFault}
use Rattle.pbn_deals.specs.LayoutValue.{SaysLayout}
use Rattle.streams.specs.Inputs.{IsReadToEnd, Loses}
use Rattle.streams.specs.RunStreams.{Devices}
use Rattle.play_rules.specs.Position.{IsReached}
use Rattle.certificate_play.specs.Promises.{Promise, IsKept}
use Rattle.certificate_play.specs.Sides.{promised_by}
use Rattle.play_dialogues.specs.declared.dialogues.End.{End}
use Rattle.play_dialogues.specs.declared.dialogues.End.TheVariants.{Played, Quit, InputEnds, ReadFails, WriteFails}
use Rattle.play_dialogues.specs.declared.dialogues.End.TheVariants as end
use Rattle.play_dialogues.specs.Dialogues.{IsDialogue, IsSamePlay}
use Rattle.checker.specs.declared.entries.Shown.{Shown}
use Rattle.checker.specs.declared.hand_faults.HandFault.{HandFault}
use Rattle.deal_subcommands.specs.declared.faults.DealFault.{DealFault}
use Rattle.deal_subcommands.specs.declared.faults.DealFault.TheVariants.{OutOfMemory, Read, Write, Layout, AnswerFile}
use Rattle.run_ends.specs.declared.named_files.FileFault.TheVariants as file
use Rattle.run_ends.specs.declared.statuses.Status.{Status}
use Rattle.run_ends.specs.declared.statuses.Status.TheVariants.{Done, Incomplete}
use Rattle.run_ends.specs.NamedFiles.{Opens}
use Rattle.deal_subcommands.specs.Check.Runs.{IsVerdictOf, LacksVerdict, Prints, IsVerdictLine}
use Rattle.std.specs.Prelude.{Some}
use Rattle.streams.specs.RunStreams.{RunDevices}
use Rattle.deal_subcommands.specs.Runs.{Runs}

-- ---- the file with the answer
-- the file of this name was opened, and what it gave is so
pub record IsReadFrom (opens : Opens) (name : List ℕ) (Fact : Device → Device → Type 0) : Type 0 where
  pub file : Device
  pub opened : opens name (Ok file)
  pub none_failed : file.failed ≡ 0
  pub left : Device
  pub fact : Fact file left

-- the text of the file, or why there is none
abbrev pub ReadsFile : Opens → List ℕ → Result (Vec ℕ Global) DealFault → Type 0
ReadsFile opens name (Ok text) = IsReadFrom opens name (λ file left. IsReadToEnd file left text.items)
ReadsFile opens name (Err (AnswerFile (file.Open why))) = opens name (Err why)
ReadsFile opens name (Err (AnswerFile file.Read)) =
    IsReadFrom opens name (λ file left. Loses file left (one_more file.failed))
ReadsFile opens name (Err OutOfMemory) = IsReadFrom opens name (λ file left. Loses file left file.failed)
ReadsFile opens name (Err _) = ⊥

-- ---- the dialogue
-- what a side has promised of the contract that was shown
abbrev pub promise_of : ContractSide → Shown → Promise
promise_of Declarer shown =
    promised_by (side_of shown.declarer) shown.k shown.layout shown.declarer shown.trump
promise_of Defenders shown =
    promised_by (other_side (side_of shown.declarer)) (size_of shown.layout - shown.k) shown.layout shown.declarer
    shown.trump

-- how a run ends with the end of a dialogue
abbrev pub ended_by : End → Result Status DealFault
ended_by Played = Ok Done
ended_by Quit = Ok Done
ended_by InputEnds = Ok Incomplete
ended_by ReadFails = Err Read
ended_by WriteFails = Err Write
ended_by end.OutOfMemory = Err OutOfMemory

-- The side has promised the tricks that were shown, and this was the dialogue: what was played in it is legal, and when
-- all cards are played the side has its tricks.
pub record Converses (shown : Shown) (side : ContractSide) (old new : Devices)
    (answer : Result Status DealFault) : Type 0 where
  pub end : End
  pub answer_is : answer ≡ ended_by end
  pub last : Promise
  pub dialogue : IsDialogue (promise_of side shown) old.source new.source old.sink new.sink end last
  pub same : IsSamePlay (promise_of side shown) last
  pub reached : IsReached last.position
  pub kept : IsKept last

-- ---- the answer and the play
-- the layout that the bytes spell, and the text of the file
pub record HasAnswer (opens : Opens) (options : PlayOptions) (deal : Deal) (text : List ℕ) : Type 0 where
  pub spelt : SaysLayout options.layout.now (Ok deal)
  pub read : IsReadFrom opens options.answer.now (λ file left. IsReadToEnd file left text)

-- the verdict on the answer in the file
pub record HasVerdict (opens : Opens) (options : PlayOptions) (verdict : Result Shown HandFault) : Type 0 where
  pub deal : Deal
  pub text : List ℕ
  pub answer : HasAnswer opens options deal text
  pub is : IsVerdictOf text deal options.declarer options.trump verdict

-- What was answered, what the input has given, and what the output has got. Where the bytes spell no layout, the file
-- can't be read or has no answer, both are as they were; where the answer is refused the input is, and the output has
-- the line of the verdict.
pub data PlaysAnswer (opens : Opens) (options : PlayOptions) (old new : Devices)
    (answer : Result Status DealFault) : Type 0 where
  is_no_layout : (fault : PbnFault) → answer ≡ Err (Layout fault) → SaysLayout options.layout.now (Err fault)
      → new ≡ old
      → PlaysAnswer opens options old new answer
  is_unread : (deal : Deal) → SaysLayout options.layout.now (Ok deal)
      → (fault : DealFault) → answer ≡ Err fault → ReadsFile opens options.answer.now (Err fault)
      → new ≡ old
      → PlaysAnswer opens options old new answer
  is_no_answer : (deal : Deal) → (text : List ℕ) → HasAnswer opens options deal text
      → (fault : DealFault) → answer ≡ Err fault
      → LacksVerdict text fault
      → new ≡ old
      → PlaysAnswer opens options old new answer
  is_refused : (fault : HandFault) → HasVerdict opens options (Err fault) → new.source ≡ old.source
      → Prints IsVerdictLine (Err fault) old.sink new.sink answer
      → PlaysAnswer opens options old new answer
  is_played : (shown : Shown) → HasVerdict opens options (Ok shown)
      → Converses shown options.side old new answer
      → PlaysAnswer opens options old new answer

-- ---- the whole run
abbrev pub RunsPlay : Opens → PlayOptions → RunDevices → RunDevices → Status → Type 0
RunsPlay opens options old new status = Runs (PlaysAnswer opens options) (Some options.answer.now) old new status
