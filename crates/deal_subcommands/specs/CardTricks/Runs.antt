-- What a run for the cards that may be played does.
use Rattle.std.specs.Prelude.{◌≡◌, ℕ, List, Option, None, Some, Result, Ok, Err}
use Rattle.cards.specs.Devices.{Device, Writes}
use Rattle.cards.specs.declared.devices.DeviceFault.{DeviceFault}
use Rattle.certificate_graph.specs.Solvers.{MayFindCards}
use Rattle.card_values.specs.Texts.{values_text}
use Rattle.streams.specs.RunStreams.{RunDevices}
use Rattle.run_ends.specs.NamedFiles.{IsKeptIn, Opens}
use Rattle.run_ends.specs.declared.named_files.FileFault.TheVariants as file
use Rattle.run_ends.specs.declared.statuses.Status.{Status}
use Rattle.run_ends.specs.declared.statuses.Status.TheVariants.{Done}
use Rattle.deal_subcommands.specs.Faults.{done_answer}
use Rattle.deal_subcommands.specs.Runs.{Runs}
use Rattle.deal_subcommands.specs.CardTricks.LastFlush.{HandsOnFirst}
use Rattle.deal_subcommands.specs.CardTricks.Audit.{AuditsCards}
use Rattle.deal_subcommands.specs.CardTricks.Kept.{FindsKept, KeepsFor}
use Rattle.deal_subcommands.specs.CardTricks.Valuing.{ValuesCards}
use Rattle.deal_subcommands.specs.declared.card_tricks.kept.KeptCards.{KeptCards}
use Rattle.deal_subcommands.specs.declared.card_tricks.options.CardsOptions.{CardsOptions}
use Rattle.command_words.specs.declared.proofs.Proof.{Proof}
use Rattle.command_words.specs.declared.proofs.Proof.TheVariants.{Dropped, Kept, Audited}
use Rattle.deal_subcommands.specs.declared.faults.DealFault.{DealFault}
use Rattle.deal_subcommands.specs.declared.faults.DealFault.TheVariants.{AnswerFile, Evidence, Unkept, Write}

-- ---- an audit
-- what comes of what it answers: the file that was named is that of the evidence
abbrev pub evidence_answer : Result Status DealFault → Result Status DealFault
evidence_answer (Err (AnswerFile why)) = Err (Evidence why)
evidence_answer ended = ended

-- ---- evidence that is kept
-- What was found and kept in a file of this name, and what the sink has got of it: the values, or a beginning of them,
-- and then a write has failed.
pub record HasKept (may_find : MayFindCards) (makes : Opens) (options : CardsOptions) (name : List ℕ)
    (sink sink' : Device) (left : Option Device) (written printed : Result Unit DeviceFault) : Type 0 where
  pub kept : KeptCards
  pub found : KeepsFor may_find options (Ok kept)
  pub file : IsKeptIn makes name kept.text.items written left
  pub prints : Writes sink sink' (values_text kept.values) printed

-- How a run ends whose evidence was written so, and then its values so: all is done, or not all evidence is in its
-- file, or the output has failed.
abbrev pub kept_answer : Result Unit DeviceFault → Result Unit DeviceFault → Result Status DealFault
kept_answer (Ok done) (Ok printed) = Ok Done
kept_answer (Err fault) (Ok printed) = Err Unkept
kept_answer written (Err fault) = Err Write

-- values were found, and no file of this name can be made
abbrev pub LacksFile : MayFindCards → Opens → CardsOptions → List ℕ → DealFault → Type 0
LacksFile may_find makes options name (Evidence (file.Open why)) =
    (kept : KeptCards) × KeepsFor may_find options (Ok kept) × makes name (Err why)
LacksFile may_find makes options name _ = ⊥

-- What was answered, what the sink has got, and what the file is after the run, if one was made. With all faults but
-- these two nothing was made and nothing was printed.
pub data KeepsCards (may_find : MayFindCards) (makes : Opens) (options : CardsOptions) (name : List ℕ)
    (sink sink' : Device) (left : Option Device) (ended : Result Status DealFault) : Type 0 where
  is_kept : (written printed : Result Unit DeviceFault) → ended ≡ kept_answer written printed
      → HasKept may_find makes options name sink sink' left written printed
      → KeepsCards may_find makes options name sink sink' left ended
  is_unmade : (fault : DealFault) → ended ≡ Err fault → LacksFile may_find makes options name fault → sink' ≡ sink
      → left ≡ None
      → KeepsCards may_find makes options name sink sink' left ended
  is_none : (fault : DealFault) → ended ≡ Err fault → FindsKept may_find options (Err fault) → sink' ≡ sink
      → left ≡ None
      → KeepsCards may_find makes options name sink sink' left ended

-- ---- all three
abbrev pub DoesCards : MayFindCards → Opens → Opens → CardsOptions → Proof → Device → Device → Option Device
    → Result Status DealFault → Type 0
DoesCards may_find opens makes options Dropped sink sink' left ended =
    (found : Result Unit DealFault) × (ended ≡ done_answer found) × ValuesCards may_find options sink sink' found
    × (left ≡ None)
DoesCards may_find opens makes options (Kept name) sink sink' left ended =
    KeepsCards may_find makes options name.now sink sink' left ended
DoesCards may_find opens makes options (Audited name) sink sink' left ended =
    (answered : Result Status DealFault) × (ended ≡ evidence_answer answered)
    × AuditsCards opens options name.now sink sink' answered
    × (left ≡ None)

-- the name of the file with the evidence, if there is one
abbrev pub file_of : Proof → Option (List ℕ)
file_of Dropped = None
file_of (Kept name) = Some name.now
file_of (Audited name) = Some name.now

-- that, and then the output hands on all before it is said that not all evidence is in its file
pub record DoesCardsFirst (may_find : MayFindCards) (opens makes : Opens) (options : CardsOptions)
    (left : Option Device) (handed_on : Option (List ℕ)) (sink sink' : Device) (ended : Result Status DealFault)
    : Type 0 where
  pub between : Device
  pub answer : Result Status DealFault
  pub does : DoesCards may_find opens makes options options.proof sink between left answer
  pub first : HandsOnFirst answer between sink' handed_on ended

-- a whole run: the input stays as it was, and this is the file after it, if one was made
abbrev pub RunsCards : MayFindCards → Opens → Opens → CardsOptions → RunDevices → RunDevices → Option Device
    → Option (List ℕ) → Status → Type 0
RunsCards may_find opens makes options old new left handed_on status =
    Runs (λ before after answer. (after.source ≡ before.source)
    × DoesCardsFirst may_find opens makes options left handed_on before.sink after.sink answer)
    (file_of options.proof) old new status
