-- What `cards --audit` does with the words and the file of evidence.
use Rattle.std.specs.Prelude.{◌≡◌, ◌≢◌, ℕ, List, Result, Ok, Err}
use Rattle.cards.specs.Devices.{Device, Adds, AddsBeginning}
use Rattle.deal_subcommands.specs.declared.card_tricks.options.CardsOptions.{CardsOptions}
use Rattle.streams.specs.Inputs.{IsReadToEnd}
use Rattle.certificate_graph.specs.declared.card_claims.CardBundle.{CardBundle}
use Rattle.play_rules.specs.Position.{Position}
use Rattle.card_values.specs.CardValues.{ShownValues}
use Rattle.card_values.specs.Texts.{values_text}
use Rattle.card_evidence.specs.Sections.{CardSectionShape, shape_of}
use Rattle.card_evidence.specs.SectionTexts.{IsTextOf}
use Rattle.deal_subcommands.specs.declared.card_tricks.audit.EvidenceRefusal.{EvidenceRefusal}
use Rattle.deal_subcommands.specs.declared.card_tricks.audit.EvidenceRefusal.TheVariants.{Text, Position as OtherPosition}
use Rattle.deal_subcommands.specs.declared.card_tricks.audit.EvidenceRefusal.TheVariants as refusal
use Rattle.deal_subcommands.specs.declared.faults.DealFault.{DealFault}
use Rattle.deal_subcommands.specs.declared.faults.DealFault.TheVariants.{OutOfMemory, Write}
use Rattle.deal_subcommands.specs.declared.faults.DealFault.TheVariants.{AnswerFile}
use Rattle.run_ends.specs.declared.statuses.Status.{Status}
use Rattle.run_ends.specs.declared.statuses.Status.TheVariants.{Done, Rejected}
use Rattle.run_ends.specs.NamedFiles.{Opens}
use Rattle.deal_subcommands.specs.Play.Runs.{IsReadFrom, ReadsFile}
use Rattle.deal_subcommands.specs.CardTricks.Played.{BeginsTrick, IsTrickOf}
use Rattle.certified_cards.specs.Bundles.{ShowsValues, LacksValues}
use Rattle.deal_subcommands.specs.CardTricks.Refusals.{card_refusal_line}

-- the text is that of a section of this trick with this bundle
abbrev pub HasBundle : List ℕ → Position → CardBundle → Type 0
HasBundle text position bundle = IsTextOf text (shape_of position bundle)

-- the text is that of a section of another trick
pub record IsOfAnother (text : List ℕ) (position : Position) : Type 0 where
  pub section : CardSectionShape
  pub text_is : IsTextOf text section
  pub other : section.position ≢ position

-- the values that the text shows for this trick, or why it shows none
abbrev pub IsJudgedText : List ℕ → Position → Result ShownValues EvidenceRefusal → Type 0
IsJudgedText text position (Ok shown) =
    (bundle : CardBundle) × HasBundle text position bundle × ShowsValues bundle position shown
IsJudgedText text position (Err Text) = (section : CardSectionShape) → IsTextOf text section → ⊥
IsJudgedText text position (Err OtherPosition) = IsOfAnother text position
IsJudgedText text position (Err (refusal.Card why)) =
    (bundle : CardBundle) × HasBundle text position bundle × LacksValues bundle position why

-- the text that is written of a judgement, and how the run ends with it
abbrev pub judged_text : Result ShownValues EvidenceRefusal → List ℕ
judged_text (Ok shown) = values_text shown
judged_text (Err why) = card_refusal_line why

abbrev pub judged_status : Result ShownValues EvidenceRefusal → Status
judged_status (Ok shown) = Done
judged_status (Err why) = Rejected

abbrev pub PrintsVerdict : Result ShownValues EvidenceRefusal → Device → Device → Result Status DealFault → Type 0
PrintsVerdict judged sink sink' (Ok status) =
    (status ≡ judged_status judged) × Adds sink sink' (judged_text judged)
PrintsVerdict judged sink sink' (Err Write) = AddsBeginning sink sink' (judged_text judged)
PrintsVerdict judged sink sink' (Err _) = ⊥

-- the trick of the options, and what the evidence in the file shows for it
pub record IsJudgedFile (opens : Opens) (options : CardsOptions) (name : List ℕ)
    (judged : Result ShownValues EvidenceRefusal) : Type 0 where
  pub position : Position
  pub trick : IsTrickOf options position
  pub text : List ℕ
  pub read : IsReadFrom opens name (λ file left. IsReadToEnd file left text)
  pub is : IsJudgedText text position judged

-- why the file gave no text for a trick of the options, or memory ran out
abbrev pub LacksFile : Opens → CardsOptions → List ℕ → DealFault → Type 0
LacksFile opens options name fault =
    (position : Position) × IsTrickOf options position × ReadsFile opens name (Err fault)

-- why nothing was judged: the options name no trick, the file can't be read, or memory ran out
abbrev pub LacksJudgement : Opens → CardsOptions → List ℕ → DealFault → Type 0
LacksJudgement opens options name (AnswerFile why) = LacksFile opens options name (AnswerFile why)
LacksJudgement opens options name OutOfMemory = (position : Position) × IsTrickOf options position
LacksJudgement opens options name fault = BeginsTrick options (Err fault)

-- what was answered, and what the sink has got: with all faults but its own nothing
abbrev pub AuditsCards : Opens → CardsOptions → List ℕ → Device → Device → Result Status DealFault → Type 0
AuditsCards opens options name sink sink' (Ok status) =
    (judged : Result ShownValues EvidenceRefusal) × IsJudgedFile opens options name judged
    × PrintsVerdict judged sink sink' (Ok status)
AuditsCards opens options name sink sink' (Err Write) =
    (judged : Result ShownValues EvidenceRefusal) × IsJudgedFile opens options name judged
    × PrintsVerdict judged sink sink' (Err Write)
AuditsCards opens options name sink sink' (Err fault) = LacksJudgement opens options name fault × (sink' ≡ sink)
