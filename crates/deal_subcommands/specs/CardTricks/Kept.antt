-- What `cards --evidence` finds, and the text of its evidence.
use Rattle.std.specs.Prelude.{ℕ, ◌⊎◌, Option, None, Some, Result, Ok, Err, ⊤}
use Rattle.deal_subcommands.specs.declared.card_tricks.options.CardsOptions.{CardsOptions}
use Rattle.certificate_graph.specs.declared.card_claims.CardBundle.{CardBundle}
use Rattle.certificate_graph.specs.Solvers.{MayFindCards}
use Rattle.play_rules.specs.Position.{Position}
use Rattle.card_values.specs.declared.faults.CardFault.{CardFault}
use Rattle.certified_cards.specs.Bundles.{LacksValues, ShowsValues}
use Rattle.certified_cards.specs.Searches.{MayAnswer}
use Rattle.card_evidence.specs.Sections.{IsCardSection, shape_of}
use Rattle.deal_subcommands.specs.declared.faults.DealFault.{DealFault}
use Rattle.deal_subcommands.specs.declared.faults.DealFault.TheVariants.{NoAnswer, OutOfMemory}
use Rattle.deal_subcommands.specs.declared.card_tricks.kept.KeptCards.{KeptCards}
use Rattle.deal_subcommands.specs.CardTricks.Audit.{HasBundle}
use Rattle.deal_subcommands.specs.CardTricks.Played.{BeginsTrick, IsTrickOf}

-- the solver's answer, or why there is none
abbrev pub AsksSolver : MayFindCards → Position → ℕ → Result CardBundle DealFault → Type 0
AsksSolver may_find position budget (Ok bundle) = MayAnswer may_find position budget (Some bundle)
AsksSolver may_find position budget (Err NoAnswer) = MayAnswer may_find position budget None
AsksSolver may_find position budget (Err OutOfMemory) =
    (answer : Option CardBundle) × MayAnswer may_find position budget answer
AsksSolver may_find position budget (Err _) = ⊥

-- the solver's answer shows these values, and the text is that of its section
pub record AreKept (may_find : MayFindCards) (position : Position) (budget : ℕ) (kept : KeptCards) : Type 0 where
  pub bundle : CardBundle
  pub answer : MayAnswer may_find position budget (Some bundle)
  pub shown : ShowsValues bundle position kept.values
  pub text : HasBundle kept.text.items position bundle

-- the answer is none, is of no section, or shows no values
abbrev pub IsNotKept : Option CardBundle → Position → Type 0
IsNotKept None position = ⊤
IsNotKept (Some bundle) position =
    (IsCardSection (shape_of position bundle) → ⊥) ⊎ ((why : CardFault) × LacksValues bundle position why)

abbrev pub KeepsValues : MayFindCards → Position → ℕ → Result KeptCards DealFault → Type 0
KeepsValues may_find position budget (Ok kept) = AreKept may_find position budget kept
KeepsValues may_find position budget (Err NoAnswer) =
    (answer : Option CardBundle) × MayAnswer may_find position budget answer × IsNotKept answer position
KeepsValues may_find position budget (Err OutOfMemory) =
    (answer : Option CardBundle) × MayAnswer may_find position budget answer
KeepsValues may_find position budget (Err _) = ⊥

-- the options name a trick, for which this was found
abbrev pub KeepsFor : MayFindCards → CardsOptions → Result KeptCards DealFault → Type 0
KeepsFor may_find options kept =
    (position : Position) × IsTrickOf options position × KeepsValues may_find position options.budget kept

abbrev pub FindsKept : MayFindCards → CardsOptions → Result KeptCards DealFault → Type 0
FindsKept may_find options (Ok kept) = KeepsFor may_find options (Ok kept)
FindsKept may_find options (Err NoAnswer) = KeepsFor may_find options (Err NoAnswer)
FindsKept may_find options (Err OutOfMemory) = KeepsFor may_find options (Err OutOfMemory)
FindsKept may_find options (Err why) = BeginsTrick options (Err why)
