-- The evidence of a denomination, and what a call answers.
use Rattle.std.specs.Prelude.{◌≡◌, ◌⊎◌, ℕ, ◌<◌, ◌≤◌, ℤ, pos, List, ◌++◌, length, drop, IsSome}
use Rattle.cards.specs.declared.suits.Trump.{Trump}
use Rattle.cards.specs.Deal.{Deal}
use Rattle.certificate_graph.specs.declared.bundles.Bundle.{Bundle}
use Rattle.certified_tricks.specs.Searches.{AreKnownBy}
use Rattle.certified_tricks.specs.declared.answers.FourTricks.{FourTricks}
use Rattle.evidence.specs.Sections.{kept_of}
use Rattle.evidence.specs.SectionTexts.{IsTextOf}
use Rattle.dds_calls.specs.declared.finding.RowFault.{RowFault}
use Rattle.dds_calls.specs.declared.tables.TableDeal.{TableDeal}
use Rattle.dds_calls.specs.Denominations.{denomination_number}
use Rattle.dds_calls.specs.Hands.{IsLayoutIn}
use Rattle.dds_calls.specs.Tables.{IsRowFault, row_code}

-- the tricks of each declarer are known
pub record AllAreKnown (tricks : FourTricks) : Type 0 where
  pub north : IsSome tricks.north
  pub east : IsSome tricks.east
  pub south : IsSome tricks.south
  pub west : IsSome tricks.west

-- The text is a section of evidence for the layout and the denomination that were asked for. Its graphs show the tricks
-- of all four declarers.
pub record IsEvidence (deal : TableDeal) (strain : ℤ) (text : List ℕ) : Type 0 where
  pub layout : Deal
  pub trump : Trump
  pub is_layout : IsLayoutIn deal.cards layout
  pub strain_is : denomination_number trump ≡ strain
  pub bundle : Bundle
  pub tricks : FourTricks
  pub known : AreKnownBy layout trump bundle tricks
  pub all_known : AllAreKnown tricks
  pub section : IsTextOf text (kept_of layout trump bundle)

-- the text is at the front of the buffer, if the buffer has room for it
pub record IsCopied (text old new : List ℕ) : Type 0 where
  pub fits : length text ≤ length old → new ≡ text ++ drop (length text) old
  pub too_long : length old < length text → new ≡ old

-- what a call answers: the length and the text, or the code of the fault
abbrev pub AnswersEvidence : TableDeal → ℤ → List ℕ → List ℕ → ℤ → Type 0
AnswersEvidence deal strain old new answer =
    ((text : List ℕ) × (answer ≡ pos (length text)) × IsEvidence deal strain text × IsCopied text old new)
    ⊎ ((fault : RowFault) × (answer ≡ row_code fault) × IsRowFault deal strain fault × (new ≡ old))
