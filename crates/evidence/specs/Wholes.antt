-- What a reader of a whole text is to a contract.
use Rattle.std.specs.Prelude.{ℕ, List}
use Rattle.cards.specs.Devices.{Device}
use Rattle.evidence.specs.declared.parts.Part.{Part}
use Rattle.evidence.specs.Pieces.{reading_of, IsNext}

-- what the source tells, the bytes that were read of it and are not passed yet, and how many bytes stand before them
pub record Whole : Type 0 where
  pub source : Device
  pub held : List ℕ
  pub before : ℕ

abbrev pub IsNextOf : Whole → Whole → Part → Type 0
IsNextOf old new part =
    IsNext (reading_of old.source old.held old.before) (reading_of new.source new.held new.before) part
