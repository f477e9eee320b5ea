-- The reading of a whole source.
use Rattle.std.specs.Prelude.{◌≡◌, ℕ, List, [], Option, None, Some, ⊤}
use Rattle.cards.specs.Devices.{Device, TakesWhereTold, one_more}
use Rattle.streams.specs.declared.inputs.InputFault.{InputFault}
use Rattle.streams.specs.declared.inputs.InputFault.TheVariants.{OutOfMemory, Read}

-- the text is all that was left of the source, where it tells that, and nothing is left
abbrev pub IsAllOf : Option (List ℕ) → Option (List ℕ) → List ℕ → Type 0
IsAllOf None left' text = ⊤
IsAllOf (Some left) left' text = (text ≡ left) × (left' ≡ Some [])

-- the source was read to its end, this is its text, and no call failed
pub record IsReadToEnd (old new : Device) (text : List ℕ) : Type 0 where
  pub all : IsAllOf old.bytes new.bytes text
  pub none_failed : new.failed ≡ old.failed

-- these first bytes of the source were read and lost, and so many calls have failed since
pub record Loses (old new : Device) (failed : ℕ) : Type 0 where
  pub lost : List ℕ
  pub first : TakesWhereTold old.bytes new.bytes lost
  pub counted : new.failed ≡ failed

-- a call that failed is counted, and nothing is where memory ran out
abbrev pub StopsReading : Device → Device → InputFault → Type 0
StopsReading old new OutOfMemory = Loses old new old.failed
StopsReading old new Read = Loses old new (one_more old.failed)
