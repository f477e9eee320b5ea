-- The end of the first piece of a text, as it is looked for while the text is read.
use Rattle.std.specs.Prelude.{◌≡◌, ℕ, ◌+◌, ◌-◌, ◌^◌, ◌<◌, ◌≤◌, min, List, [], ◌++◌, length, ◌⊎◌}
use Rattle.std.specs.Prelude.{Bool, true, false, Result, Ok, Err}
use Rattle.memchr.specs.Find.{OccursAt}
use Rattle.cards.specs.Devices.{Device, TakesWhereTold, NoneIsLeft, Fails}
use Rattle.streams.specs.Inputs.{IsAllOf}
use Rattle.streams.specs.declared.inputs.InputFault.{InputFault}
use Rattle.streams.specs.declared.inputs.InputFault.TheVariants.{OutOfMemory, Read}
use Rattle.evidence.specs.Pieces.{border, greatest_length}

-- some bytes were read behind those that are held, and no call failed
pub record Holds (old new : Device) (held held' : List ℕ) (taken : List ℕ) : Type 0 where
  pub given : TakesWhereTold old.bytes new.bytes taken
  pub behind : held' ≡ held ++ taken
  pub none_failed : new.failed ≡ old.failed

-- one read more: some bytes, or the end of the source; where memory ran out what was read is lost
abbrev pub ReadsOn : Device → Device → List ℕ → List ℕ → Result Bool InputFault → Type 0
ReadsOn old new held held' (Ok true) = (taken : List ℕ) × Holds old new held held' taken × (1 ≤ length taken)
ReadsOn old new held held' (Ok false) = NoneIsLeft old.bytes × Holds old new held held' []
ReadsOn old new held held' (Err OutOfMemory) =
    (taken : List ℕ) × TakesWhereTold old.bytes new.bytes taken × (new.failed ≡ old.failed)
ReadsOn old new held held' (Err Read) = Fails old new

-- the piece ends in this place of what was seen: before the first title behind the end of a line, or where no title
-- stands and all was seen
abbrev pub IsEndIn : Type 0 → List ℕ → ℕ → Type 0
IsEndIn AllSeen seen end =
    ((1 ≤ end) × OccursAt seen border (end - 1) × ((place : ℕ) → place < end - 1 → OccursAt seen border place → ⊥)) ⊎
    (AllSeen × (end ≡ length seen) × ((place : ℕ) → OccursAt seen border place → ⊥))

-- what was read is what was passed and what is held; more than a section may have was passed, or nothing
abbrev pub IsPassed : Bool → List ℕ → Type 0
IsPassed true passed = greatest_length < length passed
IsPassed false passed = passed ≡ []

-- bytes were let go, more than a section may have, or none
abbrev pub IsLetGo : Bool → Bool → List ℕ → List ℕ → Type 0
IsLetGo is_long is_long' cut held' =
    ((is_long' ≡ true) × (greatest_length < length cut) × (6 ≤ length held')) ⊎ ((is_long' ≡ is_long) × (cut ≡ []))

pub record Shortens (held held' : List ℕ) (before before' : ℕ) (is_long is_long' : Bool) : Type 0 where
  pub cut : List ℕ
  pub parts : held ≡ cut ++ held'
  pub let_go : IsLetGo is_long is_long' cut held'
  pub counted : before' ≡ min (before + length cut) (2 ^ 64 - 1)

pub record FindsEnd (old new : Device) (held held' : List ℕ) (before before' end : ℕ) (is_long : Bool) : Type 0 where
  pub taken : List ℕ
  pub passed : List ℕ
  pub given : TakesWhereTold old.bytes new.bytes taken
  pub parts : held ++ taken ≡ passed ++ held'
  pub long : IsPassed is_long passed
  pub ends : IsEndIn (IsAllOf old.bytes new.bytes taken) (passed ++ held') (length passed + end)
  pub within : end ≤ length held'
  pub empty : end ≡ 0 → (passed ++ held' ≡ []) × IsAllOf old.bytes new.bytes taken
  pub counted : before' ≡ min (before + length passed) (2 ^ 64 - 1)
  pub none_failed : new.failed ≡ old.failed
