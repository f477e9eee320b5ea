-- The lines of a source, as they are read one after another.
use Rattle.std.specs.Prelude.{◌≡◌, ◌≢◌, ℕ, ◌-◌, ◌^◌, ◌≤◌, ◌⊎◌, List, [], ◌∷◌, ◌++◌, length, Contains, ⊤}
use Rattle.std.specs.Prelude.{Option, None, Some, Result, Ok, Err}
use Rattle.cards.specs.Devices.{Device, TakesWhereTold, StaysWhereTold, NoneIsLeft, Fails, one_more}
use Rattle.cards.specs.declared.devices.DeviceFault.{DeviceFault}
use Rattle.play_dialogues.specs.declared.words.Typed.{Typed}
use Rattle.play_dialogues.specs.Words.{letters_of, Says}
use Rattle.cards.specs.Bytes as ascii

-- ---- lines of a text
-- The first line of a text, and what stands behind it: it ends at the first line feed, or with a text that has none. An
-- empty text has no line.
pub record IsFirstLine (text line rest : List ℕ) : Type 0 where
  pub one : Contains line 10 → ⊥
  pub ends : (text ≡ line ++ ascii.line_feed ∷ rest) ⊎ ((text ≡ line) × (line ≢ []) × (rest ≡ []))

-- the first lines of a text, and what stands behind them
abbrev pub AreFirstLines : List ℕ → List (List ℕ) → List ℕ → Type 0
AreFirstLines text [] rest = rest ≡ text
AreFirstLines text (line ∷ lines) rest =
    (behind : List ℕ) × IsFirstLine text line behind × AreFirstLines behind lines rest

-- ---- lines of a source, where it tells its bytes
-- the line is the first of what was left
abbrev pub IsNextLine : Option (List ℕ) → Option (List ℕ) → List ℕ → Type 0
IsNextLine None left' line = ⊤
IsNextLine (Some left) left' line = (rest : List ℕ) × (left' ≡ Some rest) × IsFirstLine left line rest

-- the lines are the first of what was left, and no byte behind them was taken
abbrev pub AreNextLines : Option (List ℕ) → Option (List ℕ) → List (List ℕ) → Type 0
AreNextLines None left' lines = ⊤
AreNextLines (Some left) left' lines = (rest : List ℕ) × (left' ≡ Some rest) × AreFirstLines left lines rest

-- nothing is left
abbrev pub IsEmptyWhereTold : Option (List ℕ) → Option (List ℕ) → Type 0
IsEmptyWhereTold None left' = ⊤
IsEmptyWhereTold (Some left) left' = left' ≡ Some []

-- ---- one call
-- a byte was read, or none was left
abbrev pub GivesByte : Option (List ℕ) → Option (List ℕ) → Option ℕ → Type 0
GivesByte left left' None = NoneIsLeft left × StaysWhereTold left left'
GivesByte left left' (Some byte) = TakesWhereTold left left' (byte ∷ [])

abbrev pub ReadsByte : Device → Device → Result (Option ℕ) DeviceFault → Type 0
ReadsByte old new (Ok byte) = GivesByte old.bytes new.bytes byte × (new.failed ≡ old.failed)
ReadsByte old new (Err fault) = Fails old new

-- a line was read, which says this, or none was left
pub record GivesLine (left left' : Option (List ℕ)) (typed : Typed) : Type 0 where
  pub line : List ℕ
  pub next : IsNextLine left left' line
  pub says : Says (letters_of line) typed

abbrev pub GivesLineOrNone : Option (List ℕ) → Option (List ℕ) → Option Typed → Type 0
GivesLineOrNone left left' None = NoneIsLeft left × StaysWhereTold left left'
GivesLineOrNone left left' (Some typed) = GivesLine left left' typed

-- Some bytes of a line were read and are lost: a call failed and is counted, or the line is longer than can be counted.
pub record LosesLine (old new : Device) : Type 0 where
  pub lost : List ℕ
  pub first : TakesWhereTold old.bytes new.bytes lost
  pub why : (new.failed ≡ one_more old.failed) ⊎ ((new.failed ≡ old.failed) × (2 ^ 64 - 1 ≤ length lost))

-- the reading of a line
abbrev pub ReadsLine : Device → Device → Result (Option Typed) DeviceFault → Type 0
ReadsLine old new (Ok typed) = GivesLineOrNone old.bytes new.bytes typed × (new.failed ≡ old.failed)
ReadsLine old new (Err fault) = LosesLine old new
