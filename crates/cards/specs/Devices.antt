-- What devices tell, what a read takes from a source, and what a write adds to a sink.
use Rattle.std.specs.Prelude.{◌≡◌, ℕ, ◌+◌, ◌-◌, ◌^◌, ◌<◌, ◌≤◌, min, List, [], ◌++◌}
use Rattle.std.specs.Prelude.{length, take, drop, ⊤, Option, None, Some, Result, Ok, Err}
use Rattle.cards.specs.declared.devices.DeviceFault.{DeviceFault}

-- What a device tells: its bytes (those that are left in a source, those that a sink has taken), where it tells them,
-- and how many of its calls have failed.
pub record Device : Type 0 where
  pub bytes : Option (List ℕ)
  pub failed : ℕ

-- a count of failed calls after one more of them: it stops at its greatest value
abbrev pub one_more : ℕ → ℕ
one_more n = min (n + 1) (2 ^ 64 - 1)

-- ---- bytes, where they are told
-- they are as they were
abbrev pub StaysWhereTold : Option (List ℕ) → Option (List ℕ) → Type 0
StaysWhereTold None told' = ⊤
StaysWhereTold (Some told) told' = told' ≡ Some told

-- these bytes were added to those that a sink has taken
abbrev pub AddsWhereTold : Option (List ℕ) → Option (List ℕ) → List ℕ → Type 0
AddsWhereTold None told' piece = ⊤
AddsWhereTold (Some told) told' piece = told' ≡ Some (told ++ piece)

-- these bytes were the first of those that were left in a source, and the others are left now
abbrev pub TakesWhereTold : Option (List ℕ) → Option (List ℕ) → List ℕ → Type 0
TakesWhereTold None left' piece = ⊤
TakesWhereTold (Some left) left' piece = (rest : List ℕ) × (left' ≡ Some rest) × (left ≡ piece ++ rest)

-- none are left in a source
abbrev pub NoneIsLeft : Option (List ℕ) → Type 0
NoneIsLeft None = ⊤
NoneIsLeft (Some left) = left ≡ []

-- ---- what a call does
-- one more call has failed, and no byte came or went
pub record Fails (old new : Device) : Type 0 where
  pub bytes : StaysWhereTold old.bytes new.bytes
  pub counted : new.failed ≡ one_more old.failed

-- A read has put n bytes of what was left into the beginning of the buffer, and the rest of the buffer is as it was.
-- There were none only at the end of the source or where the buffer has no room.
pub record Gives (old new : Device) (buffer buffer' : List ℕ) (n : ℕ) : Type 0 where
  pub within : n ≤ length buffer
  pub given : TakesWhereTold old.bytes new.bytes (take n buffer')
  pub rest : drop n buffer' ≡ drop n buffer
  pub end : n ≡ 0 → 0 < length buffer → NoneIsLeft old.bytes
  pub none_failed : new.failed ≡ old.failed

-- a read that failed leaves the buffer as it was
abbrev pub Reads : Device → Device → List ℕ → List ℕ → Result ℕ DeviceFault → Type 0
Reads old new buffer buffer' (Ok n) = Gives old new buffer buffer' n
Reads old new buffer buffer' (Err fault) = Fails old new × (buffer' ≡ buffer)

-- these bytes were added, and no call failed
pub record Adds (old new : Device) (piece : List ℕ) : Type 0 where
  pub bytes : AddsWhereTold old.bytes new.bytes piece
  pub none_failed : new.failed ≡ old.failed

-- a write took the first n bytes of the piece, at least one where there are any
pub record Takes (old new : Device) (piece : List ℕ) (n : ℕ) : Type 0 where
  pub within : n ≤ length piece
  pub some : 0 < length piece → 0 < n
  pub adds : Adds old new (take n piece)

-- one write of a piece
abbrev pub WritesPiece : Device → Device → List ℕ → Result ℕ DeviceFault → Type 0
WritesPiece old new piece (Ok n) = Takes old new piece n
WritesPiece old new piece (Err fault) = Fails old new

-- a beginning of the text was added, and the call after it failed: some of the text was still to be added
pub record AddsBeginning (old new : Device) (text : List ℕ) : Type 0 where
  pub count : ℕ
  pub within : count < length text
  pub bytes : AddsWhereTold old.bytes new.bytes (take count text)
  pub counted : new.failed ≡ one_more old.failed

-- the writing of a whole text, whatever else is answered
abbrev pub Writes : {X E : Type 0} → Device → Device → List ℕ → Result X E → Type 0
Writes old new text (Ok answer) = Adds old new text
Writes old new text (Err fault) = AddsBeginning old new text
