-- What is added to the end of a file.
use Rattle.std.specs.Prelude.{◌≡◌, ◌||◌, ℕ, Bool, true, false, not, List, [], ◌∷◌, take, length}
use Rattle.std.specs.Prelude.{nat_eq, nat_le, ◌-◌, ◌≤◌, if◌then◌else◌}
use Rattle.std.specs.Prelude.{Option, None, Some, Result, Ok, Err}
use Rattle.std.proofs.Common.{Vec, Global}
use Rattle.cards.specs.Devices.{AddsWhereTold, StaysWhereTold}
use Rattle.cards.specs.declared.faults.OutOfMemory.{OutOfMemory as NoMemory}
use Rattle.evidence_solvers.specs.declared.tails.Tail.{Tail}
use Rattle.evidence_solvers.specs.declared.faults.KeepFault.{KeepFault}
use Rattle.evidence_solvers.specs.declared.faults.KeepFault.TheVariants.{OutOfMemory, Write}
use Rattle.cards.specs.Bytes as ascii

-- what the file of a tail has, where it tells that
abbrev pub tail_contents : {F : Type 0} → (F → Option (List ℕ)) → Tail F → Option (List ℕ)
tail_contents contents tail = contents tail.file

-- whether a call took all of a text: it took so many bytes, or failed
abbrev pub takes_all : List ℕ → Option ℕ → Bool
takes_all text (Some count) = nat_eq count (length text)
takes_all text None = false

-- a call took so many bytes of a text, or failed and took none
abbrev pub Took : Option (List ℕ) → Option (List ℕ) → List ℕ → Option ℕ → Type 0
Took told told' text (Some count) = (count ≤ length text) × AddsWhereTold told told' (take count text)
Took told told' text None = StaysWhereTold told told'

-- A beginning of a text was added, and it is noted if that isn't all of the text. If something has failed before,
-- nothing was added.
abbrev pub WritesOnce : {F : Type 0} → (F → Option (List ℕ)) → F → F → List ℕ → Bool → Bool → Type 0
WritesOnce contents old new text true failed' = (new ≡ old) × (failed' ≡ true)
WritesOnce contents old new text false failed' =
    (taken : Option ℕ) × Took (contents old) (contents new) text taken × (failed' ≡ not (takes_all text taken))

-- if the last line of a file had no end, a line feed was added so, and else nothing
abbrev pub EndsLastLine : {F : Type 0} → (F → Option (List ℕ)) → F → F → Bool → Bool → Type 0
EndsLastLine contents old new true failed = (new ≡ old) × (failed ≡ false)
EndsLastLine contents old new false failed = WritesOnce contents old new (ascii.line_feed ∷ []) false failed

-- the text was added so, and a sync after it may fail, which is noted too
abbrev pub AddsOne : {F : Type 0} → (F → Option (List ℕ)) → Tail F → Tail F → List ℕ → Type 0
AddsOne contents old new text =
    (missed : Bool) × WritesOnce contents old.file new.file text old.has_failed missed
    × (missed ≡ true → new.has_failed ≡ true)

-- what is done with a text, or why there is none, which is noted
abbrev pub AddsText : {F : Type 0} → (F → Option (List ℕ)) → Tail F → Tail F
    → Result (Option (Vec ℕ Global)) KeepFault → Type 0
AddsText contents old new (Ok (Some text)) = AddsOne contents old new text.items × (new.lacks ≡ old.lacks)
AddsText contents old new (Ok None) = new ≡ old
AddsText contents old new (Err fault) = new ≡ record old { lacks = Err fault }

-- why a text is lacking, after memory may have run out
abbrev pub lacks_after : Result Unit NoMemory → Result Unit KeepFault → Result Unit KeepFault
lacks_after (Ok done) lacks = lacks
lacks_after (Err fault) lacks = Err OutOfMemory

-- the moment of the last sync after a text was added: this one if ten seconds have passed, else the one before
abbrev pub synced_after : ℕ → ℕ → Result (Option (Vec ℕ Global)) KeepFault → ℕ
synced_after synced now (Ok (Some text)) = if nat_le 10 (now - synced) then now else synced
synced_after synced now (Ok None) = synced
synced_after synced now (Err fault) = synced

-- what is said of a file at the end: that writing failed, or else why a text is lacking
abbrev pub said_of : Bool → Result Unit KeepFault → Result Unit KeepFault
said_of true lacks = Err Write
said_of false lacks = lacks

-- that, but the last sync may fail too
abbrev pub EndsAs : Bool → Result Unit KeepFault → Result Unit KeepFault → Type 0
EndsAs failed lacks kept = (missed : Bool) × (kept ≡ said_of (failed || missed) lacks)
