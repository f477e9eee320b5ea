-- What is printed of a fault, and how a run ends.
use Rattle.std.specs.Prelude.{◌≡◌, ℕ, List, ◌∷◌, ◌++◌, ◌⊎◌, [], Option, None, Some, Result, Ok, Err, codes}
use Rattle.std.specs.Fmt.{decimal}
use Rattle.cards.specs.Devices.{Device, Adds, AddsBeginning}
use Rattle.streams.specs.declared.opening.CannotOpen.{CannotOpen}
use Rattle.run_ends.specs.declared.statuses.Status.{Status}
use Rattle.run_ends.specs.Explanations.{explained}
use Rattle.cards.specs.Bytes as ascii

-- a place of the input before a text
abbrev pub after_line : Option ℕ → List ℕ → List ℕ
after_line None text = text
after_line (Some line) text = codes "line " ++ decimal line ++ codes ": " ++ text

-- the line of a fault of which this is said
abbrev pub told_line : List ℕ → List ℕ
told_line said = codes "ddfarm: " ++ said ++ ascii.line_feed ∷ []

-- all that is written of a fault, by the name of the file that was to be opened, what is said, why a file can't be
-- opened, and what explains any other fault
abbrev pub told_text : Option (List ℕ) → List ℕ → Option CannotOpen → List ℕ → List ℕ
told_text name said opening explanation = told_line said ++ explained name explanation opening

-- the error output has the line, and no call of it failed; or a beginning of the line, before a call failed
abbrev pub IsTold : Device → Device → List ℕ → Type 0
IsTold old new line = Adds old new line ⊎ AddsBeginning old new line

-- How a run ends, by the status of its fault, what is said of it, why a file can't be opened, what explains any other
-- fault, and the name of the file. Nothing is printed of a run that did what was asked.
abbrev pub Ends : {Fault : Type 0} → (Fault → Status) → (Fault → List ℕ) → (Fault → Option CannotOpen)
    → (Fault → List ℕ) → Option (List ℕ) → Result Status Fault → Device → Device → Status → Type 0
Ends status_of said_of opening_of explanation_of file (Ok reached) errors errors' status =
    (status ≡ reached) × (errors' ≡ errors)
Ends status_of said_of opening_of explanation_of file (Err fault) errors errors' status =
    (status ≡ status_of fault)
    × IsTold errors errors' (told_text file (said_of fault) (opening_of fault) (explanation_of fault))
