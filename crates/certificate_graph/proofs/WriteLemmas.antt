-- The same text, told otherwise.
use Rattle.std.proofs.Common.{◌≡◌, ℕ, List, ◌++◌, Result, subst}
use Rattle.std.specs.Prelude.{IsErrAnd}
use Rattle.cards.specs.Devices.{Device, AddsBeginning, Writes}
use Rattle.cards.proofs.WriteLemmas.{AddsBeginning-stop, Writes-err}

pub writes_same : (a b : Device) {s t : List ℕ} {X E : Type 0} (r : Result X E) → s ≡ t → Writes a b s r → Writes a b t r
writes_same a b r e w = subst (λ u. Writes a b u r) e w

-- the exit of a `?`, with so much of the text left
pub stops_within : (a b : Device) {s whole : List ℕ} {X E : Type 0} (r : Result X E) (Q : E → Type 0) (t : List ℕ) → IsErrAnd r Q → s ++ t ≡ whole → AddsBeginning a b s → Writes a b whole r
stops_within a b r Q t e same start = writes_same a b r same (Writes-err r Q e (AddsBeginning-stop t start))
