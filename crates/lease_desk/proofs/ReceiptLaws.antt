-- The receipts of a chair for a history.
use Rattle.std.proofs.Common.{◌≡◌, ◌≢◌, ℕ, ◌+◌, ◌<◌, ◌≤◌, Bool, true, false, eqb, List, [], ◌∷◌, ◌++◌, length, refl, sym, ap, ◌∙◌, subst, arith}
use Rattle.std.proofs.lemmas.Bool.{eq-eqb, ne_eqb}
use Rattle.lease_book.specs.declared.events.Event.{Event}
use Rattle.lease_desk.specs.declared.receipts.Receipt.{Receipt}
use Rattle.std.proofs.Common.{All, Some, append_assoc}
use Rattle.std.specs.Prelude.{slice_get}
use Rattle.std.proofs.lemmas.List.{length_push}
use Rattle.std.proofs.lemmas.List.Elements.{All-nil, All-cons}
use Rattle.lease_desk.specs.Receipts.{receipt, keep, receipts_from, IsBefore, Stands}
use Rattle.lease_desk.specs.Rule.{AreBelow}

pub below_more : (bound : ℕ) (makers : List ℕ) → AreBelow bound makers → AreBelow (bound + 1) makers
below_more bound [] b = tt
below_more bound (maker ∷ makers) b = let k : maker < bound = b.0 in (omega arith, below_more bound makers b.1)

pub below_wide : (bound wide : ℕ) (makers : List ℕ) → bound ≤ wide → AreBelow bound makers → AreBelow wide makers
below_wide bound wide [] le b = tt
below_wide bound wide (maker ∷ makers) le b = let k : maker < bound = b.0 in (omega arith, below_wide bound wide makers le b.1)

pub below_push : (bound chair : ℕ) (makers : List ℕ) → chair < bound → AreBelow bound makers → AreBelow bound (makers ++ chair ∷ [])
below_push bound chair [] k b = (k, tt)
below_push bound chair (maker ∷ makers) k b = (b.0, below_push bound chair makers k b.1)

-- who made no event has no receipt
pub none_from : (chair bound place : ℕ) (makers : List ℕ) (events : List Event) → AreBelow bound makers → bound ≤ chair → receipts_from chair place makers events ≡ []
none_from chair bound place [] events b le = refl
none_from chair bound place (maker ∷ makers) [] b le = refl
none_from chair bound place (maker ∷ makers) (event ∷ events) b le =
    let k : maker < bound = b.0 in
    ap (λ t. keep t (receipt place event) (receipts_from chair (place + 1) makers events)) (ne_eqb maker chair (λ e. omega arith))
    ∙ none_from chair bound (place + 1) makers events b.1 le

-- an event of another chair adds none
pub from_other : (chair other place : ℕ) (makers : List ℕ) (events : List Event) (event : Event) → length makers ≡ length events → chair ≢ other
    → receipts_from chair place (makers ++ other ∷ []) (events ++ event ∷ []) ≡ receipts_from chair place makers events
from_other chair other place [] [] event even apart = ap (λ t. keep t (receipt place event) []) (ne_eqb other chair (λ e. apart (sym e)))
from_other chair other place [] (e ∷ events) event even apart = absurd (omega arith)
from_other chair other place (maker ∷ makers) [] event even apart = absurd (omega arith)
from_other chair other place (maker ∷ makers) (e ∷ events) event even apart =
    ap (λ r. keep (eqb maker chair) (receipt place e) r) (from_other chair other (place + 1) makers events event (omega arith) apart)

keep_append : (b : Bool) (first last : Receipt) (rest : List Receipt) → keep b first (rest ++ last ∷ []) ≡ keep b first rest ++ last ∷ []
keep_append true first last rest = refl
keep_append false first last rest = refl

-- an event of one's own adds its receipt
pub from_own : (chair place : ℕ) (makers : List ℕ) (events : List Event) (event : Event) → length makers ≡ length events
    → receipts_from chair place (makers ++ chair ∷ []) (events ++ event ∷ []) ≡ receipts_from chair place makers events ++ receipt (place + length events) event ∷ []
from_own chair place [] [] event even =
    ap (λ t. keep t (receipt place event) []) (eq-eqb chair chair refl) ∙ ap (λ p. receipt p event ∷ []) (omega arith)
from_own chair place [] (e ∷ events) event even = absurd (omega arith)
from_own chair place (maker ∷ makers) [] event even = absurd (omega arith)
from_own chair place (maker ∷ makers) (e ∷ events) event even =
    let at : (place + 1) + length events ≡ place + length (e ∷ events) = omega arith in
    ap (λ r. keep (eqb maker chair) (receipt place e) r) (from_own chair (place + 1) makers events event (omega arith) ∙ ap (λ p. receipts_from chair (place + 1) makers events ++ receipt p event ∷ []) at)
    ∙ keep_append (eqb maker chair) (receipt place e) (receipt (place + length (e ∷ events)) event) (receipts_from chair (place + 1) makers events)

keep_before : (b : Bool) (place : ℕ) (first : Receipt) (rest : List Receipt) → IsBefore place first → All (IsBefore place) rest → All (IsBefore place) (keep b first rest)
keep_before true place first rest is are = All-cons (IsBefore place) first rest is are
keep_before false place first rest is are = are

-- all of them are for events before the end
pub before_end : (end chair place : ℕ) (makers : List ℕ) (events : List Event) → place + length events ≤ end → All (IsBefore end) (receipts_from chair place makers events)
before_end end chair place [] events le = All-nil (IsBefore end)
before_end end chair place (maker ∷ makers) [] le = All-nil (IsBefore end)
before_end end chair place (maker ∷ makers) (event ∷ events) le =
    keep_before (eqb maker chair) end (receipt place event) (receipts_from chair (place + 1) makers events) (omega arith) (before_end end chair (place + 1) makers events (omega arith))

-- each stands at its place
at_end : (before : List Event) (event : Event) (after : List Event) → slice_get (before ++ event ∷ after) (length before) ≡ Some event
at_end [] event after = refl
at_end (first ∷ before) event after = at_end before event after

keep_stands : (whole : List Event) (b : Bool) (first : Receipt) (rest : List Receipt) → Stands whole first → All (Stands whole) rest → All (Stands whole) (keep b first rest)
keep_stands whole true first rest is are = All-cons (Stands whole) first rest is are
keep_stands whole false first rest is are = are

pub stand_from : (whole : List Event) (chair : ℕ) (before : List Event) (makers : List ℕ) (events : List Event) → whole ≡ before ++ events → All (Stands whole) (receipts_from chair (length before) makers events)
stand_from whole chair before [] events is = All-nil (Stands whole)
stand_from whole chair before (maker ∷ makers) [] is = All-nil (Stands whole)
stand_from whole chair before (maker ∷ makers) (event ∷ events) is =
    let next : whole ≡ (before ++ event ∷ []) ++ events = is ∙ sym (append_assoc before (event ∷ []) events) in
    keep_stands whole (eqb maker chair) (receipt (length before) event) (receipts_from chair (length before + 1) makers events)
    (subst (λ (w : List Event). slice_get w (length before) ≡ Some event) (sym is) (at_end before event events))
    (subst (λ n. All (Stands whole) (receipts_from chair n makers events)) (length_push before event) (stand_from whole chair (before ++ event ∷ []) makers events next))
