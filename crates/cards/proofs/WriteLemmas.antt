-- A text that goes out in several calls: one text after another, a fault in the middle, and a loop over pieces.
use Rattle.std.proofs.Common.{◌≡◌, ℕ, ◌+◌, ◌<◌, ◌≤◌, List, [], ◌∷◌, ◌++◌, length, take, drop, get_or, Result, Ok, Err, refl, sym, ◌∙◌, ap, subst, arith, length-append}
use Rattle.std.specs.List.{flat_map}
use Rattle.std.specs.Prelude.{IsErrAnd}
use Rattle.std.proofs.lemmas.Grind.{flat_map-append}
use Rattle.std.proofs.lemmas.List.{append-nil, take-append-le, take-append-drop, take_more, take_all}
use Rattle.std.proofs.Math.Seq.{take-append-add}
use Rattle.cards.specs.Devices.{Device, Adds, AddsBeginning, Writes}
use Rattle.cards.proofs.DeviceLemmas.{adds_none, adds_twice, Adds-twice}

pub Adds-none : (device : Device) → Adds device device []
Adds-none device = record { bytes = adds_none device.bytes; none_failed = refl }

-- after a fault nothing more goes out
pub AddsBeginning-stop : {first second : Device} {text : List ℕ} (rest : List ℕ) →
    AddsBeginning first second text → AddsBeginning first second (text ++ rest)
AddsBeginning-stop {text = text} rest a = record {
  count = a.count;
  within = omega (arith, a.within, length-append text rest);
  bytes = rw (take-append-le a.count text rest (omega (arith, a.within))) a.bytes;
  counted = a.counted;
}

-- a fault after a text that went out
pub AddsBeginning-then : {first second third : Device} {one other : List ℕ} →
    Adds first second one → AddsBeginning second third other → AddsBeginning first third (one ++ other)
AddsBeginning-then {first} {second} {third} {one} {other} a b = record {
  count = length one + b.count;
  within = omega (arith, b.within, length-append one other);
  bytes = rw (take-append-add one other b.count)
      (adds_twice first.bytes second.bytes third.bytes one (take b.count other) a.bytes b.bytes);
  counted = rw (← a.none_failed) b.counted;
}

-- a last text after one that went out
pub Writes-then : {first second : Device} {one : List ℕ} {X E : Type 0}
    (result : Result X E) (third : Device) (other : List ℕ) →
    Adds first second one → Writes second third other result → Writes first third (one ++ other) result
Writes-then (Ok answer) third other a b = Adds-twice a b
Writes-then (Err fault) third other a b = AddsBeginning-then a b

-- the exit of a `?`
pub Writes-err : {first second : Device} {text : List ℕ} {X E : Type 0}
    (result : Result X E) (Q : E → Type 0) →
    IsErrAnd result Q → AddsBeginning first second text → Writes first second text result
Writes-err (Ok answer) Q e a = absurd e
Writes-err (Err fault) Q e a = a

-- ---- a loop over the pieces of a text
module _ {X A : Type 0} (text_of : X → List A) (all : List X) (i : ℕ) where
  -- one piece more
  pub pieces-more : (d : X) → i < length all →
      flat_map text_of (take (i + 1) all) ≡ flat_map text_of (take i all) ++ text_of (get_or all i d)
  pieces-more d h =
      ap (flat_map text_of) (take_more all i d h)
      ∙ (flat_map-append text_of (take i all) (get_or all i d ∷ [])
      ∙ ap (λ t. flat_map text_of (take i all) ++ t) (append-nil (text_of (get_or all i d))))

  -- these pieces and the others
  pub pieces-split : flat_map text_of (take i all) ++ flat_map text_of (drop i all) ≡ flat_map text_of all
  pieces-split =
      sym (flat_map-append text_of (take i all) (drop i all)) ∙ ap (flat_map text_of) (take-append-drop i all)

  -- all pieces
  pub pieces-all : length all ≤ i → flat_map text_of (take i all) ≡ flat_map text_of all
  pieces-all h = ap (flat_map text_of) (take_all i all h)

module _ {X : Type 0} {first second third : Device}
    (text_of : X → List ℕ) (all : List X) (i : ℕ) (d : X) (h : i < length all)
    (gone : Adds first second (flat_map text_of (take i all))) where
  -- one piece more has gone out
  pub Adds-piece : Adds second third (text_of (get_or all i d)) → Adds first third (flat_map text_of (take (i + 1) all))
  Adds-piece piece = subst (λ t. Adds first third t) (sym (pieces-more text_of all i d h)) (Adds-twice gone piece)

  -- a fault in a piece
  pub AddsBeginning-piece :
      AddsBeginning second third (text_of (get_or all i d)) → AddsBeginning first third (flat_map text_of all)
  AddsBeginning-piece piece =
      subst (λ t. AddsBeginning first third t)
      (ap (λ t. t ++ flat_map text_of (drop (i + 1) all)) (sym (pieces-more text_of all i d h))
      ∙ pieces-split text_of all (i + 1))
      (AddsBeginning-stop (flat_map text_of (drop (i + 1) all)) (AddsBeginning-then gone piece))
