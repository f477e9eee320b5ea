-- Two writes in a row add what one write of both pieces would.
use Rattle.std.proofs.Common.{◌≡◌, ℕ, ◌+◌, ◌-◌, ◌<◌, List, [], length, ◌++◌, take, drop, Option, None, Some, refl, sym, ◌∙◌, ap, append_assoc, append-nil, length-drop}
use Rattle.std.proofs.Math.Seq.{take-add, take-length}
use Rattle.cards.specs.Devices.{Device, StaysWhereTold, AddsWhereTold, Adds, AddsBeginning, Fails}

-- what is told of a device that nobody touched
pub stays_untouched : (told : Option (List ℕ)) → StaysWhereTold told told
stays_untouched None = tt
stays_untouched (Some told) = refl

pub adds_none : (told : Option (List ℕ)) → AddsWhereTold told told []
adds_none None = tt
adds_none (Some told) = ap Some (sym (append-nil told))

pub adds_twice : (first second third : Option (List ℕ)) (one other : List ℕ) → AddsWhereTold first second one → AddsWhereTold second third other → AddsWhereTold first third (one ++ other)
adds_twice None second third one other a b = tt
adds_twice (Some told) second third one other a b =
    let b' : AddsWhereTold (Some (told ++ one)) third other = rw a at b in
    b' ∙ ap Some (append_assoc told one other)

pub adds_and_stays : (first second third : Option (List ℕ)) (piece : List ℕ) → AddsWhereTold first second piece → StaysWhereTold second third → AddsWhereTold first third piece
adds_and_stays None second third piece a b = tt
adds_and_stays (Some told) second third piece a b =
    let b' : StaysWhereTold (Some (told ++ piece)) third = rw a at b in b'

pub Adds-twice : {first second third : Device} {one other : List ℕ} → Adds first second one → Adds second third other → Adds first third (one ++ other)
Adds-twice {first} {second} {third} {one} {other} a b = record {
  bytes = adds_twice first.bytes second.bytes third.bytes one other a.bytes b.bytes;
  none_failed = b.none_failed ∙ a.none_failed;
}

-- the first i of a text, and then n more
pub Adds-more : {first second third : Device} (text : List ℕ) (i n : ℕ) → Adds first second (take i text) → Adds second third (take n (drop i text)) → Adds first third (take (i + n) text)
Adds-more text i n a b = rw take-add (Adds-twice a b)

-- a call that fails where some of the text is still to go out
pub AddsBeginning-fails : {first second third : Device} (text : List ℕ) (i : ℕ) → i < length text → Adds first second (take i text) → Fails second third → AddsBeginning first third text
AddsBeginning-fails {first} {second} {third} text i h a b = record {
  count = i;
  within = h;
  bytes = adds_and_stays first.bytes second.bytes third.bytes (take i text) a.bytes b.bytes;
  counted = rw (← a.none_failed) b.counted;
}

-- what a slice from `i` on is
pub take-drop_rest : (text : List ℕ) (i : ℕ) → take (length text - i) (drop i text) ≡ drop i text
take-drop_rest text i = ap (λ n. take n (drop i text)) (sym (length-drop i text)) ∙ take-length (drop i text)
