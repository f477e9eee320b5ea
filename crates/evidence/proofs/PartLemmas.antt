-- The piece that was passed is the first of what was left.
use Rattle.std.proofs.Common.{◌≡◌, ℕ, ◌+◌, ◌-◌, ◌^◌, ◌<◌, ◌≤◌, List, [], ◌++◌, length, take, drop, Option, None, Some, Bool, true, false, inl, inr, refl, sym, ◌∙◌, ap, subst, arith, append_assoc, Result, Ok, Err}
use Rattle.std.specs.Prelude.{min, MatchResult}
use Rattle.std.proofs.lemmas.List.{length-append, length-take-le, take-append-drop, take_all, drop_all, append-nil}
use Rattle.memchr.specs.Find.{OccursAt}
use Rattle.cards.specs.Devices.{Device, TakesWhereTold, NoneIsLeft, StaysWhereTold}
use Rattle.streams.specs.Inputs.{IsAllOf, StopsReading}
use Rattle.streams.specs.declared.inputs.InputFault.{InputFault}
use Rattle.streams.specs.declared.inputs.InputFault.TheVariants.{OutOfMemory}
use Rattle.evidence.specs.declared.parts.Part.{Part}
use Rattle.evidence.specs.declared.parts.Part.TheVariants.{Found, Damaged, End}
use Rattle.evidence.specs.Pieces.{border, greatest_length, IsFirstPiece, IsFirstWhereTold, IsDamaged, IsFound, Passes, IsAtEnd, IsNext, StopsSections, left_of, reading_of}
use Rattle.evidence.specs.Parts.{IsPartOf}
use Rattle.evidence.specs.Cuts.{IsCutOf}
use Rattle.evidence.specs.Ends.{FindsEnd, IsEndIn, IsPassed}
use Rattle.evidence.proofs.PieceLemmas.{occurs_in_front, occurs_before}

-- ---- the first piece
module _ (passed held : List ℕ) (end : ℕ) (within : end ≤ length held) where
  length-whole : length (passed ++ take end held) ≡ length passed + end
  length-whole = length-append passed (take end held) ∙ ap (λ n. length passed + n) (length-take-le end held within)

  whole_parts : (rest : List ℕ) → (passed ++ held) ++ rest ≡ (passed ++ take end held) ++ (drop end held ++ rest)
  whole_parts rest =
      ap (λ l. (passed ++ l) ++ rest) (sym (take-append-drop end held))
      ∙ (ap (λ l. l ++ rest) (sym (append_assoc passed (take end held) (drop end held)))
      ∙ append_assoc (passed ++ take end held) (drop end held) rest)

  pub first_piece : (AllSeen : Type 0) (rest : List ℕ) → (AllSeen → rest ≡ []) → 1 ≤ length (take end held) → IsEndIn AllSeen (passed ++ held) (length passed + end)
      → IsFirstPiece ((passed ++ held) ++ rest) (passed ++ take end held) (drop end held ++ rest)
  first_piece AllSeen rest none some (inl ends) =
      let fits = ends.1.fits in
      inl (record {
        whole = whole_parts rest;
        some = omega (arith, length-whole);
        here = subst (λ n. OccursAt ((passed ++ held) ++ rest) border (n - 1)) (sym length-whole) (occurs_before (passed ++ held) rest border (length passed + end - 1) ends.1);
        first = λ place h o. ends.2 place (omega (arith, length-whole)) (occurs_in_front (passed ++ held) rest border place (omega (arith, length-whole)) o);
      })
  first_piece AllSeen rest none some (inr ends) =
      let all : end ≡ length held = (let e = ends.1 in omega (arith, length-append passed held)) in
      let seen : (passed ++ held) ++ rest ≡ passed ++ held = ap (λ l. (passed ++ held) ++ l) (none ends.0) ∙ append-nil (passed ++ held) in
      inr (record {
        whole = seen ∙ ap (λ l. passed ++ l) (sym (take_all end held (omega arith)));
        some = omega (arith, length-whole, length-take-le end held within);
        nothing = ap (λ l. l ++ rest) (drop_all end held (omega arith)) ∙ none ends.0;
        none = λ place o. ends.2 place (subst (λ l. OccursAt l border place) seen o);
      })

some_same : (one other : List ℕ) → Some one ≡ Some other → one ≡ other
some_same one other e = cc

-- where the source tells its bytes
pub first_told : (old new : Option (List ℕ)) (held held' taken passed : List ℕ) (end : ℕ) → end ≤ length held' → TakesWhereTold old new taken → held ++ taken ≡ passed ++ held'
    → IsEndIn (IsAllOf old new taken) (passed ++ held') (length passed + end) → 1 ≤ length (take end held')
    → IsFirstWhereTold (left_of held old) (left_of (drop end held') new) (passed ++ take end held')
first_told None new held held' taken passed end within given parts ends some = tt
first_told (Some left) new held held' taken passed end within (rest, is, e) parts ends some =
    let whole : held ++ left ≡ (passed ++ held') ++ rest = ap (λ l. held ++ l) e ∙ (sym (append_assoc held taken rest) ∙ ap (λ l. l ++ rest) parts) in (
      drop end held' ++ rest,
      ap (left_of (drop end held')) is,
      subst (λ l. IsFirstPiece l (passed ++ take end held') (drop end held' ++ rest)) (sym whole)
          (first_piece passed held' end within (IsAllOf (Some left) new taken) rest (λ all. some_same rest [] (sym is ∙ all.1)) some ends),
    )

-- ---- what was passed
module _ (old new last : Device) (held held' : List ℕ) (before middle after end : ℕ) (is_long : Bool) (piece left : List ℕ)
    (found : FindsEnd old new held held' before middle end is_long) (same : last ≡ new) (front : piece ≡ take end held') (rest : left ≡ drop end held')
    (counted : after ≡ min (middle + end) (2 ^ 64 - 1)) where
  length-piece : length piece ≡ end
  length-piece = ap length front ∙ length-take-le end held' found.within

  pub passes : (Holds : List ℕ → Type 0) → 1 ≤ length piece → Holds (found.passed ++ piece) → Passes (reading_of old held before) (reading_of last left after) Holds
  passes Holds some holds = record {
    piece = found.passed ++ piece;
    first = subst (λ (d : Device). IsFirstWhereTold (left_of held old.bytes) (left_of left d.bytes) (found.passed ++ piece)) (sym same)
        (subst (λ l. IsFirstWhereTold (left_of held old.bytes) (left_of l new.bytes) (found.passed ++ piece)) (sym rest)
        (subst (λ l. IsFirstWhereTold (left_of held old.bytes) (left_of (drop end held') new.bytes) (found.passed ++ l)) (sym front)
        (first_told old.bytes new.bytes held held' found.taken found.passed end found.within found.given found.parts found.ends (subst (λ l. 1 ≤ length l) front some))));
    holds = holds;
    counted = (let c = found.counted in omega (arith, length-append found.passed piece, length-piece));
    none_failed = ap (λ (d : Device). d.failed) same ∙ found.none_failed;
  }

  -- a piece that is too long, and one that is whole
  long_piece : is_long ≡ true → IsDamaged (found.passed ++ piece)
  long_piece long = (let many : greatest_length < length found.passed = subst (λ b. IsPassed b found.passed) long found.long in inl (omega (arith, length-append found.passed piece)))

  whole_piece : is_long ≡ false → found.passed ++ piece ≡ piece
  whole_piece short = ap (λ l. l ++ piece) (subst (λ b. IsPassed b found.passed) short found.long)

  -- what comes next
  part_next : (long : Bool) → is_long ≡ long → 1 ≤ length piece → (part : Part) → IsPartOf long before piece part → IsNext (reading_of old held before) (reading_of last left after) part
  part_next true e some part is = subst (IsNext (reading_of old held before) (reading_of last left after)) (sym is) (refl, passes IsDamaged some (long_piece e))
  part_next false e some (Found section) is = passes (λ p. IsFound p section) some (subst (λ p. IsFound p section) (sym (whole_piece e)) is)
  part_next false e some (Damaged at) is = (is.0, passes IsDamaged some (subst IsDamaged (sym (whole_piece e)) is.1))
  part_next false e some End is = absurd is

  pub next_is : 1 ≤ end → (result : Result Part InputFault) → MatchResult result (IsPartOf is_long before piece) (λ fault. fault ≡ OutOfMemory)
      → MatchResult result (IsNext (reading_of old held before) (reading_of last left after)) (StopsSections old last)
  next_is some (Ok part) is = part_next is_long refl (omega (arith, length-piece)) part is
  next_is some (Err fault) is =
      subst (StopsSections old last) (sym is) (inl (subst (λ (d : Device). StopsReading old d OutOfMemory) (sym same)
      (record { lost = found.taken; first = found.given; counted = found.none_failed })))

  cut_of : (long : Bool) → is_long ≡ long → IsCutOf long piece (found.passed ++ piece)
  cut_of true e = (let many : greatest_length < length found.passed = subst (λ b. IsPassed b found.passed) e found.long in omega (arith, length-append found.passed piece))
  cut_of false e = sym (whole_piece e)

  pub cut_is : 1 ≤ end → (at : ℕ) (bytes : List ℕ) (long : Bool) → at ≡ before → bytes ≡ piece → long ≡ is_long
      → (at ≡ before) × Passes (reading_of old held before) (reading_of last left after) (IsCutOf long bytes)
  cut_is some at bytes long at_is bytes_are long_is = (
    at_is,
    passes (IsCutOf long bytes) (omega (arith, length-piece))
        (subst (λ (b : Bool). IsCutOf b bytes (found.passed ++ piece)) (sym long_is) (subst (λ (l : List ℕ). IsCutOf is_long l (found.passed ++ piece)) (sym bytes_are) (cut_of is_long refl))),
  )

  pub at_end : length piece ≡ 0 → before < 2 ^ 64 → IsAtEnd (reading_of old held before) (reading_of last left after)
  at_end none fits =
      let zero : end ≡ 0 = sym length-piece ∙ none in
      let empty = found.empty zero in
      let nothing : held ++ found.taken ≡ [] = found.parts ∙ empty.0 in
      let short : length found.passed + length held' ≡ 0 = sym (length-append found.passed held') ∙ ap length empty.0 in
      let left_is : left ≡ [] = rest ∙ drop_all end held' (omega arith) in
      record {
        none = none_left old.bytes new.bytes held found.taken nothing empty.1;
        left_is = subst (λ (d : Device). StaysWhereTold (left_of held old.bytes) (left_of left d.bytes)) (sym same) (stays old.bytes new.bytes held left found.taken nothing left_is empty.1);
        before_is = (let c = found.counted in omega arith);
        none_failed = ap (λ (d : Device). d.failed) same ∙ found.none_failed;
      }
    where
      none_left : (told told' : Option (List ℕ)) (bytes taken : List ℕ) → bytes ++ taken ≡ [] → IsAllOf told told' taken → NoneIsLeft (left_of bytes told)
      none_left None told' bytes taken e all = tt
      none_left (Some l) told' bytes taken e all = ap (λ t. bytes ++ t) (sym all.0) ∙ e

      stays : (told told' : Option (List ℕ)) (bytes others taken : List ℕ) → bytes ++ taken ≡ [] → others ≡ [] → IsAllOf told told' taken → StaysWhereTold (left_of bytes told) (left_of others told')
      stays None told' bytes others taken e n all = tt
      stays (Some l) told' bytes others taken e n all =
          ap (left_of others) all.1 ∙ ap Some (append-nil others ∙ (n ∙ (sym e ∙ ap (λ t. bytes ++ t) all.0)))
