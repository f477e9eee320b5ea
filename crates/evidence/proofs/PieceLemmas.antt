-- Where the first piece of a text ends, while the text is read.
use Rattle.std.proofs.Common.{◌≡◌, ℕ, ◌+◌, ◌-◌, ◌^◌, ◌<◌, ◌≤◌, List, [], ◌++◌, length, take, drop, get_or, Result, Ok, Err, Bool, true, false, inl, inr, ◌⊎◌, refl, sym, ◌∙◌, ap, subst, arith, append_assoc}
use Rattle.std.proofs.lemmas.List.{length-append, get_or_append_left, get_or-append-add, take-append-drop, length-take-le, length-drop, append-nil, nil_from_length}
use Rattle.std.proofs.lemmas.Bool.{cases_lt}
use Rattle.memchr.specs.Find.{OccursAt, Nowhere, NoneBefore}
use Rattle.std.specs.Prelude.{min, IsErrAnd, MatchResult}
use Rattle.cards.specs.Devices.{Device, TakesWhereTold, one_more}
use Rattle.streams.specs.Inputs.{StopsReading}
use Rattle.streams.specs.declared.inputs.InputFault.{InputFault}
use Rattle.streams.specs.declared.inputs.InputFault.TheVariants.{OutOfMemory, Read}
use Rattle.streams.proofs.InputLemmas.{takes_twice, takes_and_stays}
use Rattle.evidence.specs.Pieces.{border}
use Rattle.evidence.specs.Ends.{ReadsOn, IsPassed, IsLetGo, IsEndIn}

-- ---- where a border occurs
pub occurs_in_front : (front back needle : List ℕ) (k : ℕ) → k + length needle ≤ length front → OccursAt (front ++ back) needle k → OccursAt front needle k
occurs_in_front front back needle k h o = record {
  fits = h;
  reads = λ j l. sym (get_or_append_left front back 0 (k + j) (omega arith)) ∙ o.reads j l;
}

pub occurs_before : (front back needle : List ℕ) (k : ℕ) → OccursAt front needle k → OccursAt (front ++ back) needle k
occurs_before front back needle k o =
    let fits = o.fits in
    record {
      fits = omega (arith, length-append front back);
      reads = λ j l. get_or_append_left front back 0 (k + j) (omega arith) ∙ o.reads j l;
    }

pub occurs_in_back : (front back needle : List ℕ) (place k : ℕ) → place ≡ length front + k → OccursAt (front ++ back) needle place → OccursAt back needle k
occurs_in_back front back needle place k at o =
    let fits = o.fits in
    record {
      fits = omega (arith, length-append front back);
      reads = λ j l.
          let here : place + j ≡ length front + (k + j) = omega arith in
          sym (get_or-append-add front back (k + j) 0) ∙ (ap (λ i. get_or (front ++ back) i 0) (sym here) ∙ o.reads j l);
    }

pub occurs_behind : (front back needle : List ℕ) (place k : ℕ) → place ≡ length front + k → OccursAt back needle k → OccursAt (front ++ back) needle place
occurs_behind front back needle place k at o =
    let fits = o.fits in
    record {
      fits = omega (arith, length-append front back);
      reads = λ j l.
          let here : place + j ≡ length front + (k + j) = omega arith in
          ap (λ i. get_or (front ++ back) i 0) here ∙ (get_or-append-add front back (k + j) 0 ∙ o.reads j l);
    }

-- ---- a search of what is held
module _ (passed held : List ℕ) (searched : ℕ) (within : searched ≤ length held) (none : (place : ℕ) → place < length passed + searched → OccursAt (passed ++ held) border place → ⊥) where
  before_search : List ℕ
  before_search = passed ++ take searched held

  length-before : length before_search ≡ length passed + searched
  unfolding before_search
  length-before = length-append passed (take searched held) ∙ ap (λ n. length passed + n) (length-take-le searched held within)

  seen_parts : passed ++ held ≡ before_search ++ drop searched held
  unfolding before_search
  seen_parts = ap (λ l. passed ++ l) (sym (take-append-drop searched held)) ∙ sym (append_assoc passed (take searched held) (drop searched held))

  pub none_at_all : Nowhere (OccursAt (drop searched held) border) 0 (length (drop searched held) + 1) → (place : ℕ) → OccursAt (passed ++ held) border place → ⊥
  none_at_all nowhere place o = elim (cases_lt place (length passed + searched)) [
    | inl low ↦ none place low o
    | inr high ↦
        let behind = occurs_in_back before_search (drop searched held) border place (place - (length passed + searched)) (omega (arith, length-before))
        (subst (λ l. OccursAt l border place) seen_parts o) in
        nowhere (place - (length passed + searched)) (omega arith) (let fits = behind.fits in omega arith) behind
  ]

  pub found_end : (AllSeen : Type 0) (place : ℕ) → NoneBefore (OccursAt (drop searched held) border) 0 (length (drop searched held) + 1) place → OccursAt (drop searched held) border place
      → IsEndIn AllSeen (passed ++ held) (length passed + (searched + place + 1))
  found_end AllSeen place first o =
      let end : length passed + (searched + place + 1) - 1 ≡ length before_search + place = omega (arith, length-before) in
      inl (
        omega arith,
        subst (λ l. OccursAt l border (length passed + (searched + place + 1) - 1)) (sym seen_parts) (occurs_behind before_search (drop searched held) border _ place end o),
        λ other h occurs. elim (cases_lt other (length passed + searched)) [
          | inl low ↦ none other low occurs
          | inr high ↦
              let behind = occurs_in_back before_search (drop searched held) border other (other - (length passed + searched)) (omega (arith, length-before))
              (subst (λ l. OccursAt l border other) seen_parts occurs) in
              first.before (other - (length passed + searched)) (omega arith) (omega arith) behind
        ],
      )

-- ---- one read more
-- what was passed before stays so, and what is let go is passed
pub passed_more : (is_long is_long' : Bool) (passed cut held' : List ℕ) → IsPassed is_long passed → IsLetGo is_long is_long' cut held' → IsPassed is_long' (passed ++ cut)
passed_more is_long true passed cut held' p (inl go) = let long = go.1 in omega (arith, length-append passed cut)
passed_more is_long false passed cut held' p (inl go) = let no = go.0 in cc
passed_more true true passed cut held' p (inr same) = omega (arith, length-append passed cut)
passed_more false false passed cut held' p (inr same) = rw (p, same.1) refl
passed_more true false passed cut held' p (inr same) = let no = same.0 in cc
passed_more false true passed cut held' p (inr same) = let no = same.0 in cc

-- no border begins where the next search doesn't look
pub none_behind : (passed held more : List ℕ) → ((length passed ≡ 0) ⊎ (6 ≤ length held)) → ((place : ℕ) → OccursAt (passed ++ held) border place → ⊥)
    → (place : ℕ) → place < length passed + (length held - 6) → OccursAt (passed ++ (held ++ more)) border place → ⊥
none_behind passed held more room none place low o =
    none place (occurs_in_front (passed ++ held) more border place (fits room) (subst (λ l. OccursAt l border place) (sym (append_assoc passed held more)) o))
  where
    fits : (length passed ≡ 0) ⊎ (6 ≤ length held) → place + length border ≤ length (passed ++ held)
    fits (inl zero) = omega (arith, length-append passed held)
    fits (inr six) = omega (arith, length-append passed held)

-- ---- what is let go
pub length-cut : (held : List ℕ) (s : ℕ) → s + 6 ≡ length held → length (take s held) ≡ s
length-cut held s e = length-take-le s held (omega arith)

pub length-shortened : (held : List ℕ) (s : ℕ) (left : List ℕ) → left ≡ drop s held → s + 6 ≡ length held → length left ≡ 6
length-shortened held s left e h = ap length e ∙ (length-drop s held ∙ (omega arith))

pub shortened : (held : List ℕ) (s : ℕ) (left : List ℕ) → left ≡ drop s held → held ≡ take s held ++ left
shortened held s left e = sym (take-append-drop s held) ∙ ap (λ l. take s held ++ l) (sym e)

-- ---- what was seen, after bytes were let go and others read
pub seen_after : (passed held cut left : List ℕ) → held ≡ cut ++ left → passed ++ held ≡ (passed ++ cut) ++ left
seen_after passed held cut left e = ap (λ l. passed ++ l) e ∙ sym (append_assoc passed cut left)

pub seen_more : (first taken passed held cut left more : List ℕ) → first ++ taken ≡ passed ++ held → held ≡ cut ++ left → first ++ (taken ++ more) ≡ (passed ++ cut) ++ (left ++ more)
seen_more first taken passed held cut left more e h =
    sym (append_assoc first taken more)
    ∙ (ap (λ l. l ++ more) (e ∙ seen_after passed held cut left h) ∙ append_assoc (passed ++ cut) left more)

pub room_after : (is_long is_long' : Bool) (passed held cut left more : List ℕ) → ((length passed ≡ 0) ⊎ (6 ≤ length held)) → held ≡ cut ++ left → IsLetGo is_long is_long' cut left
    → (length (passed ++ cut) ≡ 0) ⊎ (6 ≤ length left)
room_after is_long is_long' passed held cut left more room e (inl go) = inr go.2
room_after is_long is_long' passed held cut left more (inl zero) e (inr same) = inl (ap length (ap (λ l. passed ++ l) same.1 ∙ append-nil passed) ∙ zero)
room_after is_long is_long' passed held cut left more (inr six) e (inr same) = inr (let long : length held ≡ length left = ap length (e ∙ ap (λ l. l ++ left) same.1) in omega arith)

pub room_more : (passed left more : List ℕ) → ((length passed ≡ 0) ⊎ (6 ≤ length left)) → (length passed ≡ 0) ⊎ (6 ≤ length (left ++ more))
room_more passed left more (inl zero) = inl zero
room_more passed left more (inr six) = inr (omega (arith, length-append left more))

pub counted_more : (first before after : ℕ) (passed cut : List ℕ) → before ≡ min (first + length passed) (2 ^ 64 - 1) → after ≡ min (before + length cut) (2 ^ 64 - 1) → after ≡ min (first + length (passed ++ cut)) (2 ^ 64 - 1)
counted_more first before after passed cut a b = omega (arith, length-append passed cut)

-- where nothing is held, nothing was seen
pub none_seen : (passed left held : List ℕ) → ((length passed ≡ 0) ⊎ (6 ≤ length left)) → left ≡ held → length held ≡ 0 → passed ++ held ≡ []
none_seen passed left held (inl zero) same none = nil_from_length (passed ++ held) (omega (arith, length-append passed held))
none_seen passed left held (inr six) same none = absurd (let long : length left ≡ length held = ap length same in omega arith)

-- ---- faults
pub stops_after : (old mid new : Device) (held held' taken : List ℕ) (fault : InputFault) → TakesWhereTold old.bytes mid.bytes taken → mid.failed ≡ old.failed → ReadsOn mid new held held' (Err fault) → StopsReading old new fault
stops_after old mid new held held' taken OutOfMemory given none r = record {
  lost = taken ++ r.0;
  first = takes_twice old.bytes mid.bytes new.bytes taken r.0 given r.1;
  counted = r.2 ∙ none;
}
stops_after old mid new held held' taken Read given none fails = record {
  lost = taken;
  first = takes_and_stays old.bytes mid.bytes new.bytes taken given fails.bytes;
  counted = fails.counted ∙ ap one_more none;
}

pub match_err : {A E : Type 0} (P : A → Type 0) (Q : E → Type 0) (r : Result A E) (told : E) → IsErrAnd r (λ fault. fault ≡ told) → Q told → MatchResult r P Q
match_err P Q (Ok a) told e q = absurd e
match_err P Q (Err fault) told e q = subst Q (sym e) q
