-- A part more of a text, its end, and a reading that stops.
use Rattle.std.proofs.Common.{◌≡◌, ℕ, ◌+◌, ◌-◌, ◌^◌, ◌≤◌, min, List, [], ◌∷◌, ◌++◌, length, All, Option, None, Some, Result, Ok, Err, inl, inr, refl, sym, ◌∙◌, ap, subst, arith, append_assoc, append-nil}
use Rattle.std.proofs.lemmas.List.{length-append}
use Rattle.std.proofs.lemmas.Option.{same_Some}
use Rattle.std.proofs.lemmas.List.Elements.{All-nil, All-push}
use Rattle.cards.specs.Devices.{Device, NoneIsLeft, StaysWhereTold, TakesWhereTold, one_more}
use Rattle.streams.specs.declared.inputs.InputFault.{InputFault}
use Rattle.streams.specs.declared.inputs.InputFault.TheVariants.{OutOfMemory, Read}
use Rattle.evidence.specs.Sections.{SectionShape}
use Rattle.evidence.specs.declared.parts.Part.{Part}
use Rattle.evidence.specs.declared.parts.Part.TheVariants.{Found, Damaged, End}
use Rattle.evidence.specs.Pieces.{left_of, IsFirstPiece, IsFirstWhereTold, IsFound, IsDamaged, Passes, StopsSections}
use Rattle.evidence.specs.Parts.{IsPart, AreParts}
use Rattle.evidence.specs.Wholes.{Whole, IsNextOf}
use Rattle.evidence.specs.declared.damages.Damage.{Damage}
use Rattle.evidence.specs.Damages.{damaged_of, IsDamageOf}
use Rattle.evidence.proofs.DamageLemmas.{damaged_found, damaged_damaged, counts_on}
use Rattle.audits.specs.Reads.{sections_of, as_source, IsAnyPart, AreFirstParts, AreSomeParts, AreAllParts, ReadsAll, ReadsBeginning, ReadsUntil}
use Rattle.audits.specs.Shows.{LosesEvidence}
use Rattle.std.specs.Prelude.{OnOk, OnErr}

-- ---- lists of parts
pub sections_found : (parts : List Part) (section : SectionShape) → sections_of (parts ++ Found section ∷ []) ≡ sections_of parts ++ section ∷ []
sections_found [] section = refl
sections_found (Found first ∷ parts) section = ap (λ (s : List SectionShape). first ∷ s) (sections_found parts section)
sections_found (Damaged at ∷ parts) section = sections_found parts section
sections_found (End ∷ parts) section = sections_found parts section

pub sections_damaged : (parts : List Part) (at : ℕ) → sections_of (parts ++ Damaged at ∷ []) ≡ sections_of parts
sections_damaged [] at = refl
sections_damaged (Found first ∷ parts) at = ap (λ (s : List SectionShape). first ∷ s) (sections_damaged parts at)
sections_damaged (Damaged byte ∷ parts) at = sections_damaged parts at
sections_damaged (End ∷ parts) at = sections_damaged parts at

-- ---- what was passed of a text
-- these bytes were passed, and they have these parts
pub record PassesTo (at : ℕ) (left rest passed : List ℕ) (parts : List Part) : Type 0 where
  pub whole : left ≡ passed ++ rest
  pub firsts : AreFirstParts at left parts rest

abbrev pub PassesWhereTold : ℕ → Option (List ℕ) → Option (List ℕ) → List ℕ → List Part → Type 0
PassesWhereTold at None left' passed parts = All IsAnyPart parts
PassesWhereTold at (Some left) left' passed parts = (rest : List ℕ) × (left' ≡ Some rest) × PassesTo at left rest passed parts

none_passed : (at : ℕ) (left : Option (List ℕ)) → PassesWhereTold at left left [] []
none_passed at None = All-nil IsAnyPart
none_passed at (Some left) = (
  left,
  refl,
  record {
    whole = refl;
    firsts = refl;
  },
)

front_of : (text piece rest : List ℕ) → IsFirstPiece text piece rest → (text ≡ piece ++ rest) × (1 ≤ length piece)
front_of text piece rest (inl ends) = (ends.whole, ends.some)
front_of text piece rest (inr ends) = (ends.whole ∙ sym (append-nil piece) ∙ ap (λ (l : List ℕ). piece ++ l) (sym ends.nothing), ends.some)

-- a piece more
firsts_push : (at place : ℕ) (text rest piece behind : List ℕ) (parts : List Part) (part : Part) → AreFirstParts at text parts rest → place + length rest ≡ at + length text → IsFirstPiece rest piece behind → IsPart place piece part
    → AreFirstParts at text (parts ++ part ∷ []) behind
firsts_push at place text rest piece behind [] part same counted first is =
    let here : place ≡ at = let long : length rest ≡ length text = ap length same in omega (arith, counted, long) in
    (piece, behind, subst (λ (t : List ℕ). IsFirstPiece t piece behind) same first, subst (λ (n : ℕ). IsPart n piece part) here is, refl)
firsts_push at place text rest piece behind (before ∷ more) part (one, after, is_first, is_part, later) counted first is =
    let long : length text ≡ length one + length after = ap length (front_of text one after is_first).0 ∙ length-append one after in
    (one, after, is_first, is_part, firsts_push (at + length one) place after rest piece behind more part later (omega (arith, counted, long)) first is)

-- parts behind which nothing is left
firsts_all : (at : ℕ) (text : List ℕ) (parts : List Part) → AreFirstParts at text parts [] → AreParts at text parts
firsts_all at text [] same = sym same
firsts_all at text (part ∷ more) (piece, behind, first, is, later) = (piece, behind, first, is, firsts_all (at + length piece) behind more later)

passed_more : (at : ℕ) (left middle left' : Option (List ℕ)) (passed piece : List ℕ) (parts : List Part) (part : Part) → PassesWhereTold at left middle passed parts
    → IsFirstWhereTold middle left' piece → IsPart (at + length passed) piece part → PassesWhereTold at left left' (passed ++ piece) (parts ++ part ∷ [])
passed_more at None middle left' passed piece parts part all first is = All-push IsAnyPart parts part all (at + length passed, piece, is)
passed_more at (Some left) middle left' passed piece parts part (rest, told, passes) first is =
    let next = subst (λ (m : Option (List ℕ)). IsFirstWhereTold m left' piece) told first in
    let front = front_of rest piece next.0 next.2 in (
      next.0,
      next.1,
      record {
        whole = passes.whole ∙ ap (λ (l : List ℕ). passed ++ l) front.0 ∙ sym (append_assoc passed piece next.0);
        firsts =
            let counted : (at + length passed) + length rest ≡ at + length left = let long = ap length passes.whole in omega (arith, long, length-append passed rest) in
            firsts_push at (at + length passed) left rest piece next.0 parts part passes.firsts counted next.2 is;
      },
    )

all_passed : (at : ℕ) (left middle left' : Option (List ℕ)) (passed : List ℕ) (parts : List Part) → PassesWhereTold at left middle passed parts → NoneIsLeft middle → StaysWhereTold middle left'
    → AreAllParts at left left' parts
all_passed at None middle left' passed parts all none stays = all
all_passed at (Some left) middle left' passed parts (rest, told, passes) none stays =
    let nothing = subst (λ (m : Option (List ℕ)). NoneIsLeft m) told none in
    let same = subst (λ (m : Option (List ℕ)). StaysWhereTold m left') told stays in
    (firsts_all at left parts (subst (λ (r : List ℕ). AreFirstParts at left parts r) nothing passes.firsts), same ∙ ap (λ (r : List ℕ). Some r) nothing)

-- the parts so far
some_passed : (at : ℕ) (left left' : Option (List ℕ)) (passed : List ℕ) (parts : List Part) → PassesWhereTold at left left' passed parts → AreSomeParts at left parts
some_passed at None left' passed parts all = all
some_passed at (Some left) left' passed parts (rest, told, passes) = (rest, passes.firsts)

-- ---- a reading so far
pub record ReadsSome (old new : Whole) (parts : List Part) (damage : Damage) : Type 0 where
  pub passed : List ℕ
  pub told : PassesWhereTold old.before (as_source old).bytes (as_source new).bytes passed parts
  pub before_is : min new.before (2 ^ 64 - 1) ≡ min (old.before + length passed) (2 ^ 64 - 1)
  pub damage_is : IsDamageOf (damaged_of parts) damage
  pub none_failed : new.source.failed ≡ old.source.failed

pub begins : (whole : Whole) (damage : Damage) → IsDamageOf [] damage → ReadsSome whole whole [] damage
begins whole damage is =
    record {
      passed = [];
      told = none_passed whole.before (as_source whole).bytes;
      before_is = omega arith;
      damage_is = is;
      none_failed = refl;
    }

module _ (old middle new : Whole) (parts : List Part) (damage : Damage) (some : ReadsSome old middle parts damage) where
  more_passed : (Holds : List ℕ → Type 0) (part : Part) (after : Damage)
      → (passes : Passes (record { left = (as_source middle).bytes; before = middle.before; failed = middle.source.failed }) (record { left = (as_source new).bytes; before = new.before; failed = new.source.failed }) Holds)
      → IsPart (old.before + length some.passed) passes.piece part → IsDamageOf (damaged_of (parts ++ part ∷ [])) after
      → ReadsSome old new (parts ++ part ∷ []) after
  more_passed Holds part after passes is damage_is =
      let longer = length-append some.passed passes.piece in
      record {
        passed = some.passed ++ passes.piece;
        told = passed_more old.before (as_source old).bytes (as_source middle).bytes (as_source new).bytes some.passed passes.piece parts part some.told passes.first is;
        before_is =
            counts_on old.before middle.before new.before (length some.passed) (length passes.piece) (2 ^ 64 - 1) some.before_is passes.counted
            ∙ ap (λ (n : ℕ). min (old.before + n) (2 ^ 64 - 1)) (sym longer);
        damage_is = damage_is;
        none_failed = passes.none_failed ∙ some.none_failed;
      }

  module _ (part : Part) (next : IsNextOf middle new part) where
    pub next_found : (section : SectionShape) → part ≡ Found section → ReadsSome old new (parts ++ Found section ∷ []) damage
    next_found section is =
        let passes = subst (λ (p : Part). IsNextOf middle new p) is next in
        more_passed (λ piece. IsFound piece section) (Found section) damage passes passes.holds
        (subst (λ (d : List ℕ). IsDamageOf d damage) (sym (damaged_found parts section)) some.damage_is)

    pub next_damaged : (at : ℕ) (after : Damage) → part ≡ Damaged at
        → ((damaged : List ℕ) (byte : ℕ) → min at (2 ^ 64 - 1) ≡ min byte (2 ^ 64 - 1) → IsDamageOf damaged damage → IsDamageOf (damaged ++ byte ∷ []) after)
        → ReadsSome old new (parts ++ Damaged (old.before + length some.passed) ∷ []) after
    next_damaged at after is adds =
        let both = subst (λ (p : Part). IsNextOf middle new p) is next in
        let passes = both.1 in
        let byte = old.before + length some.passed in
        let place : min at (2 ^ 64 - 1) ≡ min byte (2 ^ 64 - 1) = ap (λ (n : ℕ). min n (2 ^ 64 - 1)) both.0 ∙ some.before_is in
        more_passed IsDamaged (Damaged byte) after passes (refl, passes.holds)
        (subst (λ (d : List ℕ). IsDamageOf d after) (sym (damaged_damaged parts byte)) (adds (damaged_of parts) byte place some.damage_is))

    pub next_end : part ≡ End → ReadsAll old new parts damage
    next_end is =
        let end = subst (λ (p : Part). IsNextOf middle new p) is next in
        record {
          parts_are = all_passed old.before (as_source old).bytes (as_source middle).bytes (as_source new).bytes some.passed parts some.told end.none end.left_is;
          damage_is = some.damage_is;
          none_failed = end.none_failed ∙ some.none_failed;
        }

-- ---- bytes that were passed
-- so many bytes were passed, whatever they are
pub record PassesBytes (old new : Whole) : Type 0 where
  pub passed : List ℕ
  pub told : TakesWhereTold (as_source old).bytes (as_source new).bytes passed
  pub none_failed : new.source.failed ≡ old.source.failed

takes_passed : (at : ℕ) (left left' : Option (List ℕ)) (passed : List ℕ) (parts : List Part) → PassesWhereTold at left left' passed parts → TakesWhereTold left left' passed
takes_passed at None left' passed parts all = tt
takes_passed at (Some left) left' passed parts (rest, told, passes) = (rest, told, passes.whole)

takes_more : (left middle left' : Option (List ℕ)) (passed piece : List ℕ) → TakesWhereTold left middle passed → IsFirstWhereTold middle left' piece → TakesWhereTold left left' (passed ++ piece)
takes_more None middle left' passed piece takes first = tt
takes_more (Some left) middle left' passed piece (rest, told, whole) first =
    let next = subst (λ (m : Option (List ℕ)). IsFirstWhereTold m left' piece) told first in
    (next.0, next.1, whole ∙ ap (λ (l : List ℕ). passed ++ l) (front_of rest piece next.0 next.2).0 ∙ sym (append_assoc passed piece next.0))

takes_still : (left middle left' : Option (List ℕ)) (passed : List ℕ) → TakesWhereTold left middle passed → StaysWhereTold middle left' → TakesWhereTold left left' passed
takes_still None middle left' passed takes stays = tt
takes_still (Some left) middle left' passed (rest, told, whole) stays = (rest, subst (λ (m : Option (List ℕ)). StaysWhereTold m left') told stays, whole)

pub bytes_passed : (old new : Whole) (parts : List Part) (damage : Damage) → ReadsSome old new parts damage → PassesBytes old new
bytes_passed old new parts damage some =
    record { passed = some.passed; told = takes_passed old.before (as_source old).bytes (as_source new).bytes some.passed parts some.told; none_failed = some.none_failed }

pub bytes_more : (old middle new : Whole) → PassesBytes old middle → (piece : List ℕ) → IsFirstWhereTold (as_source middle).bytes (as_source new).bytes piece → new.source.failed ≡ middle.source.failed → PassesBytes old new
bytes_more old middle new passes piece first failed =
    record {
      passed = passes.passed ++ piece;
      told = takes_more (as_source old).bytes (as_source middle).bytes (as_source new).bytes passes.passed piece passes.told first;
      none_failed = failed ∙ passes.none_failed;
    }

pub bytes_ended : (old middle new : Whole) → PassesBytes old middle → StaysWhereTold (as_source middle).bytes (as_source new).bytes → new.source.failed ≡ middle.source.failed → PassesBytes old new
bytes_ended old middle new passes stays failed =
    record {
      passed = passes.passed;
      told = takes_still (as_source old).bytes (as_source middle).bytes (as_source new).bytes passes.passed passes.told stays;
      none_failed = failed ∙ passes.none_failed;
    }

-- ---- a reading that stops
lost_more : (left : Option (List ℕ)) (held : List ℕ) (bytes bytes' : Option (List ℕ)) (passed taken : List ℕ) → TakesWhereTold left (left_of held bytes) passed → TakesWhereTold bytes bytes' taken
    → TakesWhereTold left bytes' (passed ++ (held ++ taken))
lost_more None held bytes bytes' passed taken all takes = tt
lost_more (Some left) held None bytes' passed taken (rest, told, whole) takes = cc
lost_more (Some left) held (Some more) bytes' passed taken (rest, told, whole) (later, is, parts_are) =
    (later, is, whole ∙ ap (λ (l : List ℕ). passed ++ l) rest_is ∙ sym (append_assoc passed (held ++ taken) later))
  where
    same : rest ≡ held ++ more
    same = cc

    rest_is : rest ≡ (held ++ taken) ++ later
    rest_is = same ∙ ap (λ (l : List ℕ). held ++ l) parts_are ∙ sym (append_assoc held taken later)

pub takes_none : (bytes : Option (List ℕ)) → TakesWhereTold bytes bytes []
takes_none None = tt
takes_none (Some bytes) = (bytes, refl, refl)

takes_held : (held : List ℕ) (bytes : Option (List ℕ)) → TakesWhereTold (left_of held bytes) bytes held
takes_held held None = tt
takes_held held (Some bytes) = (bytes, refl, refl)

-- memory that runs out before anything is read
pub untouched : (whole : Whole) → StopsSections (as_source whole) whole.source OutOfMemory
untouched whole = inl (record { lost = whole.held; first = takes_held whole.held whole.source.bytes; counted = refl })

module _ (old middle : Whole) (some : PassesBytes old middle) where
  pub stops_bytes : (new : Device) (fault : InputFault) → StopsSections middle.source new fault → StopsSections (as_source old) new fault
  stops_bytes new OutOfMemory (inl stops) =
      inl (record {
        lost = some.passed ++ (middle.held ++ stops.lost);
        first = lost_more (as_source old).bytes middle.held middle.source.bytes new.bytes some.passed stops.lost some.told stops.first;
        counted = stops.counted ∙ some.none_failed;
      })
  stops_bytes new Read (inl stops) =
      inl (record {
        lost = some.passed ++ (middle.held ++ stops.lost);
        first = lost_more (as_source old).bytes middle.held middle.source.bytes new.bytes some.passed stops.lost some.told stops.first;
        counted = stops.counted ∙ ap one_more some.none_failed;
      })
  stops_bytes new fault (inr given) =
      let many = given.many in
      inr (record {
        fault_is = given.fault_is;
        taken = some.passed ++ (middle.held ++ given.taken);
        first = lost_more (as_source old).bytes middle.held middle.source.bytes new.bytes some.passed given.taken some.told given.first;
        many = omega (arith, length-append some.passed (middle.held ++ given.taken), length-append middle.held given.taken);
      })

  pub bytes_lost : StopsSections (as_source old) middle.source OutOfMemory
  bytes_lost = stops_bytes middle.source OutOfMemory (inl (record { lost = []; first = takes_none middle.source.bytes; counted = refl }))

module _ (old middle : Whole) (parts : List Part) (damage : Damage) (some : ReadsSome old middle parts damage) where
  -- the parts so far, where reading stops
  pub stopped : (new : Whole) (fault : InputFault) → StopsSections (as_source old) new.source fault → ReadsBeginning old new parts damage fault
  stopped new fault stops =
      record {
        parts_are = some_passed old.before (as_source old).bytes (as_source middle).bytes some.passed parts some.told;
        damage_is = some.damage_is;
        stops = stops;
      }

-- what was read to its end is lost, if memory runs out then
pub lost_all : (old new : Whole) (parts : List Part) (damage : Damage) → ReadsAll old new parts damage → StopsSections (as_source old) new.source OutOfMemory
lost_all old new parts damage all = inl (record { lost = lost.0; first = lost.1; counted = all.none_failed })
  where
    nothing_behind : (held more : List ℕ) → held ++ more ≡ [] → more ≡ []
    nothing_behind [] more is = is
    nothing_behind (x ∷ held) more is = cc

    told : (left held : List ℕ) (bytes : Option (List ℕ)) → left_of held bytes ≡ Some [] → TakesWhereTold (Some left) bytes left
    told left held None is = cc
    told left held (Some more) is = (more, refl, sym (ap (λ (l : List ℕ). left ++ l) (nothing_behind held more (same_Some (held ++ more) [] is)) ∙ append-nil left))

    go : (left : Option (List ℕ)) → AreAllParts old.before left (as_source new).bytes parts → (lost : List ℕ) × TakesWhereTold left new.source.bytes lost
    go None are = ([], tt)
    go (Some left) are = (left, told left new.held new.source.bytes are.1)

    lost : (lost : List ℕ) × TakesWhereTold (as_source old).bytes new.source.bytes lost
    lost = go (as_source old).bytes all.parts_are

-- what was read is lost, however far it was read
pub loses : (old new : Whole) (parts : List Part) (damage : Damage) (ended : Result Unit InputFault) → ReadsUntil old new parts damage ended → LosesEvidence old new
loses old new parts damage (Ok done) all = (OutOfMemory, lost_all old new parts damage all)
loses old new parts damage (Err fault) some = (fault, some.stops)

-- ---- answers
pub ok_then : {X E : Type 0} (r : Result X E) (A B : Type 0) → (A → B) → OnOk r A → OnOk r B
ok_then (Ok x) A B next holds = next holds
ok_then (Err e) A B next holds = tt

pub err_is : {X E : Type 0} (r : Result X E) (A : Type 0) → A → OnErr r A
err_is (Ok x) A holds = tt
err_is (Err e) A holds = holds

-- evidence that was read to its end
pub lost_after : (old new : Whole) (parts : List Part) (damage : Damage) (ended : Result Unit InputFault) (done : Unit) → ended ≡ Ok done → ReadsUntil old new parts damage ended → StopsSections (as_source old) new.source OutOfMemory
lost_after old new parts damage ended done is until = lost_all old new parts damage (subst (λ (e : Result Unit InputFault). ReadsUntil old new parts damage e) is until)
