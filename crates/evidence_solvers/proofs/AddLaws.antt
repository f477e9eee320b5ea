-- What the calls of a writer add, and sections that are added to others.
use Rattle.std.proofs.Common.{◌≡◌, ℕ, ◌≤◌, List, [], ◌∷◌, ◌++◌, length, take, drop, Option, None, Some, Result, Ok, Err, Bool, true, false, not, nat_eq, nat_lt, refl, sym, ◌∙◌, ap, subst, arith, append_assoc, Vec, Global}
use Rattle.std.proofs.Math.Dec.{T, eqb→eq}
use Rattle.std.proofs.lemmas.List.{take-append-drop, take_all, append-nil}
use Rattle.std.specs.Io.KnownBytes.{Appends, Keeps}
use Rattle.cards.specs.Devices.{AddsWhereTold, StaysWhereTold}
use Rattle.evidence.specs.Sections.{SectionShape}
use Rattle.evidence.specs.SectionTexts.{section_text}
use Rattle.evidence.specs.Pieces.{greatest_length}
use Rattle.evidence_solvers.specs.declared.tails.Tail.{Tail}
use Rattle.std.specs.Prelude.{All, Contains}
use Rattle.std.proofs.lemmas.List.Elements.{All-nil, All-push, All-weaker, All-contains, Contains-append_left, Contains-push}
use Rattle.checker.specs.declared.entries.Shown.{Shown}
use Rattle.lease_book.specs.declared.events.Event.{Event}
use Rattle.evidence_solvers.specs.declared.claims.KeptClaim.{KeptClaim}
use Rattle.evidence_solvers.specs.declared.faults.KeepFault.{KeepFault}
use Rattle.evidence_solvers.specs.declared.faults.KeepFault.TheVariants.{OutOfMemory, TooLong, Write}
use Rattle.evidence_solvers.specs.Claims.{AreBacked, AreClaimed, ClaimTricks, HasClaimFor, IsBacked, IsClaimed, IsClaimedIn, IsJudged, OfPublished, number_by, shown_by}
use Rattle.evidence_solvers.specs.Kept.{IsKeptText, IsShort, AreShort, is_text, texts_of}
use Rattle.evidence_solvers.specs.Tails.{WritesOnce, AddsText, EndsAs}
use Rattle.evidence_solvers.specs.Added.{AddsSections, AddsBeginning, HasSections, IsAdded, IsKeptFor, MayBe}

-- ---- calls
pub adds_told : (old new : Option (List ℕ)) (bytes : List ℕ) → Appends old new bytes → AddsWhereTold old new bytes
adds_told None new bytes a = tt
adds_told (Some xs) None bytes a = absurd a
adds_told (Some xs) (Some ys) bytes a = ap Some a

pub stays_told : (old new : Option (List ℕ)) → Keeps old new → StaysWhereTold old new
stays_told None new k = tt
stays_told (Some xs) None k = absurd k
stays_told (Some xs) (Some ys) k = ap Some k

less_is_not_all : (m n : ℕ) → m ≤ n → nat_lt m n ≡ not (nat_eq m n)
less_is_not_all m n h = grind (arith)

pub wrote_part : {F : Type 0} (contents : F → Option (List ℕ)) (old new : F) (text : List ℕ) (count : ℕ) (failed : Bool) → count ≤ length text → Appends (contents old) (contents new) (take count text)
    → failed ≡ nat_lt count (length text) → WritesOnce contents old new text false failed
wrote_part contents old new text count failed within added e =
    (Some count, (within, adds_told (contents old) (contents new) (take count text) added), e ∙ less_is_not_all count (length text) within)

pub wrote_none : {F : Type 0} (contents : F → Option (List ℕ)) (old new : F) (text : List ℕ) (failed : Bool) → Keeps (contents old) (contents new) → failed ≡ true → WritesOnce contents old new text false failed
wrote_none contents old new text failed kept e = (None, stays_told (contents old) (contents new) kept, e)

-- ---- bytes behind bytes
adds_twice : (first second third : Option (List ℕ)) (one other : List ℕ) → AddsWhereTold first second one → AddsWhereTold second third other → AddsWhereTold first third (one ++ other)
adds_twice None second third one other a b = tt
adds_twice (Some told) second third one other a b =
    let b' : AddsWhereTold (Some (told ++ one)) third other = rw a at b in b' ∙ ap Some (append_assoc told one other)

adds_and_stays : (first second third : Option (List ℕ)) (one : List ℕ) → AddsWhereTold first second one → StaysWhereTold second third → AddsWhereTold first third one
adds_and_stays None second third one a b = tt
adds_and_stays (Some told) second third one a b = let b' : StaysWhereTold (Some (told ++ one)) third = rw a at b in b'

adds_nothing : (told : Option (List ℕ)) → AddsWhereTold told told []
adds_nothing None = tt
adds_nothing (Some told) = ap Some (sym (append-nil told))

-- ---- claims
-- claims of this section were noted
abbrev pub Notes : SectionShape → List KeptClaim → List KeptClaim → Type 0
Notes section claims claims' = (sections : List SectionShape) → Contains sections section → All (IsClaimedIn sections) claims → All (IsClaimedIn sections) claims'

claimed_in_more : (sections more : List SectionShape) (claim : KeptClaim) → IsClaimedIn sections claim → IsClaimedIn (sections ++ more) claim
claimed_in_more sections more claim is = record { section = is.section; is_one = Contains-append_left sections more is.section is.is_one; claims = is.claims }

noted_in : (section : SectionShape) (claims claims' : List KeptClaim) (sections : List SectionShape) → Notes section claims claims' → All (IsClaimedIn sections) claims → All (IsClaimedIn (sections ++ (section ∷ []))) claims'
noted_in section claims claims' sections notes all = notes (sections ++ (section ∷ [])) (Contains-push sections section) (All-weaker (IsClaimedIn sections) (IsClaimedIn (sections ++ (section ∷ []))) (λ claim is. claimed_in_more sections (section ∷ []) claim is) claims all)

-- ---- a section behind others
texts_push : (sections : List SectionShape) (section : SectionShape) → texts_of (sections ++ (section ∷ [])) ≡ texts_of sections ++ section_text section
texts_push [] section = append-nil (section_text section)
texts_push (one ∷ more) section = ap (λ t. section_text one ++ t) (texts_push more section) ∙ sym (append_assoc (section_text one) (texts_of more) (section_text section))

short_push : (sections : List SectionShape) (section : SectionShape) → AreShort sections → IsShort section → AreShort (sections ++ (section ∷ []))
short_push [] section all short = (short, tt)
short_push (one ∷ more) section all short = (all.0, short_push more section all.1 short)

module _ (may_be : MayBe) where
  -- ---- what a file has
  begins : (told now : Option (List ℕ)) (sections : List SectionShape) → HasSections may_be told now sections → AddsBeginning may_be told now
  begins told now sections has = record {
    sections = sections;
    taken = texts_of sections;
    rest = [];
    short = has.short;
    may = has.may;
    texts_are = sym (append-nil (texts_of sections));
    adds = has.adds;
  }

  as_beginning : (told now : Option (List ℕ)) (claims : List KeptClaim) → AddsSections may_be told now claims → AddsBeginning may_be told now
  as_beginning told now claims a = begins told now a.sections a.has

  -- nothing was added yet
  no_sections : (told : Option (List ℕ)) → AddsSections may_be told told []
  no_sections told = record {
    sections = [];
    has = record { short = tt; may = All-nil may_be; adds = adds_nothing told };
    claimed = All-nil (IsClaimedIn []);
  }

  pub none_added : (told now : Option (List ℕ)) (failed : Bool) → now ≡ told → IsAdded may_be told now failed []
  none_added told now true e = subst (λ (n : Option (List ℕ)). AddsBeginning may_be told n) (sym e) (as_beginning told told [] (no_sections told))
  none_added told now false e = subst (λ (n : Option (List ℕ)). AddsSections may_be told n []) (sym e) (no_sections told)

  -- a failure more
  fails_too : (told now : Option (List ℕ)) (claims : List KeptClaim) (missed failed : Bool) → (missed ≡ true → failed ≡ true) → IsAdded may_be told now missed claims → IsAdded may_be told now failed claims
  fails_too told now claims true failed noted added = subst (λ (f : Bool). IsAdded may_be told now f claims) (sym (noted refl)) added
  fails_too told now claims false true noted added = as_beginning told now claims added
  fails_too told now claims false false noted added = added

  -- one more section, of which a call took so many bytes
  module _ (told before after : Option (List ℕ)) (section : SectionShape) (short : IsShort section) (may : may_be section) (sections : List SectionShape) (has : HasSections may_be told before sections) (count : ℕ)
      (within : count ≤ length (section_text section)) (adds : AddsWhereTold before after (take count (section_text section))) where
    all_taken : nat_eq count (length (section_text section)) ≡ true → HasSections may_be told after (sections ++ (section ∷ []))
    all_taken e =
        let whole : take count (section_text section) ≡ section_text section = take_all count (section_text section) (let at : count ≡ length (section_text section) = eqb→eq count (length (section_text section)) (subst T (sym e) tt) in omega arith) in
        record {
          short = short_push sections section has.short short;
          may = All-push may_be sections section has.may may;
          adds = subst (AddsWhereTold told after) (sym (texts_push sections section)) (adds_twice told before after (texts_of sections) (section_text section) has.adds (subst (AddsWhereTold before after) whole adds));
        }

    some_taken : AddsBeginning may_be told after
    some_taken = record {
      sections = sections ++ (section ∷ []);
      taken = texts_of sections ++ take count (section_text section);
      rest = drop count (section_text section);
      short = short_push sections section has.short short;
      may = All-push may_be sections section has.may may;
      texts_are = texts_push sections section ∙ (ap (λ t. texts_of sections ++ t) (sym (take-append-drop count (section_text section)))
          ∙ sym (append_assoc (texts_of sections) (take count (section_text section)) (drop count (section_text section))));
      adds = adds_twice told before after (texts_of sections) (take count (section_text section)) has.adds adds;
    }

    one_more : (claims : List KeptClaim) → All (IsClaimedIn (sections ++ (section ∷ []))) claims → (all : Bool) → nat_eq count (length (section_text section)) ≡ all → IsAdded may_be told after (not all) claims
    one_more claims claimed true e = record { sections = sections ++ (section ∷ []); has = all_taken e; claimed = claimed }
    one_more claims claimed false e = some_taken

  module _ {F : Type 0} (contents : F → Option (List ℕ)) (told : Option (List ℕ)) (section : SectionShape) (may : may_be section) (claims claims' : List KeptClaim) where
    after_write : Notes section claims claims' → (old new : F) (failed missed : Bool) → IsShort section → IsAdded may_be told (contents old) failed claims → WritesOnce contents old new (section_text section) failed missed
        → IsAdded may_be told (contents new) missed claims'
    after_write grows old new true missed short added (same, e) = subst (λ (f : Bool). IsAdded may_be told (contents new) f claims') (sym e) (subst (λ (f : F). AddsBeginning may_be told (contents f)) (sym same) added)
    after_write grows old new false missed short added (None, stays, e) =
        subst (λ (f : Bool). IsAdded may_be told (contents new) f claims') (sym e) (begins told (contents new) added.sections (record {
          short = added.has.short;
          may = added.has.may;
          adds = adds_and_stays told (contents old) (contents new) (texts_of added.sections) added.has.adds stays;
        }))
    after_write grows old new false missed short added (Some count, (within, adds), e) =
        subst (λ (f : Bool). IsAdded may_be told (contents new) f claims') (sym e)
        (one_more told (contents old) (contents new) section short may added.sections added.has count within adds claims' (noted_in section claims claims' added.sections grows added.claimed) (nat_eq count (length (section_text section))) refl)

    pub after_add : (old new : Tail F) (text : Result (Option (Vec ℕ Global)) KeepFault) → IsKeptText section text
        → (is_text text ≡ true → Notes section claims claims')
        → (is_text text ≡ false → claims' ≡ claims)
        → IsAdded may_be told (contents old.file) old.has_failed claims → AddsText contents old new text
        → IsAdded may_be told (contents new.file) new.has_failed claims'
    after_add old new (Ok (Some text)) (is, length_is) grows same added ((missed, writes, noted), lacks) =
        let short : IsShort section = (is.0, subst (λ (t : List ℕ). length t ≤ greatest_length) is.1 length_is) in
        fails_too told (contents new.file) claims' missed new.has_failed noted
        (after_write (grows refl) old.file new.file old.has_failed missed short added (subst (λ (t : List ℕ). WritesOnce contents old.file new.file t old.has_failed missed) is.1 writes))
    after_add old new (Ok None) is grows same added stays =
        subst (λ (c : List KeptClaim). IsAdded may_be told (contents new.file) new.has_failed c) (sym (same refl)) (subst (λ (t : Tail F). IsAdded may_be told (contents t.file) t.has_failed claims) (sym stays) added)
    after_add old new (Err fault) is grows same added stays =
        subst (λ (c : List KeptClaim). IsAdded may_be told (contents new.file) new.has_failed c) (sym (same refl)) (subst (λ (t : Tail F). IsAdded may_be told (contents t.file) t.has_failed claims) (sym stays) added)

  -- ---- the end
  backs : (sections : List SectionShape) (claims : List KeptClaim) → All (IsClaimedIn sections) claims → (shown : Shown) (k : ℕ) → HasClaimFor claims shown k → ClaimTricks sections shown.layout shown.declarer shown.trump k
  backs sections claims claimed shown k has =
      let found : IsClaimedIn sections has.claim = All-contains (IsClaimedIn sections) claims has.claim claimed has.is_one in
      rw (has.is_for.layout, has.is_for.declarer, has.is_for.trump, has.is_for.tricks) at found

  is_backed : (sections : List SectionShape) (claims : List KeptClaim) → All (IsClaimedIn sections) claims → (shown : Option Shown) (number : Option ℕ) → OfPublished (HasClaimFor claims) shown number → OfPublished (λ (s : Shown) (k : ℕ). ClaimTricks sections s.layout s.declarer s.trump k) shown number
  is_backed sections claims claimed None number is = tt
  is_backed sections claims claimed (Some shown) None is = tt
  is_backed sections claims claimed (Some shown) (Some k) is = backs sections claims claimed shown k is

  are_backed : (sections : List SectionShape) (claims : List KeptClaim) (events : List Event) → All (IsClaimedIn sections) claims → AreClaimed claims events → AreBacked sections events
  are_backed sections claims events claimed all = All-weaker (IsClaimed claims) (IsBacked sections) (λ event is. is_backed sections claims claimed (shown_by event.asked) (number_by event.reply) is) events all

  judged_so : (told now : Option (List ℕ)) (claims : List KeptClaim) (events : List Event) (kept kept' : Result Unit KeepFault) → AddsSections may_be told now claims → IsJudged claims events kept kept' → IsKeptFor may_be told events now kept'
  judged_so told now claims events (Ok done) (Ok all) added is = record { sections = added.sections; has = added.has; backed = are_backed added.sections claims events added.claimed is }
  judged_so told now claims events (Ok done) (Err fault) added is = subst (λ (f : KeepFault). IsKeptFor may_be told events now (Err f)) (sym is) (as_beginning told now claims added)
  judged_so told now claims events (Err OutOfMemory) kept' added is = subst (IsKeptFor may_be told events now) (sym is) (record { sections = added.sections; has = added.has })
  judged_so told now claims events (Err TooLong) kept' added is = subst (IsKeptFor may_be told events now) (sym is) (record { sections = added.sections; has = added.has })
  judged_so told now claims events (Err Write) kept' added is = subst (IsKeptFor may_be told events now) (sym is) (as_beginning told now claims added)

  failed_so : (told now : Option (List ℕ)) (claims : List KeptClaim) (events : List Event) (kept' : Result Unit KeepFault) → AddsBeginning may_be told now → IsJudged claims events (Err Write) kept' → IsKeptFor may_be told events now kept'
  failed_so told now claims events kept' added is = subst (IsKeptFor may_be told events now) (sym is) added

  pub kept_for : (told now : Option (List ℕ)) (claims : List KeptClaim) (events : List Event) (failed : Bool) (lacks kept kept' : Result Unit KeepFault) → IsAdded may_be told now failed claims → EndsAs failed lacks kept → IsJudged claims events kept kept' → IsKeptFor may_be told events now kept'
  kept_for told now claims events true lacks kept kept' added (missed, e) is = failed_so told now claims events kept' added (subst (λ (k : Result Unit KeepFault). IsJudged claims events k kept') e is)
  kept_for told now claims events false lacks kept kept' added (missed, e) is = judged_so told now claims events kept kept' added is
