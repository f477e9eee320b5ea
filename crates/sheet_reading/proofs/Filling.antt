-- What the values of a template leave as it is: its tags, and that it ends between tags.
use Rattle.std.proofs.Common.{◌≡◌, ◌≢◌, ℕ, Bool, true, false, true≢false, cond, not, eqb, List, [], ◌∷◌, ◌++◌, Option, None, Some, refl, sym, ◌∙◌, ap}
use Rattle.std.specs.Prelude.{◌&&◌}
use Rattle.std.proofs.lemmas.Bool.{and_parts}
use Rattle.html.specs.Places.{Place, InText, InTag, InQuotes, is_text, place_after, place_at_end}
use Rattle.html.specs.Templates.{filled_from}
use Rattle.html.specs.PlainTemplates.{holds_values}
use Rattle.html.proofs.Each.{Each}
use Rattle.sheet_reading.proofs.Parts.{tags_from, tags_with, tags-step, calm-end, calm-tags}

-- a place of the page, or the name so far of a place for a value
pub data Mode : Type 0 where
  InPage : Place → Mode
  InName : List ℕ → Mode

abbrev pub place_of : Mode → Place
place_of (InPage place) = place
place_of (InName name) = InText

abbrev pub name_of : Mode → Option (List ℕ)
name_of (InPage place) = None
name_of (InName name) = Some name

abbrev pub begun : Mode → Option Place
begun (InPage place) = Some place
begun (InName name) = None

-- texts that hold no `<`
abbrev pub AreCalm : (List ℕ → List ℕ) → Type 0
AreCalm texts = (name : List ℕ) → Each (λ byte. byte ≢ 60) (texts name)

pub only_text : (place : Place) (b : Bool) → (is_text place && b) ≡ true → (place ≡ InText) × (b ≡ true)
only_text InText b h = (refl, h)
only_text InTag b h = absurd (true≢false (sym h))
only_text (InQuotes quote) b h = absurd (true≢false (sym h))

ends-only : (place : Place) → is_text place ≡ true → place ≡ InText
ends-only InText h = refl
ends-only InTag h = absurd (true≢false (sym h))
ends-only (InQuotes quote) h = absurd (true≢false (sym h))

module _ (one : List ℕ → List ℕ) (one_calm : AreCalm one) where
  -- the end
  end-begins : (place : Place) (bytes : List ℕ) → place ≡ InText →
      place_at_end InText (filled_from one (Some []) bytes) ≡ InText →
      place_at_end place (filled_from one (Some []) bytes) ≡ InText
  end-begins place bytes e h = ap (λ p. place_at_end p (filled_from one (Some []) bytes)) e ∙ h

  end-page : (place : Place) (byte : ℕ) (bytes : List ℕ) (opens : Bool) →
      (holds_values None bytes ≡ true → place_at_end InText (filled_from one (Some []) bytes) ≡ InText) →
      (holds_values (Some (place_after place byte)) bytes ≡ true →
      place_at_end (place_after place byte) (filled_from one None bytes) ≡ InText) →
      cond opens (is_text place && holds_values None bytes) (holds_values (Some (place_after place byte)) bytes) ≡ true →
      place_at_end place (cond opens (filled_from one (Some []) bytes) (byte ∷ filled_from one None bytes)) ≡ InText
  end-page place byte bytes true named paged h =
      let (is, holds) = only_text place (holds_values None bytes) h in
      end-begins place bytes is (named holds)
  end-page place byte bytes false named paged h = paged h

  end-name : (name : List ℕ) (byte : ℕ) (bytes : List ℕ) (closes : Bool) →
      (holds_values (Some InText) bytes ≡ true → place_at_end InText (filled_from one None bytes) ≡ InText) →
      (holds_values None bytes ≡ true → place_at_end InText (filled_from one (Some (name ++ byte ∷ [])) bytes) ≡ InText) →
      cond closes (holds_values (Some InText) bytes) (not (eqb byte 60) && holds_values None bytes) ≡ true →
      place_at_end InText
      (cond closes (one name ++ filled_from one None bytes) (filled_from one (Some (name ++ byte ∷ [])) bytes)) ≡ InText
  end-name name byte bytes true paged named h =
      calm-end (one name) (filled_from one None bytes) (one_calm name) ∙ paged h
  end-name name byte bytes false paged named h = named (and_parts (not (eqb byte 60)) (holds_values None bytes) h).1

  pub end-filled : (bytes : List ℕ) (mode : Mode) → holds_values (begun mode) bytes ≡ true →
      place_at_end (place_of mode) (filled_from one (name_of mode) bytes) ≡ InText
  end-filled [] (InPage place) h = ends-only place h
  end-filled [] (InName name) h = refl
  end-filled (byte ∷ bytes) (InPage place) h =
      end-page place byte bytes (eqb byte 123) (end-filled bytes (InName []))
      (end-filled bytes (InPage (place_after place byte))) h
  end-filled (byte ∷ bytes) (InName name) h =
      end-name name byte bytes (eqb byte 125) (end-filled bytes (InPage InText))
      (end-filled bytes (InName (name ++ byte ∷ []))) h

module _ (one other : List ℕ → List ℕ) (one_calm : AreCalm one) (other_calm : AreCalm other) where
  -- the tags of both
  abbrev pub AreSame : Place → Option (List ℕ) → List ℕ → Type 0
  AreSame place name bytes = tags_from place (filled_from one name bytes) ≡ tags_from place (filled_from other name bytes)

  same-page : (place : Place) (byte : ℕ) (bytes : List ℕ) (opens : Bool) →
      (holds_values None bytes ≡ true → AreSame InText (Some []) bytes) →
      (holds_values (Some (place_after place byte)) bytes ≡ true → AreSame (place_after place byte) None bytes) →
      cond opens (is_text place && holds_values None bytes) (holds_values (Some (place_after place byte)) bytes) ≡ true →
      tags_from place (cond opens (filled_from one (Some []) bytes) (byte ∷ filled_from one None bytes))
      ≡ tags_from place (cond opens (filled_from other (Some []) bytes) (byte ∷ filled_from other None bytes))
  same-page place byte bytes true named paged h =
      let (is, holds) = only_text place (holds_values None bytes) h in
      ap (λ p. tags_from p (filled_from one (Some []) bytes)) is
      ∙ (named holds ∙ sym (ap (λ p. tags_from p (filled_from other (Some []) bytes)) is))
  same-page place byte bytes false named paged h =
      let p = place_after place byte in
      tags-step place byte (filled_from one None bytes)
      ∙ (ap (tags_with (is_text place) (is_text p) byte) (paged h)
      ∙ sym (tags-step place byte (filled_from other None bytes)))

  same-name : (name : List ℕ) (byte : ℕ) (bytes : List ℕ) (closes : Bool) →
      (holds_values (Some InText) bytes ≡ true → AreSame InText None bytes) →
      (holds_values None bytes ≡ true → AreSame InText (Some (name ++ byte ∷ [])) bytes) →
      cond closes (holds_values (Some InText) bytes) (not (eqb byte 60) && holds_values None bytes) ≡ true →
      tags_from InText
      (cond closes (one name ++ filled_from one None bytes) (filled_from one (Some (name ++ byte ∷ [])) bytes))
      ≡ tags_from InText
      (cond closes (other name ++ filled_from other None bytes) (filled_from other (Some (name ++ byte ∷ [])) bytes))
  same-name name byte bytes true paged named h =
      calm-tags (one name) (filled_from one None bytes) (one_calm name)
      ∙ (paged h ∙ sym (calm-tags (other name) (filled_from other None bytes) (other_calm name)))
  same-name name byte bytes false paged named h = named (and_parts (not (eqb byte 60)) (holds_values None bytes) h).1

  pub same-filled : (bytes : List ℕ) (mode : Mode) → holds_values (begun mode) bytes ≡ true →
      AreSame (place_of mode) (name_of mode) bytes
  same-filled [] (InPage place) h = refl
  same-filled [] (InName name) h = refl
  same-filled (byte ∷ bytes) (InPage place) h =
      same-page place byte bytes (eqb byte 123) (same-filled bytes (InName []))
      (same-filled bytes (InPage (place_after place byte))) h
  same-filled (byte ∷ bytes) (InName name) h =
      same-name name byte bytes (eqb byte 125) (same-filled bytes (InPage InText))
      (same-filled bytes (InName (name ++ byte ∷ []))) h
