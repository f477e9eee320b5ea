-- The parts of a filled template are those of the template, filled.
use Rattle.std.proofs.Common.{◌≡◌, ℕ, Bool, true, false, cond, not, eqb, List, [], ◌∷◌, ◌++◌, map, Option, None, Some, refl, sym, ◌∙◌, ap}
use Rattle.std.specs.Prelude.{◌&&◌}
use Rattle.std.proofs.lemmas.Bool.{and_parts, not-true, eqb-false, eqb-true}
use Rattle.html.specs.Places.{Place, InText, is_text, place_after}
use Rattle.sheet_reading.specs.Pages.{with_byte, parts_with, parts_from}
use Rattle.html.specs.Templates.{filled_from}
use Rattle.html.specs.PlainTemplates.{holds_values}
use Rattle.sheet_reading.proofs.Filling.{Mode, InPage, InName, place_of, name_of, begun, AreCalm, only_text}
use Rattle.sheet_reading.proofs.Parts.{stays, has_part, with_text, calm-before}

module _ (texts : List ℕ → List ℕ) (are_calm : AreCalm texts) where
  -- the parts filled, the first of them from within this name, if any
  abbrev pub fill_parts : Option (List ℕ) → List (List ℕ) → List (List ℕ)
  fill_parts name [] = []
  fill_parts name (part ∷ parts) = filled_from texts name part ∷ map (filled_from texts None) parts

  pub fill_all : (parts : List (List ℕ)) → fill_parts None parts ≡ map (filled_from texts None) parts
  fill_all [] = refl
  fill_all (part ∷ parts) = refl

  -- ---- a byte that opens no place
  byte-filled : (byte : ℕ) (bytes : List ℕ) → eqb byte 123 ≡ false →
      filled_from texts None (byte ∷ bytes) ≡ byte ∷ filled_from texts None bytes
  byte-filled byte bytes e =
      ap (λ b. cond b (filled_from texts (Some []) bytes) (byte ∷ filled_from texts None bytes)) e

  byte-before : (byte : ℕ) (parts : List (List ℕ)) → eqb byte 123 ≡ false →
      with_byte byte (fill_parts None parts) ≡ fill_parts None (with_byte byte parts)
  byte-before byte [] e = ap (λ x. x ∷ []) (sym (byte-filled byte [] e))
  byte-before byte (part ∷ parts) e =
      ap (λ x. x ∷ map (filled_from texts None) parts) (sym (byte-filled byte part e))

  byte-with : (before after : Bool) (byte : ℕ) (parts : List (List ℕ)) → eqb byte 123 ≡ false →
      parts_with before after byte (fill_parts None parts) ≡ fill_parts None (parts_with before after byte parts)
  byte-with true true byte parts e = byte-before byte parts e
  byte-with true false byte parts e =
      ap (λ x. [] ∷ x) (byte-before byte parts e ∙ fill_all (with_byte byte parts))
  byte-with false true byte parts e =
      ap (λ x. x ∷ fill_parts None parts) (sym (byte-filled byte [] e))
      ∙ ap (λ x. filled_from texts None (byte ∷ []) ∷ x) (fill_all parts)
  byte-with false false byte parts e = byte-before byte parts e

  -- ---- one byte more
  in-page : (place : Place) (byte : ℕ) (bytes : List ℕ) (opens : Bool) → eqb byte 123 ≡ opens →
      (holds_values None bytes ≡ true →
      parts_from InText (filled_from texts (Some []) bytes) ≡ fill_parts (Some []) (parts_from InText bytes)) →
      (holds_values (Some (place_after place byte)) bytes ≡ true →
      parts_from (place_after place byte) (filled_from texts None bytes)
      ≡ fill_parts None (parts_from (place_after place byte) bytes)) →
      cond opens (is_text place && holds_values None bytes) (holds_values (Some (place_after place byte)) bytes) ≡ true →
      parts_from place (cond opens (filled_from texts (Some []) bytes) (byte ∷ filled_from texts None bytes))
      ≡ fill_parts None (parts_from place (byte ∷ bytes))
  in-page place byte bytes true is named paged h =
      let (text, holds) = only_text place (holds_values None bytes) h in
      let k = has_part InText bytes in
      ap (λ p. parts_from p (filled_from texts (Some []) bytes)) text
      ∙ (named holds
      ∙ (ap (fill_parts (Some [])) k.are
      ∙ (sym (ap (λ x. fill_parts None (with_byte 123 x)) k.are)
      ∙ (ap (λ b. fill_parts None (parts_from InText (b ∷ bytes))) (sym (eqb-true byte 123 is))
      ∙ ap (λ p. fill_parts None (parts_from p (byte ∷ bytes))) (sym text)))))
  in-page place byte bytes false is named paged h =
      let p = place_after place byte in
      ap (parts_with (is_text place) (is_text p) byte) (paged h)
      ∙ byte-with (is_text place) (is_text p) byte (parts_from p bytes) is

  text-before : (name : List ℕ) (parts : List (List ℕ)) (first : List ℕ) (others : List (List ℕ)) → parts ≡ first ∷ others →
      with_text (texts name) (fill_parts None parts) ≡ fill_parts (Some name) (with_byte 125 parts)
  text-before name parts first others e =
      ap (λ x. with_text (texts name) (fill_parts None x)) e
      ∙ sym (ap (λ x. fill_parts (Some name) (with_byte 125 x)) e)

  name-before : (name : List ℕ) (byte : ℕ) (parts : List (List ℕ)) (first : List ℕ) (others : List (List ℕ)) →
      parts ≡ first ∷ others → eqb byte 125 ≡ false →
      fill_parts (Some (name ++ byte ∷ [])) parts ≡ fill_parts (Some name) (with_byte byte parts)
  name-before name byte parts first others e is =
      ap (fill_parts (Some (name ++ byte ∷ []))) e
      ∙ (ap (λ x. x ∷ map (filled_from texts None) others)
      (sym (ap (λ b. cond b (texts name ++ filled_from texts None first) (filled_from texts (Some (name ++ byte ∷ [])) first)) is))
      ∙ sym (ap (λ x. fill_parts (Some name) (with_byte byte x)) e))

  in-name : (name : List ℕ) (byte : ℕ) (bytes : List ℕ) (closes : Bool) → eqb byte 125 ≡ closes →
      (holds_values (Some InText) bytes ≡ true →
      parts_from InText (filled_from texts None bytes) ≡ fill_parts None (parts_from InText bytes)) →
      (holds_values None bytes ≡ true →
      parts_from InText (filled_from texts (Some (name ++ byte ∷ [])) bytes)
      ≡ fill_parts (Some (name ++ byte ∷ [])) (parts_from InText bytes)) →
      cond closes (holds_values (Some InText) bytes) (not (eqb byte 60) && holds_values None bytes) ≡ true →
      parts_from InText
      (cond closes (texts name ++ filled_from texts None bytes) (filled_from texts (Some (name ++ byte ∷ [])) bytes))
      ≡ fill_parts (Some name) (parts_from InText (byte ∷ bytes))
  in-name name byte bytes true is paged named h =
      let k = has_part InText bytes in
      calm-before (texts name) (filled_from texts None bytes) (are_calm name)
      ∙ (ap (with_text (texts name)) (paged h)
      ∙ (text-before name (parts_from InText bytes) k.first k.others k.are
      ∙ ap (λ b. fill_parts (Some name) (parts_from InText (b ∷ bytes))) (sym (eqb-true byte 125 is))))
  in-name name byte bytes false is paged named h =
      let k = has_part InText bytes in
      let both = and_parts (not (eqb byte 60)) (holds_values None bytes) h in
      let calm = eqb-false byte 60 (not-true (eqb byte 60) both.0) in
      named both.1
      ∙ (name-before name byte (parts_from InText bytes) k.first k.others k.are is
      ∙ sym (ap (λ p. fill_parts (Some name) (parts_with true (is_text p) byte (parts_from p bytes))) (stays byte calm)))

  pub parts-filled : (bytes : List ℕ) (mode : Mode) → holds_values (begun mode) bytes ≡ true →
      parts_from (place_of mode) (filled_from texts (name_of mode) bytes)
      ≡ fill_parts (name_of mode) (parts_from (place_of mode) bytes)
  parts-filled [] (InPage place) h = refl
  parts-filled [] (InName name) h = refl
  parts-filled (byte ∷ bytes) (InPage place) h =
      in-page place byte bytes (eqb byte 123) refl (parts-filled bytes (InName []))
      (parts-filled bytes (InPage (place_after place byte))) h
  parts-filled (byte ∷ bytes) (InName name) h =
      in-name name byte bytes (eqb byte 125) refl (parts-filled bytes (InPage InText))
      (parts-filled bytes (InName (name ++ byte ∷ []))) h
