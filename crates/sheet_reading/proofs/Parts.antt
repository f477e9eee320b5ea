-- The tags among the parts of a page, byte by byte.
use Rattle.std.proofs.Common.{◌≡◌, ◌≢◌, ℕ, Bool, true, false, true≢false, not, cond, List, [], ◌∷◌, ◌++◌, refl, sym, ◌∙◌, ap}
use Rattle.html.proofs.Each.{Each}
use Rattle.std.proofs.lemmas.Bool.{ne_eqb}
use Rattle.html.specs.Places.{Place, InText, InTag, InQuotes, is_text, place_after, place_at_end}
use Rattle.sheet_reading.specs.Pages.{with_byte, parts_with, parts_from, joined, every_other}

-- the tags from a place on
abbrev pub tags_from : Place → List ℕ → List (List ℕ)
tags_from place bytes = every_other (not (is_text place)) (parts_from place bytes)

-- the tags with a byte before them
abbrev pub tags_with : Bool → Bool → ℕ → List (List ℕ) → List (List ℕ)
tags_with true true byte tags = tags
tags_with true false byte tags = with_byte byte tags
tags_with false true byte tags = (byte ∷ []) ∷ tags
tags_with false false byte tags = with_byte byte tags

in_text : (byte : ℕ) (parts : List (List ℕ)) → every_other false (with_byte byte parts) ≡ every_other false parts
in_text byte [] = refl
in_text byte (part ∷ parts) = refl

in_tag : (byte : ℕ) (parts : List (List ℕ)) → every_other true (with_byte byte parts) ≡ with_byte byte (every_other true parts)
in_tag byte [] = refl
in_tag byte (part ∷ parts) = refl

tags-with : (before after : Bool) (byte : ℕ) (parts : List (List ℕ)) →
    every_other (not before) (parts_with before after byte parts) ≡ tags_with before after byte (every_other (not after) parts)
tags-with true true byte parts = in_text byte parts
tags-with true false byte parts = in_tag byte parts
tags-with false true byte parts = refl
tags-with false false byte parts = in_tag byte parts

-- one byte more
pub tags-step : (place : Place) (byte : ℕ) (bytes : List ℕ) →
    tags_from place (byte ∷ bytes)
    ≡ tags_with (is_text place) (is_text (place_after place byte)) byte (tags_from (place_after place byte) bytes)
tags-step place byte bytes =
    tags-with (is_text place) (is_text (place_after place byte)) byte (parts_from (place_after place byte) bytes)

-- ---- bytes that are no `<`
pub stays : (byte : ℕ) → byte ≢ 60 → place_after InText byte ≡ InText
stays byte h = ap (λ b. cond b InTag InText) (ne_eqb byte 60 h)

pub calm-end : (text after : List ℕ) → Each (λ byte. byte ≢ 60) text →
    place_at_end InText (text ++ after) ≡ place_at_end InText after
calm-end [] after h = refl
calm-end (byte ∷ text) after h = ap (λ p. place_at_end p (text ++ after)) (stays byte h.0) ∙ calm-end text after h.1

pub calm-tags : (text after : List ℕ) → Each (λ byte. byte ≢ 60) text → tags_from InText (text ++ after) ≡ tags_from InText after
calm-tags [] after h = refl
calm-tags (byte ∷ text) after h =
    tags-step InText byte (text ++ after)
    ∙ (ap (λ p. tags_with true (is_text p) byte (tags_from p (text ++ after))) (stays byte h.0)
    ∙ calm-tags text after h.1)

pub calm-parts : (text : List ℕ) → Each (λ byte. byte ≢ 60) text → parts_from InText text ≡ text ∷ []
calm-parts [] h = refl
calm-parts (byte ∷ text) h =
    ap (λ p. parts_with true (is_text p) byte (parts_from p text)) (stays byte h.0)
    ∙ ap (with_byte byte) (calm-parts text h.1)

-- ---- two pages
-- there is a tag from a place in a tag on
pub record IsLonger (tags : List (List ℕ)) : Type 0 where
  pub first : List ℕ
  pub rest : List (List ℕ)
  pub are : tags ≡ first ∷ rest

with-longer : (byte : ℕ) (tags : List (List ℕ)) → IsLonger (with_byte byte tags)
with-longer byte [] = record { first = byte ∷ []; rest = []; are = refl }
with-longer byte (tag ∷ tags) = record { first = byte ∷ tag; rest = tags; are = refl }

longer-with : (after : Bool) (byte : ℕ) (tags : List (List ℕ)) → IsLonger (tags_with false after byte tags)
longer-with true byte tags = record { first = byte ∷ []; rest = tags; are = refl }
longer-with false byte tags = with-longer byte tags

longer-from : (tags other : List (List ℕ)) → other ≡ tags → IsLonger tags → IsLonger other
longer-from tags other e h = record { first = h.first; rest = h.rest; are = e ∙ h.are }

pub longer : (place : Place) (bytes : List ℕ) → is_text place ≡ false → IsLonger (tags_from place bytes)
longer place [] e = record { first = []; rest = []; are = ap (λ b. every_other (not b) ([] ∷ [])) e }
longer place (byte ∷ bytes) e =
    let p = place_after place byte in
    longer-from (tags_with false (is_text p) byte (tags_from p bytes)) (tags_from place (byte ∷ bytes))
    (tags-step place byte bytes ∙ ap (λ b. tags_with b (is_text p) byte (tags_from p bytes)) e)
    (longer-with (is_text p) byte (tags_from p bytes))

with-append : (byte : ℕ) (tags more : List (List ℕ)) → IsLonger tags → with_byte byte (tags ++ more) ≡ with_byte byte tags ++ more
with-append byte tags more h =
    ap (λ t. with_byte byte (t ++ more)) h.are ∙ sym (ap (λ t. with_byte byte t ++ more) h.are)

tags_with-append : (before after : Bool) (byte : ℕ) (tags more : List (List ℕ)) → (after ≡ false → IsLonger tags) →
    tags_with before after byte (tags ++ more) ≡ tags_with before after byte tags ++ more
tags_with-append true true byte tags more h = refl
tags_with-append true false byte tags more h = with-append byte tags more (h refl)
tags_with-append false true byte tags more h = refl
tags_with-append false false byte tags more h = with-append byte tags more (h refl)

text-only : (place : Place) → place ≡ InText → is_text place ≡ false → ⊥
text-only place e h = true≢false (sym (ap is_text e) ∙ h)

pub tags-append : (place : Place) (page after : List ℕ) → place_at_end place page ≡ InText →
    tags_from place (page ++ after) ≡ tags_from place page ++ tags_from InText after
tags-append InText [] after e = refl
tags-append InTag [] after e = absurd (text-only InTag e refl)
tags-append (InQuotes quote) [] after e = absurd (text-only (InQuotes quote) e refl)
tags-append place (byte ∷ page) after e =
    let p = place_after place byte in
    tags-step place byte (page ++ after)
    ∙ (ap (tags_with (is_text place) (is_text p) byte) (tags-append p page after e)
    ∙ (tags_with-append (is_text place) (is_text p) byte (tags_from p page) (tags_from InText after) (longer p page)
    ∙ ap (λ t. t ++ tags_from InText after) (sym (tags-step place byte page))))

-- ---- all parts
pub record HasPart (parts : List (List ℕ)) : Type 0 where
  pub first : List ℕ
  pub others : List (List ℕ)
  pub are : parts ≡ first ∷ others

part-before : (byte : ℕ) (parts : List (List ℕ)) → HasPart (with_byte byte parts)
part-before byte [] = record { first = byte ∷ []; others = []; are = refl }
part-before byte (part ∷ parts) = record { first = byte ∷ part; others = parts; are = refl }

part-with : (before after : Bool) (byte : ℕ) (parts : List (List ℕ)) → HasPart (parts_with before after byte parts)
part-with true true byte parts = part-before byte parts
part-with true false byte parts = record { first = []; others = with_byte byte parts; are = refl }
part-with false true byte parts = record { first = byte ∷ []; others = parts; are = refl }
part-with false false byte parts = part-before byte parts

pub has_part : (place : Place) (bytes : List ℕ) → HasPart (parts_from place bytes)
has_part place [] = record { first = []; others = []; are = refl }
has_part place (byte ∷ bytes) =
    part-with (is_text place) (is_text (place_after place byte)) byte (parts_from (place_after place byte) bytes)

joined-nothing : (parts : List (List ℕ)) → HasPart parts → joined ([] ∷ []) parts ≡ parts
joined-nothing parts h = ap (joined ([] ∷ [])) h.are ∙ sym h.are

byte-first : (byte : ℕ) (first : List ℕ) (others other : List (List ℕ)) → HasPart other →
    with_byte byte (joined (first ∷ others) other) ≡ joined ((byte ∷ first) ∷ others) other
byte-first byte first [] other k =
    ap (λ x. with_byte byte (joined (first ∷ []) x)) k.are ∙ sym (ap (joined ((byte ∷ first) ∷ [])) k.are)
byte-first byte first (next ∷ others) other k = refl

past-first : (first : List ℕ) (parts other : List (List ℕ)) → HasPart parts → joined (first ∷ parts) other ≡ first ∷ joined parts other
past-first first parts other h =
    ap (λ x. joined (first ∷ x) other) h.are ∙ sym (ap (λ x. first ∷ joined x other) h.are)

byte-joined : (byte : ℕ) (one other : List (List ℕ)) → HasPart one → HasPart other →
    with_byte byte (joined one other) ≡ joined (with_byte byte one) other
byte-joined byte one other h k =
    ap (λ x. with_byte byte (joined x other)) h.are
    ∙ (byte-first byte h.first h.others other k ∙ sym (ap (λ x. joined (with_byte byte x) other) h.are))

with-joined : (before after : Bool) (byte : ℕ) (one other : List (List ℕ)) → HasPart one → HasPart other →
    parts_with before after byte (joined one other) ≡ joined (parts_with before after byte one) other
with-joined true true byte one other h k = byte-joined byte one other h k
with-joined true false byte one other h k =
    ap (λ x. [] ∷ x) (byte-joined byte one other h k) ∙ sym (past-first [] (with_byte byte one) other (part-before byte one))
with-joined false true byte one other h k = sym (past-first (byte ∷ []) one other h)
with-joined false false byte one other h k = byte-joined byte one other h k

pub parts-append : (place : Place) (page after : List ℕ) → place_at_end place page ≡ InText →
    parts_from place (page ++ after) ≡ joined (parts_from place page) (parts_from InText after)
parts-append place [] after e =
    ap (λ p. parts_from p after) e ∙ sym (joined-nothing (parts_from InText after) (has_part InText after))
parts-append place (byte ∷ page) after e =
    let p = place_after place byte in
    ap (parts_with (is_text place) (is_text p) byte) (parts-append p page after e)
    ∙ with-joined (is_text place) (is_text p) byte (parts_from p page) (parts_from InText after) (has_part p page)
    (has_part InText after)

-- a text before the first part
abbrev pub with_text : List ℕ → List (List ℕ) → List (List ℕ)
with_text text [] = text ∷ []
with_text text (part ∷ parts) = (text ++ part) ∷ parts

pub calm-before : (text after : List ℕ) → Each (λ byte. byte ≢ 60) text →
    parts_from InText (text ++ after) ≡ with_text text (parts_from InText after)
calm-before [] after h =
    let k = has_part InText after in
    k.are ∙ sym (ap (with_text []) k.are)
calm-before (byte ∷ text) after h =
    let k = has_part InText after in
    ap (λ p. parts_with true (is_text p) byte (parts_from p (text ++ after))) (stays byte h.0)
    ∙ (ap (with_byte byte) (calm-before text after h.1)
    ∙ (ap (λ x. with_byte byte (with_text text x)) k.are ∙ sym (ap (with_text (byte ∷ text)) k.are)))
