-- Where the parts of a tag pair stand in its line.
use Rattle.std.proofs.Common.{◌≡◌, ◌≢◌, ℕ, ◌≤◌, Bool, true, false, cond, eqb, List, [], ◌∷◌, ◌++◌, length, Option, Some, None, refl, sym, ◌∙◌, ap, subst, arith, append_assoc, length-append, inl, inr}
use Rattle.std.proofs.lemmas.Bool.{eqb-true, eqb-false, cases_eq}
use Rattle.std.proofs.lemmas.List.Elements.{All-nil, All-cons}
use Rattle.pbn_deals.specs.Letters.{is_blank}
use Rattle.pbn_deals.specs.DealValue.{after_blanks}
use Rattle.pbn_deals.specs.Reading.{Lacks}
use Rattle.pbn_deals.specs.Tags.{Tag, is_name_byte, name_front, after_name, value_front, after_value, closed_tag, tag_with_value, tag_with_name, named_tag, tag_of}

-- ---- a text up to the first such byte
pub data Split (byte : ℕ) (text : List ℕ) : Type 0 where
  split_nowhere : Lacks byte text → Split byte text
  split_at : (front after : List ℕ) → text ≡ front ++ byte ∷ after → Lacks byte front → Split byte text

pub split : (byte : ℕ) (text : List ℕ) → Split byte text
split byte [] = split_nowhere (All-nil (λ other. other ≢ byte))
split byte (first ∷ rest) =
    elim (cases_eq first byte) [
      | inl e ↦ split_at [] rest (ap (λ x. x ∷ rest) e) (All-nil (λ other. other ≢ byte))
      | inr ne ↦ elim (split byte rest) [
        | split_nowhere lacks ↦ split_nowhere (All-cons (λ other. other ≢ byte) first rest ne lacks)
        | split_at front after e lacks ↦
            split_at (first ∷ front) after (ap (λ x. first ∷ x) e) (All-cons (λ other. other ≢ byte) first front ne lacks)
      ]
    ]

-- ---- what stands at the end of a text
abbrev pub EndsWith : List ℕ → List ℕ → Type 0
EndsWith text rest = (front : List ℕ) × (text ≡ front ++ rest)

ends_more : (byte : ℕ) (text rest : List ℕ) → EndsWith text rest → EndsWith (byte ∷ text) rest
ends_more byte text rest h = (byte ∷ h.0, ap (λ x. byte ∷ x) h.1)

pub ends_twice : (text mid rest : List ℕ) → EndsWith text mid → EndsWith mid rest → EndsWith text rest
ends_twice text mid rest h g = (h.0 ++ g.0, h.1 ∙ (ap (λ x. h.0 ++ x) g.1 ∙ sym (append_assoc h.0 g.0 rest)))

pub after_blanks-ends : (text : List ℕ) → EndsWith text (after_blanks text)
after_blanks-ends [] = ([], refl)
after_blanks-ends (byte ∷ bytes) = go (is_blank byte) (after_blanks-ends bytes) where
  go : (b : Bool) → EndsWith bytes (after_blanks bytes) → EndsWith (byte ∷ bytes) (cond b (after_blanks bytes) (byte ∷ bytes))
  go true h = ends_more byte bytes (after_blanks bytes) h
  go false h = ([], refl)

after_name-ends : (text : List ℕ) → EndsWith text (after_name text)
after_name-ends [] = ([], refl)
after_name-ends (byte ∷ bytes) = go (is_name_byte byte) (after_name-ends bytes) where
  go : (b : Bool) → EndsWith bytes (after_name bytes) → EndsWith (byte ∷ bytes) (cond b (after_name bytes) (byte ∷ bytes))
  go true h = ends_more byte bytes (after_name bytes) h
  go false h = ([], refl)

-- ---- the value, which goes up to the next quote
pub value_front-lacks : (text : List ℕ) → Lacks 34 (value_front text)
value_front-lacks [] = All-nil (λ other. other ≢ 34)
value_front-lacks (byte ∷ bytes) = go (eqb byte 34) refl (value_front-lacks bytes) where
  go : (b : Bool) → eqb byte 34 ≡ b → Lacks 34 (value_front bytes) → Lacks 34 (cond b [] (byte ∷ value_front bytes))
  go true e h = All-nil (λ other. other ≢ 34)
  go false e h = All-cons (λ other. other ≢ 34) byte (value_front bytes) (eqb-false byte 34 e) h

pub value_whole : (text after : List ℕ) → after_value text ≡ Some after → text ≡ value_front text ++ 34 ∷ after
value_whole [] after e = absurd (cc)
value_whole (byte ∷ bytes) after e = go (eqb byte 34) refl (value_whole bytes after) e where
  go : (b : Bool) → eqb byte 34 ≡ b → (after_value bytes ≡ Some after → bytes ≡ value_front bytes ++ 34 ∷ after) → cond b (Some bytes) (after_value bytes) ≡ Some after → byte ∷ bytes ≡ cond b [] (byte ∷ value_front bytes) ++ 34 ∷ after
  go true q later f = let same : bytes ≡ after = cc in let quote : byte ≡ 34 = eqb-true byte 34 q in cc
  go false q later f = ap (λ x. byte ∷ x) (later f)

-- ---- a tag pair
pub record Parts (text : List ℕ) (tag : Tag) : Type 0 where
  pub front : List ℕ
  pub closing : List ℕ
  pub whole : text ≡ front ++ (tag.value ++ 34 ∷ (closing ++ tag.rest))
  pub no_quote : Lacks 34 tag.value

closed_parts : (name value text : List ℕ) (tag : Tag) → closed_tag name value text ≡ Some tag → EndsWith text tag.rest × (tag.value ≡ value)
closed_parts name value [] tag e = absurd (cc)
closed_parts name value (byte ∷ bytes) tag e = go (eqb byte 93) e where
  go : (b : Bool) → cond b (Some (record { name = name; value = value; rest = bytes })) None ≡ Some tag → EndsWith (byte ∷ bytes) tag.rest × (tag.value ≡ value)
  go true f =
      let same : record { name = name; value = value; rest = bytes } ≡ tag = cc in
      ((byte ∷ [], ap (λ (t : Tag). byte ∷ t.rest) same), sym (ap (λ (t : Tag). t.value) same))
  go false f = absurd (cc)

valued_parts : (name text : List ℕ) (after : Option (List ℕ)) (tag : Tag) → after_value text ≡ after → tag_with_value name (value_front text) after ≡ Some tag → Parts text tag
valued_parts name text None tag e f = absurd (cc)
valued_parts name text (Some after) tag e f =
    let closed = closed_parts name (value_front text) (after_blanks after) tag f in
    let ends = ends_twice after (after_blanks after) tag.rest (after_blanks-ends after) closed.0 in
    let value : tag.value ≡ value_front text = closed.1 in
    record {
      front = [];
      closing = ends.0;
      whole = value_whole text after e ∙ (ap (λ x. value_front text ++ 34 ∷ x) ends.1 ∙ ap (λ x. x ++ 34 ∷ (ends.0 ++ tag.rest)) (sym value));
      no_quote = subst (λ x. Lacks 34 x) (sym value) (value_front-lacks text);
    }

parts_within : (text mid : List ℕ) (tag : Tag) → EndsWith text mid → Parts mid tag → Parts text tag
parts_within text mid tag ends parts = record {
  front = ends.0 ++ parts.front;
  closing = parts.closing;
  whole = ends.1 ∙ (ap (λ x. ends.0 ++ x) parts.whole ∙ sym (append_assoc ends.0 parts.front (tag.value ++ 34 ∷ (parts.closing ++ tag.rest))));
  no_quote = parts.no_quote;
}

quoted_parts : (name text : List ℕ) (tag : Tag) → tag_with_name name text ≡ Some tag → Parts text tag
quoted_parts name [] tag e = absurd (cc)
quoted_parts name (byte ∷ bytes) tag e = go (eqb byte 34) e where
  go : (b : Bool) → cond b (tag_with_value name (value_front bytes) (after_value bytes)) None ≡ Some tag → Parts (byte ∷ bytes) tag
  go true f = parts_within (byte ∷ bytes) bytes tag (byte ∷ [], refl) (valued_parts name bytes (after_value bytes) tag refl f)
  go false f = absurd (cc)

named_parts : (name text : List ℕ) (tag : Tag) → named_tag name text ≡ Some tag → Parts text tag
named_parts [] text tag e = absurd (cc)
named_parts (byte ∷ bytes) text tag e =
    parts_within text (after_blanks text) tag (after_blanks-ends text) (quoted_parts (byte ∷ bytes) (after_blanks text) tag e)

pub tag_parts : (text : List ℕ) (tag : Tag) → tag_of text ≡ Some tag → Parts text tag
tag_parts text tag e =
    let start = after_blanks text in
    parts_within text (after_name start) tag
    (ends_twice text start (after_name start) (after_blanks-ends text) (after_name-ends start))
    (named_parts (name_front start) (after_name start) tag e)

pub tag_shorter : (text : List ℕ) (tag : Tag) → tag_of text ≡ Some tag → length tag.rest ≤ length text
tag_shorter text tag e =
    let parts = tag_parts text tag e in
    omega (arith, ap length parts.whole, length-append parts.front (tag.value ++ 34 ∷ (parts.closing ++ tag.rest)), length-append tag.value (34 ∷ (parts.closing ++ tag.rest)), length-append parts.closing tag.rest)
