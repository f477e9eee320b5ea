-- A tag pair, part by part.
use Rattle.std.proofs.Common.{◌≡◌, ◌≢◌, ℕ, ◌-◌, ◌<◌, ◌≤◌, false, cond, eqb, List, [], ◌∷◌, ◌++◌, length, get_or, take, drop, Some, None, refl, sym, ◌∙◌, ap, arith}
use Rattle.std.proofs.lemmas.Bool.{eq-eqb, ne_eqb}
use Rattle.std.proofs.lemmas.List.{take_all}
use Rattle.std.proofs.lemmas.List.Elements.{All-head, All-tail}
use Rattle.pbn_deals.specs.Reading.{Lacks}
use Rattle.pbn_deals.specs.DealValue.{after_blanks}
use Rattle.pbn_deals.specs.Tags.{value_front, after_value, tag_of, named_tag, tag_with_name, tag_with_value, closed_tag, name_front, after_name}

other_byte : (byte : ℕ) (bytes : List ℕ) → Lacks 34 (byte ∷ bytes) → eqb byte 34 ≡ false
other_byte byte bytes h = ne_eqb byte 34 (All-head (λ other. other ≢ 34) byte bytes h)

pub value_front-at : (value after : List ℕ) → Lacks 34 value → value_front (value ++ 34 ∷ after) ≡ value
value_front-at [] after h = refl
value_front-at (byte ∷ bytes) after h =
    ap (λ b. cond b [] (byte ∷ value_front (bytes ++ 34 ∷ after))) (other_byte byte bytes h) ∙ ap (λ x. byte ∷ x) (value_front-at bytes after (All-tail (λ other. other ≢ 34) byte bytes h))

pub after_value-at : (value after : List ℕ) → Lacks 34 value → after_value (value ++ 34 ∷ after) ≡ Some after
after_value-at [] after h = refl
after_value-at (byte ∷ bytes) after h =
    ap (λ b. cond b (Some (bytes ++ 34 ∷ after)) (after_value (bytes ++ 34 ∷ after))) (other_byte byte bytes h) ∙ after_value-at bytes after (All-tail (λ other. other ≢ 34) byte bytes h)

pub after_value-none : (value : List ℕ) → Lacks 34 value → after_value value ≡ None
after_value-none [] h = refl
after_value-none (byte ∷ bytes) h =
    ap (λ b. cond b (Some bytes) (after_value bytes)) (other_byte byte bytes h) ∙ after_value-none bytes (All-tail (λ other. other ≢ 34) byte bytes h)

named_by : (name after : List ℕ) → 0 < length name → named_tag name after ≡ tag_with_name name (after_blanks after)
named_by [] after h = absurd (omega arith)
named_by (byte ∷ bytes) after h = refl

module _ (text : List ℕ) (some : 0 < length (name_front (after_blanks text))) where
  abbrev name : List ℕ
  name = name_front (after_blanks text)

  abbrev at_quote : List ℕ
  at_quote = after_blanks (after_name (after_blanks text))

  tag_of-named : tag_of text ≡ tag_with_name name at_quote
  tag_of-named = named_by name (after_name (after_blanks text)) some

  pub tag_of-quoted : (bytes : List ℕ) → at_quote ≡ 34 ∷ bytes → tag_of text ≡ tag_with_value name (value_front bytes) (after_value bytes)
  tag_of-quoted bytes e = tag_of-named ∙ ap (tag_with_name name) e

  pub tag_of-unended : (bytes : List ℕ) → at_quote ≡ 34 ∷ bytes → Lacks 34 bytes → tag_of text ≡ None
  tag_of-unended bytes e h = tag_of-quoted bytes e ∙ ap (tag_with_value name (value_front bytes)) (after_value-none bytes h)

  pub tag_of-valued : (bytes value after : List ℕ) → at_quote ≡ 34 ∷ bytes → bytes ≡ value ++ 34 ∷ after → Lacks 34 value → tag_of text ≡ closed_tag name value (after_blanks after)
  tag_of-valued bytes value after e whole h =
      tag_of-quoted bytes e
      ∙ (ap (λ x. tag_with_value name (value_front x) (after_value x)) whole
      ∙ (ap (λ x. tag_with_value name x (after_value (value ++ 34 ∷ after))) (value_front-at value after h)
      ∙ ap (tag_with_value name value) (after_value-at value after h)))

-- a list that has a first byte
front_byte : (bytes : List ℕ) → 1 ≤ length bytes → bytes ≡ get_or bytes 0 0 ∷ take (length bytes - 1) (drop 1 bytes)
front_byte [] h = absurd (omega arith)
front_byte (byte ∷ bytes) h =
    let e : length (byte ∷ bytes) - 1 ≡ length bytes = omega arith in
    ap (λ x. byte ∷ x) (sym (ap (λ n. take n bytes) e ∙ take_all (length bytes) bytes (omega arith)))

closed-none : (name value r : List ℕ) → length r < 1 → closed_tag name value r ≡ None
closed-none name value [] h = refl
closed-none name value (byte ∷ bytes) h = absurd (omega arith)

closed-at : (name value r : List ℕ) → 1 ≤ length r → closed_tag name value r ≡ cond (eqb (get_or r 0 0) 93) (Some (record { name = name; value = value; rest = take (length r - 1) (drop 1 r) })) None
closed-at name value r h = ap (closed_tag name value) (front_byte r h)

module _ (text a name b q : List ℕ) (is_a : a ≡ after_blanks text) (is_name : name ≡ name_front a) (is_b : b ≡ after_name a) (is_q : q ≡ after_blanks b) (some : 0 < length name) (long : 1 ≤ length q) (quote : get_or q 0 0 ≡ 34) where
  same_name : name ≡ name_front (after_blanks text)
  same_name = is_name ∙ ap name_front is_a

  name_some : 0 < length (name_front (after_blanks text))
  name_some = rw same_name at some

  quoted_rest : after_blanks (after_name (after_blanks text)) ≡ 34 ∷ take (length q - 1) (drop 1 q)
  quoted_rest =
      sym (is_q ∙ (ap after_blanks is_b ∙ ap (λ x. after_blanks (after_name x)) is_a))
      ∙ (front_byte q long ∙ ap (λ x. x ∷ take (length q - 1) (drop 1 q)) quote)

  pub value_unended : Lacks 34 (take (length q - 1) (drop 1 q)) → None ≡ tag_of text
  value_unended h = sym (tag_of-unended text name_some (take (length q - 1) (drop 1 q)) quoted_rest h)

  module _ (value after r : List ℕ) (whole : take (length q - 1) (drop 1 q) ≡ value ++ 34 ∷ after) (lacks : Lacks 34 value) (is_r : r ≡ after_blanks after) where
    closing : tag_of text ≡ closed_tag name value r
    closing =
        tag_of-valued text name_some (take (length q - 1) (drop 1 q)) value after quoted_rest whole lacks
        ∙ (ap (λ n. closed_tag n value (after_blanks after)) (sym same_name) ∙ ap (closed_tag name value) (sym is_r))

    pub bracket_missing : length r < 1 → None ≡ tag_of text
    bracket_missing h = sym (closing ∙ closed-none name value r h)

    pub bracket_other : 1 ≤ length r → (get_or r 0 0 ≡ 93 → ⊥) → None ≡ tag_of text
    bracket_other h ne =
        sym (closing ∙ (closed-at name value r h ∙ ap (λ b. cond b (Some (record { name = name; value = value; rest = take (length r - 1) (drop 1 r) })) None) (ne_eqb (get_or r 0 0) 93 ne)))

    pub tag_found : 1 ≤ length r → get_or r 0 0 ≡ 93 → Some (record { name = name; value = value; rest = take (length r - 1) (drop 1 r) }) ≡ tag_of text
    tag_found h e =
        sym (closing ∙ (closed-at name value r h ∙ ap (λ b. cond b (Some (record { name = name; value = value; rest = take (length r - 1) (drop 1 r) })) None) (eq-eqb (get_or r 0 0) 93 e)))
