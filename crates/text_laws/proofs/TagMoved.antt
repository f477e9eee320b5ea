-- A tag pair is the same, whatever stands behind it.
use Rattle.std.proofs.Common.{◌≡◌, ℕ, ◌<◌, Bool, true, false, cond, eqb, List, [], ◌∷◌, ◌++◌, length, Option, Some, None, refl, sym, ◌∙◌, ap, subst, arith, append_assoc}
use Rattle.std.proofs.lemmas.Bool.{eqb-true}
use Rattle.std.proofs.lemmas.List.{append_cancel_right}
use Rattle.pbn_deals.specs.Letters.{is_blank}
use Rattle.pbn_deals.specs.DealValue.{after_blanks}
use Rattle.pbn_deals.specs.Reading.{Lacks}
use Rattle.pbn_deals.specs.Tags.{Tag, is_name_byte, name_front, after_name, value_front, after_value, closed_tag, tag_with_value, tag_with_name, named_tag, tag_of}
use Rattle.pbn_deals.proofs.TagParts.{value_front-lacks, value_whole}
use Rattle.pbn_deals.proofs.TagLemmas.{tag_of-valued}

-- ---- where a part begins with a byte
record AtByte (cut : List ℕ → List ℕ) (text : List ℕ) (byte : ℕ) (rest : List ℕ) : Type 0 where
  front : List ℕ
  whole : text ≡ front ++ byte ∷ rest
  again : (rest' : List ℕ) → cut (front ++ byte ∷ rest') ≡ byte ∷ rest'

blanks_at : (text : List ℕ) (byte : ℕ) (rest : List ℕ) → after_blanks text ≡ byte ∷ rest → AtByte after_blanks text byte rest
blanks_at [] byte rest e = absurd (cc)
blanks_at (first ∷ others) byte rest e = go (is_blank first) refl (blanks_at others byte rest) e where
  go : (b : Bool) → is_blank first ≡ b → (after_blanks others ≡ byte ∷ rest → AtByte after_blanks others byte rest) → cond b (after_blanks others) (first ∷ others) ≡ byte ∷ rest → AtByte after_blanks (first ∷ others) byte rest
  go true f later g =
      let more = later g in
      record { front = first ∷ more.front; whole = ap (λ x. first ∷ x) more.whole; again = λ rest'. rw f (more.again rest') }
  go false f later g =
      let same : first ≡ byte = cc in
      let other : is_blank byte ≡ false = sym (ap is_blank same) ∙ f in
      record { front = []; whole = g; again = λ rest'. rw other refl }

record AtName (text : List ℕ) (byte : ℕ) (rest : List ℕ) : Type 0 where
  whole : text ≡ name_front text ++ byte ∷ rest
  again : (rest' : List ℕ) → after_name (name_front text ++ byte ∷ rest') ≡ byte ∷ rest'
  front : (rest' : List ℕ) → name_front (name_front text ++ byte ∷ rest') ≡ name_front text

abbrev NamedBy : ℕ → List ℕ → ℕ → List ℕ → List ℕ → Type 0
NamedBy first others byte rest name =
    (first ∷ others ≡ name ++ byte ∷ rest)
    × ((rest' : List ℕ) → after_name (name ++ byte ∷ rest') ≡ byte ∷ rest')
    × ((rest' : List ℕ) → name_front (name ++ byte ∷ rest') ≡ name)

name_at : (text : List ℕ) (byte : ℕ) (rest : List ℕ) → after_name text ≡ byte ∷ rest → AtName text byte rest
name_at [] byte rest e = absurd (cc)
name_at (first ∷ others) byte rest e = go (is_name_byte first) refl (name_at others byte rest) e where
  parts : (b : Bool) → is_name_byte first ≡ b → (after_name others ≡ byte ∷ rest → AtName others byte rest) → cond b (after_name others) (first ∷ others) ≡ byte ∷ rest → NamedBy first others byte rest (cond b (first ∷ name_front others) [])
  parts true f later g =
      let more = later g in
      (ap (λ x. first ∷ x) more.whole, λ rest'. rw f (more.again rest'), λ rest'. rw f (ap (λ x. first ∷ x) (more.front rest')))
  parts false f later g =
      let same : first ≡ byte = cc in
      let other : is_name_byte byte ≡ false = sym (ap is_name_byte same) ∙ f in
      (g, λ rest'. rw other refl, λ rest'. rw other refl)

  go : (b : Bool) → is_name_byte first ≡ b → (after_name others ≡ byte ∷ rest → AtName others byte rest) → cond b (after_name others) (first ∷ others) ≡ byte ∷ rest → AtName (first ∷ others) byte rest
  go b f later g =
      let p = subst (λ c. NamedBy first others byte rest (cond c (first ∷ name_front others) [])) (sym f) (parts b f later g) in
      record { whole = p.0; again = p.1; front = p.2 }

-- a text that goes on in another way has the same first byte
same_first : (front : List ℕ) (sign byte : ℕ) (after after' rest : List ℕ) → front ++ sign ∷ after ≡ byte ∷ rest → (rest' : List ℕ) × (front ++ sign ∷ after' ≡ byte ∷ rest')
same_first [] sign byte after after' rest e = (after', let same : sign ≡ byte = cc in ap (λ x. x ∷ after') same)
same_first (first ∷ others) sign byte after after' rest e = (others ++ sign ∷ after', let same : first ≡ byte = cc in ap (λ x. x ∷ (others ++ sign ∷ after')) same)

same_head : (front : List ℕ) (byte : ℕ) (rest after after' : List ℕ) → 0 < length front → front ++ after ≡ byte ∷ rest → (rest' : List ℕ) × (front ++ after' ≡ byte ∷ rest')
same_head [] byte rest after after' some e = absurd (omega arith)
same_head (first ∷ others) byte rest after after' some e = (others ++ after', let same : first ≡ byte = cc in ap (λ x. x ∷ (others ++ after')) same)

-- ---- the parts of a tag pair
record IsRead (text : List ℕ) (tag : Tag) : Type 0 where
  some_name : 0 < length (name_front (after_blanks text))
  at_value : List ℕ
  quote : after_blanks (after_name (after_blanks text)) ≡ 34 ∷ at_value
  after : List ℕ
  valued : after_value at_value ≡ Some after
  bracket : after_blanks after ≡ 93 ∷ tag.rest
  name : tag.name ≡ name_front (after_blanks text)
  value : tag.value ≡ value_front at_value

record IsClosed (name value text : List ℕ) (tag : Tag) : Type 0 where
  at : text ≡ 93 ∷ tag.rest
  is_name : tag.name ≡ name
  is_value : tag.value ≡ value

is_closed : (name value text : List ℕ) (tag : Tag) → closed_tag name value text ≡ Some tag → IsClosed name value text tag
is_closed name value [] tag e = absurd (cc)
is_closed name value (byte ∷ bytes) tag e = go (eqb byte 93) refl e where
  go : (b : Bool) → eqb byte 93 ≡ b → cond b (Some (record { name = name; value = value; rest = bytes })) None ≡ Some tag → IsClosed name value (byte ∷ bytes) tag
  go true f g =
      let is : record { name = name; value = value; rest = bytes } ≡ tag = cc in
      record {
        at = ap (λ x. x ∷ bytes) (eqb-true byte 93 f) ∙ ap (λ (t : Tag). 93 ∷ t.rest) is;
        is_name = sym (ap (λ (t : Tag). t.name) is);
        is_value = sym (ap (λ (t : Tag). t.value) is);
      }
  go false f g = absurd (cc)

module _ (text : List ℕ) (tag : Tag) where
  abbrev name : List ℕ
  name = name_front (after_blanks text)

  abbrev behind_name : List ℕ
  behind_name = after_name (after_blanks text)

  valued_read : (some : 0 < length name) (at_value : List ℕ) → after_blanks behind_name ≡ 34 ∷ at_value → (after : Option (List ℕ)) → after_value at_value ≡ after → tag_with_value name (value_front at_value) after ≡ Some tag → IsRead text tag
  valued_read some at_value quote None f e = absurd (cc)
  valued_read some at_value quote (Some after) f e =
      let closed = is_closed name (value_front at_value) (after_blanks after) tag e in
      record { some_name = some; at_value = at_value; quote = quote; after = after; valued = f; bracket = closed.at; name = closed.is_name; value = closed.is_value }

  quoted_read : (some : 0 < length name) (at_quote : List ℕ) → after_blanks behind_name ≡ at_quote → tag_with_name name at_quote ≡ Some tag → IsRead text tag
  quoted_read some [] q e = absurd (cc)
  quoted_read some (byte ∷ bytes) q e = go (eqb byte 34) refl e where
    go : (b : Bool) → eqb byte 34 ≡ b → cond b (tag_with_value name (value_front bytes) (after_value bytes)) None ≡ Some tag → IsRead text tag
    go true f g = valued_read some bytes (q ∙ ap (λ x. x ∷ bytes) (eqb-true byte 34 f)) (after_value bytes) refl g
    go false f g = absurd (cc)

  named_read : (is_name : List ℕ) → name ≡ is_name → named_tag is_name behind_name ≡ Some tag → IsRead text tag
  named_read [] n e = absurd (cc)
  named_read (byte ∷ bytes) n e =
      quoted_read (omega (arith, ap length n)) (after_blanks behind_name) refl (ap (λ x. tag_with_name x (after_blanks behind_name)) n ∙ e)

  is_read : tag_of text ≡ Some tag → IsRead text tag
  is_read e = named_read name refl e

-- ---- the pair and what stands behind it
pub record Moves (text : List ℕ) (tag : Tag) : Type 0 where
  -- the bytes of the pair before its closing bracket
  pub front : List ℕ
  pub whole : text ≡ (front ++ 93 ∷ []) ++ tag.rest
  pub again :
      (rest' : List ℕ) →
      tag_of ((front ++ 93 ∷ []) ++ rest') ≡ Some (record { name = tag.name; value = tag.value; rest = rest' })

module _ (text : List ℕ) (tag : Tag) (parts : IsRead text tag) where
  value_end : AtByte after_blanks parts.after 93 tag.rest
  value_end = blanks_at parts.after 93 tag.rest parts.bracket

  quote_at : AtByte after_blanks (after_name (after_blanks text)) 34 parts.at_value
  quote_at = blanks_at (after_name (after_blanks text)) 34 parts.at_value parts.quote

  -- what stands behind the name, where this stands behind the pair
  behind_pair : List ℕ → List ℕ
  unfolding value_end quote_at
  behind_pair rest' = quote_at.front ++ 34 ∷ (tag.value ++ 34 ∷ (value_end.front ++ 93 ∷ rest'))

  named_at : (second : ℕ) (after : List ℕ) → after_name (after_blanks text) ≡ second ∷ after → (first : ℕ) (others : List ℕ) → after_blanks text ≡ first ∷ others → Moves text tag
  unfolding value_end quote_at behind_pair
  named_at second after s first others f =
      let start = blanks_at text first others f in
      let name = name_at (after_blanks text) second after s in
      let names = name_front (after_blanks text) in
      let lacks : Lacks 34 tag.value = subst (λ v. Lacks 34 v) (sym parts.value) (value_front-lacks parts.at_value) in
      let value_is : parts.at_value ≡ tag.value ++ 34 ∷ parts.after = value_whole parts.at_value parts.after parts.valued ∙ ap (λ v. v ++ 34 ∷ parts.after) (sym parts.value) in
      let behind_is : after_name (after_blanks text) ≡ behind_pair tag.rest =
      quote_at.whole ∙ (ap (λ x. quote_at.front ++ 34 ∷ x) value_is ∙ ap (λ x. quote_at.front ++ 34 ∷ (tag.value ++ 34 ∷ x)) value_end.whole) in
      let text_is : text ≡ start.front ++ (names ++ behind_pair tag.rest) =
      start.whole ∙ ap (λ x. start.front ++ x) (sym f ∙ (name.whole ∙ ap (λ x. names ++ x) (sym s ∙ behind_is))) in
      let front = start.front ++ (names ++ (quote_at.front ++ 34 ∷ (tag.value ++ 34 ∷ value_end.front))) in
      let put : (rest' : List ℕ) → start.front ++ (names ++ behind_pair rest') ≡ (front ++ 93 ∷ []) ++ rest' = λ rest'. simp append_assoc in
      record {
        front = front;
        whole = text_is ∙ put tag.rest;
        again = λ rest'.
            let text' = (front ++ 93 ∷ []) ++ rest' in
            let after' = value_end.front ++ 93 ∷ rest' in
            let second_is = same_first quote_at.front 34 second (tag.value ++ 34 ∷ (value_end.front ++ 93 ∷ tag.rest)) (tag.value ++ 34 ∷ after') after (sym behind_is ∙ s) in
            let first_is = same_head names first others (second ∷ after) (behind_pair rest') parts.some_name (sym name.whole ∙ f) in
            let start_is : after_blanks text' ≡ names ++ second ∷ second_is.0 =
            ap after_blanks (sym (put rest') ∙ ap (λ x. start.front ++ x) first_is.1)
            ∙ (start.again first_is.0 ∙ (sym first_is.1 ∙ ap (λ x. names ++ x) second_is.1)) in
            let names_are : name_front (after_blanks text') ≡ names = ap name_front start_is ∙ name.front second_is.0 in
            let behind_are : after_blanks (after_name (after_blanks text')) ≡ 34 ∷ (tag.value ++ 34 ∷ after') =
            ap (λ x. after_blanks (after_name x)) start_is
            ∙ (ap after_blanks (name.again second_is.0 ∙ sym second_is.1) ∙ quote_at.again (tag.value ++ 34 ∷ after')) in
            let some : 0 < length (name_front (after_blanks text')) = (let n = ap length names_are in let m = parts.some_name in omega (arith, n, m)) in
            tag_of-valued text' some (tag.value ++ 34 ∷ after') tag.value after' behind_are refl lacks
            ∙ (ap (closed_tag (name_front (after_blanks text')) tag.value) (value_end.again rest')
            ∙ ap (λ n. Some (record { name = n; value = tag.value; rest = rest' })) (names_are ∙ sym parts.name));
      }

  moves : Moves text tag
  moves = go (after_name (after_blanks text)) (after_blanks text) refl refl where
    some_bytes : (front : List ℕ) (sign : ℕ) (rest whole : List ℕ) → whole ≡ front ++ sign ∷ rest → whole ≡ [] → ⊥
    some_bytes [] sign rest whole e f = absurd (cc)
    some_bytes (byte ∷ bytes) sign rest whole e f = absurd (cc)

    no_start : after_blanks text ≡ [] → ⊥
    no_start e = let some = parts.some_name in let none = ap (λ x. length (name_front x)) e in absurd (omega (arith, some, none))

    go : (behind start : List ℕ) → after_name (after_blanks text) ≡ behind → after_blanks text ≡ start → Moves text tag
    go [] start s f = absurd (some_bytes quote_at.front 34 parts.at_value (after_name (after_blanks text)) quote_at.whole s)
    go (second ∷ after) [] s f = absurd (no_start f)
    go (second ∷ after) (first ∷ others) s f = named_at second after s first others f

pub tag_moves : (text : List ℕ) (tag : Tag) → tag_of text ≡ Some tag → Moves text tag
tag_moves text tag e = moves text tag (is_read text tag e)

-- ---- a pair with its opening bracket
module _ (rest inside : List ℕ) (tag : Tag) (e : tag_of rest ≡ Some tag) (whole : rest ≡ inside ++ tag.rest) where
  closed_inside : (parts : Moves rest tag) → inside ≡ parts.front ++ 93 ∷ []
  closed_inside parts = append_cancel_right inside (parts.front ++ 93 ∷ []) tag.rest (sym whole ∙ parts.whole)

  pub pair_again : (rest' : List ℕ) → tag_of (inside ++ rest') ≡ Some (record { name = tag.name; value = tag.value; rest = rest' })
  pair_again rest' =
      let parts = tag_moves rest tag e in
      ap (λ x. tag_of (x ++ rest')) (closed_inside parts) ∙ parts.again rest'

  pub pair_closed : (front : List ℕ) × (inside ≡ front ++ 93 ∷ [])
  pair_closed = let parts = tag_moves rest tag e in (parts.front, closed_inside parts)
