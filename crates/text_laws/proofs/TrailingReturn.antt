-- A carriage return at the end of a text's last line changes nothing, so that the line may as well be ended.
use Rattle.std.proofs.Common.{◌≡◌, ◌≢◌, ℕ, Bool, true, false, not, cond, eqb, List, [], ◌∷◌, ◌++◌, Option, Some, None, Result, Ok, refl, sym, ◌∙◌, ap, subst, arith, append_assoc, append-nil, inl, inr, ◌⊎◌, ◌||◌}
use Rattle.std.proofs.lemmas.Bool.{eqb-true}
use Rattle.std.proofs.lemmas.List.Elements.{All-push}
use Rattle.pbn_deals.specs.declared.boards.Board.{Board}
use Rattle.pbn_deals.specs.declared.faults.PbnFault.{PbnFault}
use Rattle.pbn_deals.specs.Letters.{is_blank}
use Rattle.pbn_deals.specs.DealValue.{after_blanks, is_word}
use Rattle.pbn_deals.specs.Tags.{Tag, is_name_byte, name_front, after_name, value_front, after_value, closed_tag, tag_with_value, tag_with_name, named_tag, tag_of}
use Rattle.pbn_deals.specs.Games.{Tags, boards_of}
use Rattle.pbn_deals.specs.Lines.{without_return, is_escaped, is_blank_line}
use Rattle.pbn_deals.specs.Reading.{Lacks, IsSpace, meaning_of, LineEnd, Ends, Scans, at_end, at_blank, at_line_comment, at_comment, at_open_comment, at_tag, at_faulty_tag, at_no_tag, at_quoted, at_unended, at_plain, at_bracket, Answers, no_line, escaped_line, blank_line, whole_line, opening_line, faulty_line, inner_line, closing_line, reopening_line, faulty_closing_line, put_boards}
use Rattle.text_laws.proofs.OneAnswer.{one_answer}
use Rattle.text_laws.proofs.SomeAnswer.{answered}

-- ---- a tag pair
abbrev returned : List ℕ → List ℕ
returned text = text ++ 13 ∷ []

after_blanks-returned : (text : List ℕ) → after_blanks (returned text) ≡ returned (after_blanks text)
after_blanks-returned [] = refl
after_blanks-returned (byte ∷ bytes) = go (is_blank byte) (after_blanks-returned bytes) where
  go : (b : Bool) → after_blanks (returned bytes) ≡ returned (after_blanks bytes) → cond b (after_blanks (returned bytes)) (byte ∷ returned bytes) ≡ returned (cond b (after_blanks bytes) (byte ∷ bytes))
  go true h = h
  go false h = refl

name_front-returned : (text : List ℕ) → name_front (returned text) ≡ name_front text
name_front-returned [] = refl
name_front-returned (byte ∷ bytes) = ap (λ x. cond (is_name_byte byte) (byte ∷ x) []) (name_front-returned bytes)

after_name-returned : (text : List ℕ) → after_name (returned text) ≡ returned (after_name text)
after_name-returned [] = refl
after_name-returned (byte ∷ bytes) = go (is_name_byte byte) (after_name-returned bytes) where
  go : (b : Bool) → after_name (returned bytes) ≡ returned (after_name bytes) → cond b (after_name (returned bytes)) (byte ∷ returned bytes) ≡ returned (cond b (after_name bytes) (byte ∷ bytes))
  go true h = h
  go false h = refl

abbrev after_returned : Option (List ℕ) → Option (List ℕ)
after_returned None = None
after_returned (Some after) = Some (returned after)

after_value-returned : (text : List ℕ) → after_value (returned text) ≡ after_returned (after_value text)
after_value-returned [] = refl
after_value-returned (byte ∷ bytes) = go (eqb byte 34) (after_value-returned bytes) where
  go : (b : Bool) → after_value (returned bytes) ≡ after_returned (after_value bytes) → cond b (Some (returned bytes)) (after_value (returned bytes)) ≡ after_returned (cond b (Some bytes) (after_value bytes))
  go true h = refl
  go false h = h

value_front-returned : (text after : List ℕ) → after_value text ≡ Some after → value_front (returned text) ≡ value_front text
value_front-returned [] after e = absurd (cc)
value_front-returned (byte ∷ bytes) after e = go (eqb byte 34) (value_front-returned bytes after) e where
  go : (b : Bool) → (after_value bytes ≡ Some after → value_front (returned bytes) ≡ value_front bytes) → cond b (Some bytes) (after_value bytes) ≡ Some after → cond b [] (byte ∷ value_front (returned bytes)) ≡ cond b [] (byte ∷ value_front bytes)
  go true h f = refl
  go false h f = ap (λ x. byte ∷ x) (h f)

-- the pair with one byte more after it
abbrev tag_returned : Tag → Tag
tag_returned tag = record { name = tag.name; value = tag.value; rest = returned tag.rest }

abbrev found_returned : Option Tag → Option Tag
found_returned None = None
found_returned (Some tag) = Some (tag_returned tag)

closed_tag-returned : (name value text : List ℕ) → closed_tag name value (returned text) ≡ found_returned (closed_tag name value text)
closed_tag-returned name value [] = refl
closed_tag-returned name value (byte ∷ bytes) = go (eqb byte 93) where
  go : (b : Bool) → cond b (Some (record { name = name; value = value; rest = returned bytes })) None ≡ found_returned (cond b (Some (record { name = name; value = value; rest = bytes })) None)
  go true = refl
  go false = refl

tag_with_value-returned : (name value : List ℕ) (after : Option (List ℕ)) → tag_with_value name value (after_returned after) ≡ found_returned (tag_with_value name value after)
tag_with_value-returned name value None = refl
tag_with_value-returned name value (Some after) = ap (closed_tag name value) (after_blanks-returned after) ∙ closed_tag-returned name value (after_blanks after)

valued-returned : (name text : List ℕ) (after : Option (List ℕ)) → after_value text ≡ after → tag_with_value name (value_front (returned text)) (after_value (returned text)) ≡ found_returned (tag_with_value name (value_front text) (after_value text))
valued-returned name text None e =
    ap (tag_with_value name (value_front (returned text))) (after_value-returned text ∙ ap after_returned e)
    ∙ sym (ap (λ b. found_returned (tag_with_value name (value_front text) b)) e)
valued-returned name text (Some after) e =
    ap (λ v. tag_with_value name v (after_value (returned text))) (value_front-returned text after e)
    ∙ (ap (tag_with_value name (value_front text)) (after_value-returned text) ∙ tag_with_value-returned name (value_front text) (after_value text))

tag_with_name-returned : (name text : List ℕ) → tag_with_name name (returned text) ≡ found_returned (tag_with_name name text)
tag_with_name-returned name [] = refl
tag_with_name-returned name (byte ∷ bytes) = go (eqb byte 34) where
  go : (b : Bool) → cond b (tag_with_value name (value_front (returned bytes)) (after_value (returned bytes))) None ≡ found_returned (cond b (tag_with_value name (value_front bytes) (after_value bytes)) None)
  go true = valued-returned name bytes (after_value bytes) refl
  go false = refl

named_tag-returned : (name after : List ℕ) → named_tag name (returned after) ≡ found_returned (named_tag name after)
named_tag-returned [] after = refl
named_tag-returned (byte ∷ bytes) after = ap (tag_with_name (byte ∷ bytes)) (after_blanks-returned after) ∙ tag_with_name-returned (byte ∷ bytes) (after_blanks after)

tag_of-returned : (text : List ℕ) → tag_of (returned text) ≡ found_returned (tag_of text)
tag_of-returned text =
    let start = after_blanks text in
    ap (λ t. named_tag (name_front t) (after_name t)) (after_blanks-returned text)
    ∙ (ap (λ n. named_tag n (after_name (returned start))) (name_front-returned start)
    ∙ (ap (named_tag (name_front start)) (after_name-returned start) ∙ named_tag-returned (name_front start) (after_name start)))

-- ---- a line
after_more : (byte : ℕ) (rest front after : List ℕ) → rest ≡ front ++ byte ∷ after → returned rest ≡ front ++ byte ∷ returned after
after_more byte rest front after e = ap returned e ∙ append_assoc front (byte ∷ after) (13 ∷ [])

lacks_more : (byte : ℕ) (text : List ℕ) → 13 ≢ byte → Lacks byte text → Lacks byte (returned text)
lacks_more byte text ne h = All-push (λ other. other ≢ byte) text 13 h ne

no_brace : ◌≢◌ {A = ℕ} 13 125
no_brace e = absurd (omega arith)

no_quote : ◌≢◌ {A = ℕ} 13 34
no_quote e = absurd (omega arith)

module _ (number count : ℕ) where
  scans_returned : {in_data : Bool} {tags : Tags} {line : List ℕ} {last : LineEnd} → Scans number count in_data tags line last → Scans number count in_data tags (returned line) last
  scans_returned at_end = at_plain refl at_end
  scans_returned (at_blank m r) = at_blank m (scans_returned r)
  scans_returned (at_line_comment m) = at_line_comment m
  scans_returned (at_comment text {rest} {after} m e l r) = at_comment text m (after_more 125 rest text after e) l (scans_returned r)
  scans_returned (at_open_comment {rest = rest} m l) = at_open_comment m (lacks_more 125 rest no_brace l)
  scans_returned (at_tag {rest = rest} {tag} m e t r) = at_tag {tag = tag_returned tag} m (tag_of-returned rest ∙ ap found_returned e) t (scans_returned r)
  scans_returned (at_faulty_tag {rest = rest} {tag} m e t) = at_faulty_tag {tag = tag_returned tag} m (tag_of-returned rest ∙ ap found_returned e) t
  scans_returned (at_no_tag {rest = rest} m e) = at_no_tag m (tag_of-returned rest ∙ ap found_returned e)
  scans_returned (at_quoted text {rest} {after} m e l r) = at_quoted text m (after_more 34 rest text after e) l (scans_returned r)
  scans_returned (at_unended {rest = rest} m l) = at_unended m (lacks_more 34 rest no_quote l)
  scans_returned (at_plain m r) = at_plain m (scans_returned r)
  scans_returned (at_bracket m r) = at_bracket m (scans_returned r)

  space : (byte : ℕ) → is_blank byte ≡ true → meaning_of byte ≡ IsSpace
  space byte e = go (eqb byte 32) refl (eqb byte 9) refl e where
    go : (b : Bool) → eqb byte 32 ≡ b → (c : Bool) → eqb byte 9 ≡ c → (b || c) ≡ true → meaning_of byte ≡ IsSpace
    go true f c g h = ap meaning_of (eqb-true byte 32 f)
    go false f true g h = ap meaning_of (eqb-true byte 9 g)
    go false f false g h = absurd (cc)

  scans_blank : (tags : Tags) (line : List ℕ) → is_blank_line line ≡ true → Scans number count false tags line (Ends tags false)
  scans_blank tags [] e = at_end
  scans_blank tags (byte ∷ bytes) e = go (is_blank byte) refl (scans_blank tags bytes) e where
    go : (b : Bool) → is_blank byte ≡ b → (is_blank_line bytes ≡ true → Scans number count false tags bytes (Ends tags false)) → not (is_word (cond b (after_blanks bytes) (byte ∷ bytes))) ≡ true → Scans number count false tags (byte ∷ bytes) (Ends tags false)
    go true f h g = at_blank (space byte f) (h g)
    go false f h g = absurd (cc)

escaped-returned : (line : List ℕ) (b : Bool) → is_escaped line ≡ b → is_escaped (returned line) ≡ b
escaped-returned [] b e = e
escaped-returned (byte ∷ bytes) b e = e

word-returned : (text : List ℕ) → is_word (returned text) ≡ true
word-returned [] = refl
word-returned (byte ∷ bytes) = refl

blank-returned : (line : List ℕ) → is_blank_line (returned line) ≡ false
blank-returned line = ap (λ x. not (is_word x)) (after_blanks-returned line) ∙ ap not (word-returned (after_blanks line))

-- ---- the last line
answers_returned : {number count : ℕ} {opened : Option ℕ} {tags : Tags} (line : List ℕ) {answer : Result (List Board) PbnFault} → Answers number opened tags count (line ∷ []) answer → Answers number opened tags count (returned line ∷ []) answer
answers_returned line (escaped_line e r) = escaped_line (escaped-returned line true e) r
answers_returned {number} {count} {tags = tags} line (blank_line {answer = answer} e b r) =
    let none : answer ≡ Ok [] = one_answer r no_line in
    let same : Ok (boards_of tags) ≡ put_boards (boards_of tags) answer = ap Ok (sym (append-nil (boards_of tags))) ∙ sym (ap (put_boards (boards_of tags)) none) in
    subst (λ a. Answers number None tags count (returned line ∷ []) a) same
    (whole_line (escaped-returned line false e) (blank-returned line) (scans_returned number count (scans_blank number count tags line b)) no_line)
answers_returned line (whole_line e b q r) = whole_line (escaped-returned line false e) (blank-returned line) (scans_returned _ _ q) r
answers_returned line (opening_line e b q r) = opening_line (escaped-returned line false e) (blank-returned line) (scans_returned _ _ q) r
answers_returned line (faulty_line e b q) = faulty_line (escaped-returned line false e) (blank-returned line) (scans_returned _ _ q)
answers_returned line (inner_line l r) = inner_line (lacks_more 125 line no_brace l) r
answers_returned line (closing_line text {rest = rest} e l q r) = closing_line text (after_more 125 line text rest e) l (scans_returned _ _ q) r
answers_returned line (reopening_line text {rest = rest} e l q r) = reopening_line text (after_more 125 line text rest e) l (scans_returned _ _ q) r
answers_returned line (faulty_closing_line text {rest = rest} e l q) = faulty_closing_line text (after_more 125 line text rest e) l (scans_returned _ _ q)

return_cases : (line : List ℕ) → (without_return line ≡ line) ⊎ (returned (without_return line) ≡ line)
return_cases [] = inl refl
return_cases (byte ∷ []) = go (eqb byte 13) refl where
  go : (b : Bool) → eqb byte 13 ≡ b → (cond b [] (byte ∷ []) ≡ byte ∷ []) ⊎ (returned (cond b [] (byte ∷ [])) ≡ byte ∷ [])
  go true e = inr (ap (λ x. x ∷ []) (sym (eqb-true byte 13 e)))
  go false e = inl refl
return_cases (byte ∷ other ∷ bytes) =
    elim (return_cases (other ∷ bytes)) [
      | inl e ↦ inl (ap (λ x. byte ∷ x) e)
      | inr e ↦ inr (ap (λ x. byte ∷ x) e)
    ]

last_answers : {number count : ℕ} {opened : Option ℕ} {tags : Tags} (line : List ℕ) {answer : Result (List Board) PbnFault} → Answers number opened tags count (line ∷ []) answer → Answers number opened tags count (without_return line ∷ []) answer
last_answers {number} {count} {opened} {tags} line {answer} h =
    elim (return_cases line) [
      | inl e ↦ subst (λ l. Answers number opened tags count (l ∷ []) answer) (sym e) h
      | inr e ↦
          let found = answered (without_return line ∷ []) number opened tags count in
          let same : found.what ≡ answer = one_answer (subst (λ l. Answers number opened tags count (l ∷ []) found.what) e (answers_returned (without_return line) found.is_given)) h in
          subst (λ a. Answers number opened tags count (without_return line ∷ []) a) same found.is_given
    ]

-- the lines, the last one ended
abbrev pub last_ended : List (List ℕ) → List (List ℕ)
last_ended [] = []
last_ended (line ∷ []) = without_return line ∷ []
last_ended (line ∷ next ∷ lines) = line ∷ last_ended (next ∷ lines)

pub answers_ended : (lines : List (List ℕ)) {number count : ℕ} {opened : Option ℕ} {tags : Tags} {answer : Result (List Board) PbnFault} → Answers number opened tags count lines answer → Answers number opened tags count (last_ended lines) answer
answers_ended [] h = h
answers_ended (line ∷ []) h = last_answers line h
answers_ended (line ∷ next ∷ lines) (escaped_line e r) = escaped_line e (answers_ended (next ∷ lines) r)
answers_ended (line ∷ next ∷ lines) (blank_line e b r) = blank_line e b (answers_ended (next ∷ lines) r)
answers_ended (line ∷ next ∷ lines) (whole_line e b q r) = whole_line e b q (answers_ended (next ∷ lines) r)
answers_ended (line ∷ next ∷ lines) (opening_line e b q r) = opening_line e b q (answers_ended (next ∷ lines) r)
answers_ended (line ∷ next ∷ lines) (faulty_line e b q) = faulty_line e b q
answers_ended (line ∷ next ∷ lines) (inner_line l r) = inner_line l (answers_ended (next ∷ lines) r)
answers_ended (line ∷ next ∷ lines) (closing_line text e l q r) = closing_line text e l q (answers_ended (next ∷ lines) r)
answers_ended (line ∷ next ∷ lines) (reopening_line text e l q r) = reopening_line text e l q (answers_ended (next ∷ lines) r)
answers_ended (line ∷ next ∷ lines) (faulty_closing_line text e l q) = faulty_closing_line text e l q
