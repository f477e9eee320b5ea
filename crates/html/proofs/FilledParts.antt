-- A filled template, part by part: a text, a place for a value, and what follows it.
use Rattle.std.proofs.Common.{◌≡◌, ◌≢◌, ℕ, cond, List, [], ◌∷◌, ◌++◌, Option, None, Some, MatchOption, All, Bor, refl, sym, ◌∙◌, ap, append_assoc}
use Rattle.std.proofs.lemmas.Bool.{ne_eqb}
use Rattle.std.proofs.lemmas.List.{append-nil}
use Rattle.html.specs.Values.{value_text}
use Rattle.html.specs.Templates.{filled_from, filled}
use Rattle.html.proofs.Each.{Each, each-from}

module _ (texts : List ℕ → List ℕ) where
  fill-text : (text rest : List ℕ) → Each (λ byte. byte ≢ 123) text →
      filled_from texts None (text ++ rest) ≡ text ++ filled_from texts None rest
  fill-text [] rest h = refl
  fill-text (byte ∷ text) rest h =
      ap (λ b. cond b (filled_from texts (Some []) (text ++ rest)) (byte ∷ filled_from texts None (text ++ rest)))
      (ne_eqb byte 123 h.0)
      ∙ ap (λ t. byte ∷ t) (fill-text text rest h.1)

  fill-name : (name before rest : List ℕ) → Each (λ byte. byte ≢ 125) name →
      filled_from texts (Some before) (name ++ 125 ∷ rest) ≡ texts (before ++ name) ++ filled_from texts None rest
  fill-name [] before rest h = ap (λ n. texts n ++ filled_from texts None rest) (sym (append-nil before))
  fill-name (byte ∷ name) before rest h =
      ap (λ b. cond b (texts before ++ filled_from texts None (name ++ 125 ∷ rest))
      (filled_from texts (Some (before ++ byte ∷ [])) (name ++ 125 ∷ rest))) (ne_eqb byte 125 h.0)
      ∙ (fill-name name (before ++ byte ∷ []) rest h.1
      ∙ ap (λ n. texts n ++ filled_from texts None rest) (append_assoc before (byte ∷ []) name))

  fill-open : (name before : List ℕ) → Each (λ byte. byte ≢ 125) name → filled_from texts (Some before) name ≡ []
  fill-open [] before h = refl
  fill-open (byte ∷ name) before h =
      ap (λ b. cond b (texts before ++ filled_from texts None name) (filled_from texts (Some (before ++ byte ∷ [])) name))
      (ne_eqb byte 125 h.0)
      ∙ fill-open name (before ++ byte ∷ []) h.1

module _ (values : List ℕ → List ℕ) (gone rest text whole : List ℕ) (plain : All (λ byte. byte ≢ 123) text)
    (are : gone ++ filled values rest ≡ whole) where
  abbrev texts : List ℕ → List ℕ
  texts name = value_text (values name)

  calm : Each (λ byte. byte ≢ 123) text
  calm = each-from (λ byte. byte ≢ 123) text plain

  filled-text : (after : List ℕ) → rest ≡ text ++ 123 ∷ after → filled values rest ≡ text ++ filled_from texts (Some []) after
  unfolding filled
  filled-text after e = ap (filled_from texts None) e ∙ fill-text texts text (123 ∷ after) calm

  filled-rest : text ≡ rest → filled values rest ≡ text
  unfolding filled
  filled-rest e =
      ap (filled_from texts None) (sym e ∙ sym (append-nil text))
      ∙ (fill-text texts text [] calm ∙ append-nil text)

  -- the text is the beginning of what is left to write
  pub record Begins : Type 0 where
    pub more : List ℕ
    pub is : gone ++ (text ++ more) ≡ whole

  pub begins : (after : Option (Bor (List ℕ))) →
      MatchOption after (text ≡ rest) (λ a. rest ≡ text ++ 123 ∷ a.now) → Begins
  begins None e = record {
    more = [];
    is = ap (λ t. gone ++ t) (append-nil text ∙ sym (filled-rest e)) ∙ are;
  }
  begins (Some a) e = record {
    more = filled_from texts (Some []) a.now;
    is = ap (λ t. gone ++ t) (sym (filled-text a.now e)) ∙ are;
  }

  -- no place for a value is left
  pub last : text ≡ rest → gone ++ text ≡ whole
  last e = ap (λ t. gone ++ t) (sym (filled-rest e)) ∙ are

  module _ (place name : List ℕ) (opened : rest ≡ text ++ 123 ∷ place) (named : All (λ byte. byte ≢ 125) name) where
    calm-name : Each (λ byte. byte ≢ 125) name
    calm-name = each-from (λ byte. byte ≢ 125) name named

    -- a name that never ends
    pub unended : name ≡ place → gone ++ text ≡ whole
    unended e =
        ap (λ t. gone ++ t)
        (sym (append-nil text)
        ∙ (ap (λ t. text ++ t) (sym (fill-open texts name [] calm-name) ∙ ap (filled_from texts (Some [])) e)
        ∙ sym (filled-text place opened)))
        ∙ are

    -- a value
    pub valued : (after : List ℕ) → place ≡ name ++ 125 ∷ after →
        (gone ++ text) ++ (value_text (values name) ++ filled values after) ≡ whole
    unfolding filled
    valued after e =
        append_assoc gone text (texts name ++ filled_from texts None after)
        ∙ (ap (λ t. gone ++ (text ++ t))
        (sym (fill-name texts name [] after calm-name) ∙ ap (filled_from texts (Some [])) (sym e))
        ∙ (ap (λ t. gone ++ t) (sym (filled-text place opened)) ∙ are))
