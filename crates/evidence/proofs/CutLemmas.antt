-- A text is cut at the first byte of a kind, in one way.
use Rattle.std.proofs.Common.{◌≡◌, ◌≢◌, ℕ, ◌+◌, List, [], ◌∷◌, ◌++◌, length, take, drop, Option, None, Some, refl, sym, ◌∙◌, ap, arith, eq-eqb}
use Rattle.std.specs.Prelude.{MatchOption, ◌↔◌}
use Rattle.std.proofs.lemmas.Bool.{eqb-true}
use Rattle.std.proofs.lemmas.List.{take-append-drop, drop_more, length-take-le, get_or-take}
use Rattle.std.proofs.lemmas.List.Elements.{All-head, All-tail, All-from_get_or}
use Rattle.memchr.specs.Find.{Nowhere, NoneBefore, Passes, is_byte}
use Rattle.certificate_graph.proofs.OneSpelling.{heads, tails}
use Rattle.pbn_deals.specs.Reading.{Lacks}

pub one_front : (byte : ℕ) (front other rest more : List ℕ) → Lacks byte front → Lacks byte other → front ++ (byte ∷ rest) ≡ other ++ (byte ∷ more) → (front ≡ other) × (rest ≡ more)
one_front byte [] [] rest more a b e = (refl, tails _ _ _ _ e)
one_front byte [] (y ∷ ys) rest more a b e = absurd (All-head (λ x. x ≢ byte) y ys b (sym (heads byte y rest (ys ++ (byte ∷ more)) e)))
one_front byte (x ∷ xs) [] rest more a b e = absurd (All-head (λ z. z ≢ byte) x xs a (heads x byte (xs ++ (byte ∷ rest)) more e))
one_front byte (x ∷ xs) (y ∷ ys) rest more a b e =
    let next = one_front byte xs ys rest more (All-tail (λ z. z ≢ byte) x xs a) (All-tail (λ z. z ≢ byte) y ys b)
    (tails x y (xs ++ (byte ∷ rest)) (ys ++ (byte ∷ more)) e) in
    (ap (λ z. z ∷ xs) (heads x y (xs ++ (byte ∷ rest)) (ys ++ (byte ∷ more)) e) ∙ ap (λ zs. y ∷ zs) next.0, next.1)

-- a text with such a byte is not one without
pub some_byte : (byte : ℕ) (front rest : List ℕ) → Lacks byte (front ++ (byte ∷ rest)) → ⊥
some_byte byte [] rest lacks = All-head (λ z. z ≢ byte) byte rest lacks refl
some_byte byte (x ∷ xs) rest lacks = some_byte byte xs rest (All-tail (λ z. z ≢ byte) x (xs ++ (byte ∷ rest)) lacks)

-- ---- what a search finds
pub nowhere_lacks : (byte : ℕ) (text : List ℕ) → Nowhere (Passes (is_byte byte) text) 0 (length text) → Lacks byte text
nowhere_lacks byte text none = All-from_get_or (λ x. x ≢ byte) text 0 (λ i h e. none i (omega arith) h (eq-eqb _ _ e))

module _ (byte : ℕ) (text : List ℕ) (place : ℕ) (found : NoneBefore (Passes (is_byte byte) text) 0 (length text) place) (passes : Passes (is_byte byte) text place) where
  pub found_parts : text ≡ take place text ++ (byte ∷ drop (place + 1) text)
  found_parts =
      sym (take-append-drop place text)
      ∙ (ap (λ t. take place text ++ t) (drop_more text place 0 found.high)
      ∙ ap (λ b. take place text ++ (b ∷ drop (place + 1) text)) (eqb-true _ _ passes))

  pub found_lacks : Lacks byte (take place text)
  found_lacks =
      let long : length (take place text) ≡ place = length-take-le place text (let h = found.high in omega arith) in
      All-from_get_or (λ x. x ≢ byte) (take place text) 0
      (λ i h e. found.before i (omega arith) (omega (arith, long)) (eq-eqb _ _ (sym (get_or-take place text i 0 (omega (arith, long))) ∙ e)))

-- ---- what a word names
pub named_by : {X : Type 0} (spelled : X → List ℕ) (r : Option X) (word letters : List ℕ) → letters ≡ word → ((x : X) → (r ≡ Some x) ↔ (letters ≡ spelled x)) → MatchOption r ((x : X) → word ≢ spelled x) (λ x. word ≡ spelled x)
named_by spelled None word letters same names = λ x e. let named : None ≡ Some x = (names x).1 (same ∙ e) in cc
named_by spelled (Some x) word letters same names = sym same ∙ (names x).0 refl
