-- A text is one answer at most.
use Rattle.std.proofs.Common.{◌≡◌, ℕ, ◌^◌, ◌+◌, ◌-◌, ◌<◌, ◌≤◌, List, ◌∷◌, ◌++◌, length, take, slice_get, Some, codes, inl, inr, sym, ◌∙◌, ◌⊎◌, ap, subst, arith, lit≤}
use Rattle.std.proofs.Math.ListN.{get_or-append}
use Rattle.std.proofs.Math.Seq.{take-append_seam}
use Rattle.std.proofs.lemmas.List.{append_cancel_left, length-append}
use Rattle.std.proofs.lemmas.Option.{slice_get-get_or}
use Rattle.std.proofs.lemmas.Bool.{cases_lt}
use Rattle.certificate_graph.proofs.OneSpelling.{tails, one_number}
use Rattle.deal_subcommands.specs.Answers.{result_text, number_line, IsEmptyLine, IsCut, IsUncut}
use Rattle.evidence_laws.specs.Answers.{HasOneAnswer}

-- ---- the first line
small : (n : ℕ) → n ≤ 13 → n < 2 ^ 64
small n h = omega arith

pub one_line : (m n : ℕ) (body other : List ℕ) → m ≤ 13 → n ≤ 13 → result_text m body ≡ result_text n other → (m ≡ n) × (body ≡ other)
one_line m n body other p q h =
    let numbers : number_line m body ≡ number_line n other = append_cancel_left (codes "result ") _ _ h in
    let same = one_number m n (10 ∷ body) (10 ∷ other) (small m p) (small n q) (lit≤ tt) (lit≤ tt) numbers in
    (same.0, tails _ _ _ _ same.1)

-- ---- the first empty line
front_get : (front rest : List ℕ) (place : ℕ) → place < length front → slice_get (front ++ rest) place ≡ slice_get front place
front_get front rest place h =
    slice_get-get_or (front ++ rest) place 0 (omega (arith, h, length-append front rest))
    ∙ ap (λ byte. Some byte) (get_or-append front rest 0 place h)
    ∙ sym (slice_get-get_or front place 0 h)

-- an empty line of a front
in_front : (front rest : List ℕ) (place : ℕ) → place < length front → IsEmptyLine (front ++ rest) place → IsEmptyLine front place
in_front front rest place h e = record {
  ends = sym (front_get front rest place h) ∙ e.ends;
  begins = elim e.begins [
    | inl first ↦ inl first
    | inr before ↦ inr (sym (front_get front rest (place - 1) (omega arith)) ∙ before)
  ];
}

not_before : (body declarers declarers' defenders defenders' : List ℕ) → IsCut body declarers defenders → IsCut body declarers' defenders' →
    length declarers < length declarers' → ⊥
not_before body declarers declarers' defenders defenders' a b h =
    b.first (length declarers) (in_front declarers' (10 ∷ defenders') (length declarers) h (subst (λ text. IsEmptyLine text (length declarers)) b.is a.empty))

same_length : (body declarers declarers' defenders defenders' : List ℕ) → IsCut body declarers defenders → IsCut body declarers' defenders' →
    length declarers ≡ length declarers'
same_length body declarers declarers' defenders defenders' a b = elim (cases_lt (length declarers) (length declarers')) [
  | inl less ↦ absurd (not_before body declarers declarers' defenders defenders' a b less)
  | inr no_less ↦ elim (cases_lt (length declarers') (length declarers)) [
    | inl more ↦ absurd (not_before body declarers' declarers defenders' defenders b a more)
    | inr no_more ↦ omega arith
  ]
]

one_cut : (body declarers declarers' defenders defenders' : List ℕ) → IsCut body declarers defenders → IsCut body declarers' defenders' →
    (declarers ≡ declarers') × (defenders ≡ defenders')
one_cut body declarers declarers' defenders defenders' a b =
    let front : declarers ≡ take (length declarers) body = sym (ap (take (length declarers)) a.is ∙ take-append_seam declarers (10 ∷ defenders)) in
    let other : take (length declarers') body ≡ declarers' = ap (take (length declarers')) b.is ∙ take-append_seam declarers' (10 ∷ defenders') in
    let same : declarers ≡ declarers' = front ∙ (ap (λ n. take n body) (same_length body declarers declarers' defenders defenders' a b) ∙ other) in
    let rest : declarers ++ 10 ∷ defenders ≡ declarers ++ 10 ∷ defenders' = sym a.is ∙ (b.is ∙ ap (λ t. t ++ 10 ∷ defenders') (sym same)) in
    (same, tails _ _ _ _ (append_cancel_left declarers _ _ rest))

one_body : (body declarers declarers' defenders defenders' : List ℕ) →
    IsCut body declarers defenders ⊎ IsUncut body declarers defenders → IsCut body declarers' defenders' ⊎ IsUncut body declarers' defenders' →
    (declarers ≡ declarers') × (defenders ≡ defenders')
one_body body declarers declarers' defenders defenders' (inl a) (inl b) = one_cut body declarers declarers' defenders defenders' a b
one_body body declarers declarers' defenders defenders' (inl a) (inr b) = absurd (b.none (length declarers) a.empty)
one_body body declarers declarers' defenders defenders' (inr a) (inl b) = absurd (a.none (length declarers') b.empty)
one_body body declarers declarers' defenders defenders' (inr a) (inr b) = (a.all ∙ sym b.all, a.nothing ∙ sym b.nothing)

pub one_answer : HasOneAnswer
one_answer = record {
  one = λ text tricks tricks' declarers declarers' defenders defenders' a b.
      let line = one_line tricks tricks' a.body b.body a.few b.few (sym a.line ∙ b.line) in
      let parts = subst (λ body. IsCut body declarers' defenders' ⊎ IsUncut body declarers' defenders') (sym line.1) b.parts in
      let bodies = one_body a.body declarers declarers' defenders defenders' a.parts parts in
      (line.0, bodies.0, bodies.1);
  none = λ text tricks declarers defenders lacks a. lacks tricks a.body a.few a.line;
}
