-- What the reader of an answer meets.
use Rattle.std.proofs.Common.{◌≡◌, ℕ, suc, ◌+◌, ◌-◌, ◌/◌, ◌%◌, ◌<◌, ◌≤◌, List, [], ◌∷◌, ◌++◌, length, take, drop, slice_get, Some, get_or, inl, inr, refl, sym, ◌∙◌, ap, subst, arith}
use Rattle.std.proofs.Math.Seq.{split_at}
use Rattle.std.proofs.lemmas.List.{length-take-le, get_or-take}
use Rattle.std.proofs.lemmas.Option.{slice_get-get_or, slice_get_within, get_or_from_slice_get}
use Rattle.std.proofs.lemmas.Fmt.{decimal_digit}
use Rattle.std.specs.Fmt.{decimal}
use Rattle.cards.proofs.NumberLemmas.{decimal_two}
use Rattle.deal_subcommands.specs.Answers.{number_line, IsEmptyLine, IsCut}

taken_get : (body : List ℕ) (place at : ℕ) → at < place → place < length body → slice_get (take place body) at ≡ slice_get body at
taken_get body place at h within =
    slice_get-get_or (take place body) at 0 (omega (arith, length-take-le place body (omega arith)))
    ∙ (ap (λ byte. Some byte) (get_or-take place body at 0 h) ∙ sym (slice_get-get_or body at 0 (omega arith)))

of_front : (body : List ℕ) (place at : ℕ) → at < place → place < length body → IsEmptyLine (take place body) at → IsEmptyLine body at
of_front body place at h within e = record {
  ends = sym (taken_get body place at h within) ∙ e.ends;
  begins = elim e.begins [
    | inl first ↦ inl first
    | inr before ↦ inr (sym (taken_get body place (at - 1) (omega arith) within) ∙ before)
  ];
}

next : (n : ℕ) → suc n ≡ n + 1
next n = omega arith

split_here : (body : List ℕ) (place : ℕ) → place < length body → body ≡ take place body ++ get_or body place 10 ∷ drop (place + 1) body
split_here body place h = subst (λ n. body ≡ take place body ++ get_or body place 10 ∷ drop n body) (next place) (split_at body place 10 h)

pub cut_at : (body : List ℕ) (place : ℕ) → IsEmptyLine body place → place < length body →
    ((before : ℕ) → before < place → IsEmptyLine body before → ⊥) → IsCut body (take place body) (drop (place + 1) body)
cut_at body place empty within first = record {
  is = split_here body place within ∙ ap (λ byte. take place body ++ byte ∷ drop (place + 1) body) (get_or_from_slice_get body place 10 10 empty.ends);
  empty = rw (length-take-le place body (omega arith)) empty;
  first = λ before e.
      let inside : before < place = omega (arith, slice_get_within (take place body) before 10 e.ends, length-take-le place body (omega arith)) in
      first before inside (of_front body place before inside within e);
}

-- a number of one digit, and one of two
pub one_digit : (n : ℕ) (rest : List ℕ) → n < 10 → number_line n rest ≡ (48 + n) ∷ 10 ∷ rest
one_digit n rest h = rw (decimal_digit n h) refl

pub two_digits : (n : ℕ) (rest : List ℕ) → (n < 10 → ⊥) → n ≤ 13 → number_line n rest ≡ 49 ∷ (48 + (n - 10)) ∷ 10 ∷ rest
two_digits n rest h few =
    let first : n / 10 ≡ 1 = omega arith in
    let last : n % 10 ≡ n - 10 = omega arith in
    let both : decimal n ≡ (48 + n / 10) ∷ (48 + n % 10) ∷ [] = decimal_two n (omega arith) (omega arith) in
    let digits : (48 + n / 10) ∷ (48 + n % 10) ∷ [] ≡ 49 ∷ (48 + (n - 10)) ∷ [] = ap (λ m. (48 + m) ∷ (48 + n % 10) ∷ []) first ∙ ap (λ m. 49 ∷ (48 + m) ∷ []) last in
    ap (λ text. text ++ 10 ∷ rest) (both ∙ digits)
