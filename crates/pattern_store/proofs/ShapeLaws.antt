-- Shapes keep their numbers.
use Rattle.std.proofs.Common.{◌≡◌, ◌≢◌, ℕ, zero, suc, ◌<◌, ◌≤◌, arith, inl, inr, List, [], ◌∷◌, length, set, get_or, slice_get, Some, refl, sym, ◌∙◌, ap, subst}
use Rattle.std.specs.Option.{option_map_or}
use Rattle.std.proofs.lemmas.Bool.{cases_eq}
use Rattle.std.proofs.lemmas.List.{get_or-set_same, get_or-set_other}
use Rattle.std.proofs.lemmas.Option.{none-some, slice_get_past, slice_get_within}
use Rattle.pattern_store.specs.declared.blocks.List as lists
use Rattle.pattern_store.specs.declared.spans.Span.{Span}
use Rattle.pattern_store.specs.Shapes.{Shapes, ShapeIs, KeepsShapes, nowhere, span_of, SetsSpan}

-- what some is
pub some_is : {A : Type 0} (a b : A) → Some a ≡ Some b → a ≡ b
some_is a b e = ap (λ o. option_map_or (λ x. x) o a) e

module _ {A : Type 0} where
  -- another place stays
  pub set_else : (xs : List A) (i j : ℕ) (y : A) → j ≢ i → slice_get (set xs i y) j ≡ slice_get xs j
  set_else [] i j y n = refl
  set_else (x ∷ xs) zero zero y n = absurd (n refl)
  set_else (x ∷ xs) zero (suc j) y n = refl
  set_else (x ∷ xs) (suc i) zero y n = refl
  set_else (x ∷ xs) (suc i) (suc j) y n = set_else xs i j y (λ e. n (ap suc e))

  -- and this one has what is put there
  pub slice_get_set : (xs : List A) (i : ℕ) (y : A) → i < length xs → slice_get (set xs i y) i ≡ Some y
  slice_get_set [] i y lt = absurd (omega arith)
  slice_get_set (x ∷ xs) zero y lt = refl
  slice_get_set (x ∷ xs) (suc i) y lt = slice_get_set xs i y (omega arith)

  -- which it is then
  pub set_here : (xs : List A) (i : ℕ) (y x : A) → slice_get (set xs i y) i ≡ Some x → x ≡ y
  set_here [] i y x h = absurd (none-some x h)
  set_here (z ∷ xs) zero y x h = sym (some_is y x h)
  set_here (z ∷ xs) (suc i) y x h = set_here xs i y x h

-- shapes keep their numbers where the lists of one lie elsewhere
keeps_row : (old : Shapes) (i : ℕ) (row : ℕ × List Span) (spans : List Span) → slice_get old i ≡ Some row → KeepsShapes old (set old i (row.0, spans))
keeps_row old i row spans at shape lengths was = elim (cases_eq shape i) [
  | inl same ↦
      let key : row.0 ≡ lengths = ap (λ (e : ℕ × List Span). e.0) (some_is row (lengths, was.spans) (sym at ∙ (ap (slice_get old) (sym same) ∙ was.is))) in
      record { spans = spans; is = ap (slice_get (set old i (row.0, spans))) same ∙ (slice_get_set old i (row.0, spans) (slice_get_within old i row at) ∙ ap (λ (k : ℕ). Some (k, spans)) key) }
  | inr other ↦ record { spans = was.spans; is = set_else old i shape (row.0, spans) other ∙ was.is }
]

module _ (shapes : Shapes) (shape lengths : ℕ) where
  -- a shape whose lengths are these
  pub shape_at : (row : ℕ × List Span) → slice_get shapes shape ≡ Some row → row.0 ≡ lengths → ShapeIs shapes shape lengths
  shape_at row at is = record { spans = row.1; is = at ∙ ap (λ (k : ℕ). Some (k, row.1)) is }

  -- or are not
  pub other_shape : (row : ℕ × List Span) → slice_get shapes shape ≡ Some row → (row.0 ≡ lengths → ⊥) → ShapeIs shapes shape lengths → ⊥
  other_shape row at other is = other (ap (λ (e : ℕ × List Span). e.0) (some_is row (lengths, is.spans) (sym at ∙ is.is)))

  -- there is none past the last
  pub no_shape_past : length shapes ≤ shape → ShapeIs shapes shape lengths → ⊥
  no_shape_past past is = none-some (lengths, is.spans) (sym (slice_get_past shapes shape past) ∙ is.is)

-- lists are one where their shapes and their numbers are
pub same_list : (one other : lists.List) → one.shape ≡ other.shape → one.number ≡ other.number → one ≡ other
same_list one other shape number = ap (λ (s : ℕ). record one { shape = s }) shape ∙ ap (λ (n : ℕ). record other { number = n }) number

-- ---- where a list lies

-- it lies in the span that its shape has for it
span_is : (shapes : Shapes) (list : lists.List) (lengths : ℕ) (spans : List Span) → slice_get shapes list.shape ≡ Some (lengths, spans) → span_of shapes list ≡ get_or spans list.number nowhere
span_is shapes list lengths spans at = ap (λ o. option_map_or (λ (shape : ℕ × List Span). get_or shape.1 list.number nowhere) o nowhere) at

-- where another span is put into its shape
pub sets_span : (shapes : Shapes) (list : lists.List) (span : Span) (row : ℕ × List Span) → slice_get shapes list.shape ≡ Some row →
    SetsSpan shapes (set shapes list.shape (row.0, set row.1 list.number span)) list span
sets_span shapes list span row at = record {
  keeps = keeps_row shapes list.shape row new at;
  here = λ is_list.
      let same : is_list.spans ≡ row.1 = ap (λ (e : ℕ × List Span). e.1) (some_is (is_list.lengths, is_list.spans) row (sym is_list.is ∙ at)) in
      span_is after list row.0 new here
      ∙ get_or-set_same row.1 list.number span nowhere (subst (λ (s : List Span). list.number < length s) same is_list.has_span);
  elsewhere = λ other apart. elim (cases_eq other.shape list.shape) [
    | inl shape ↦
        let number : other.number ≢ list.number = λ number. apart (same_list other list shape number) in
        span_is after other row.0 new (ap (slice_get after) shape ∙ here)
        ∙ (get_or-set_other row.1 list.number other.number span nowhere number
        ∙ sym (span_is shapes other row.0 row.1 (ap (slice_get shapes) shape ∙ at)))
    | inr shape ↦ ap (λ o. option_map_or (λ (shape : ℕ × List Span). get_or shape.1 other.number nowhere) o nowhere) (set_else shapes list.shape other.shape (row.0, new) shape)
  ];
}
  where
    new : List Span
    new = set row.1 list.number span

    after : Shapes
    after = set shapes list.shape (row.0, new)

    here : slice_get after list.shape ≡ Some (row.0, new)
    here = slice_get_set shapes list.shape (row.0, new) (slice_get_within shapes list.shape row at)

-- where there is no such shape nothing changes
pub no_shape : (shapes : Shapes) (list : lists.List) (span : Span) → length shapes ≤ list.shape → SetsSpan shapes shapes list span
no_shape shapes list span past = record {
  keeps = λ shape lengths is. is;
  here = λ is_list. absurd (none-some (is_list.lengths, is_list.spans) (sym (slice_get_past shapes list.shape past) ∙ is_list.is));
  elsewhere = λ other apart. refl;
}
