-- A text has one row of parts.
use Rattle.std.proofs.Common.{◌≡◌, ℕ, ◌+◌, ◌-◌, ◌<◌, List, [], ◌∷◌, ◌++◌, length, take, inl, inr, refl, sym, ◌∙◌, ap, subst, arith}
use Rattle.std.proofs.lemmas.Bool.{cases_lt}
use Rattle.std.proofs.lemmas.List.{take_at, append_cancel_left}
use Rattle.evidence.specs.declared.parts.Part.{Part}
use Rattle.evidence.specs.declared.parts.Part.TheVariants.{Found, Damaged, End}
use Rattle.evidence.specs.Sections.{SectionShape}
use Rattle.evidence.specs.Pieces.{IsFirstPiece, EndsAtTitle, IsFound, IsDamaged}
use Rattle.evidence.specs.Parts.{IsPart, AreParts}
use Rattle.evidence_laws.specs.Parts.{TextsHaveOneRow}
use Rattle.evidence_laws.proofs.SectionLemmas.{one_section}

-- ---- one first piece
not_shorter : (text p r q s : List ℕ) → EndsAtTitle text p r → EndsAtTitle text q s → length p < length q → ⊥
not_shorter text p r q s a b h = let some = a.some in b.first (length p - 1) (omega arith) a.here

same_fronts : (p r q s : List ℕ) → length p ≡ length q → p ++ r ≡ q ++ s → (p ≡ q) × (r ≡ s)
same_fronts p r q s n e =
    let same : p ≡ q = sym (take_at p r (length p) refl) ∙ (ap (take (length p)) e ∙ take_at q s (length p) (sym n)) in
    (same, append_cancel_left p r s (e ∙ ap (λ l. l ++ s) (sym same)))

pub one_first_piece : (text p r q s : List ℕ) → IsFirstPiece text p r → IsFirstPiece text q s → (p ≡ q) × (r ≡ s)
one_first_piece text p r q s (inl a) (inl b) = elim (cases_lt (length p) (length q)) [
  | inl less ↦ absurd (not_shorter text p r q s a b less)
  | inr no_less ↦ elim (cases_lt (length q) (length p)) [
    | inl more ↦ absurd (not_shorter text q s p r b a more)
    | inr no_more ↦ same_fronts p r q s (omega arith) (sym a.whole ∙ b.whole)
  ]
]
one_first_piece text p r q s (inl a) (inr b) = absurd (b.none (length p - 1) a.here)
one_first_piece text p r q s (inr a) (inl b) = absurd (a.none (length q - 1) b.here)
one_first_piece text p r q s (inr a) (inr b) = (sym a.whole ∙ b.whole, a.nothing ∙ sym b.nothing)

-- ---- one part
apart : (piece : List ℕ) (section : SectionShape) → IsFound piece section → IsDamaged piece → ⊥
apart piece section (few, of) (inl long) = omega arith
apart piece section (few, of) (inr none) = none section of

pub one_part : (at : ℕ) (piece : List ℕ) (one other : Part) → IsPart at piece one → IsPart at piece other → one ≡ other
one_part at piece (Found a) (Found b) p q = ap Found (one_section piece a b p.1 q.1)
one_part at piece (Found a) (Damaged n) p q = absurd (apart piece a p q.1)
one_part at piece (Damaged m) (Found b) p q = absurd (apart piece b q p.1)
one_part at piece (Damaged m) (Damaged n) p q = ap Damaged (p.0 ∙ sym q.0)
one_part at piece End other p q = absurd p
one_part at piece (Found a) End p q = absurd q
one_part at piece (Damaged m) End p q = absurd q

-- ---- one row
pub no_piece : (text piece rest : List ℕ) → text ≡ [] → IsFirstPiece text piece rest → ⊥
no_piece text piece rest none (inl ends) = let some = ends.some in let fits = ends.here.fits in let long : length text ≡ 0 = ap length none in omega arith
no_piece text piece rest none (inr ends) = let some = ends.some in let long : length piece ≡ 0 = ap length (sym ends.whole ∙ none) in omega arith

one_row : (one other : List Part) (at : ℕ) (text : List ℕ) → AreParts at text one → AreParts at text other → one ≡ other
one_row [] [] at text p q = refl
one_row [] (b ∷ bs) at text p q = absurd (no_piece text q.0 q.1 p q.2)
one_row (a ∷ as') [] at text p q = absurd (no_piece text p.0 p.1 q p.2)
one_row (a ∷ as') (b ∷ bs) at text p q =
    let same = one_first_piece text p.0 p.1 q.0 q.1 p.2 q.2 in
    let part : a ≡ b = one_part at q.0 a b (subst (λ l. IsPart at l a) same.0 p.3) q.3 in
    let rest : AreParts (at + length q.0) q.1 as' = subst (λ l. AreParts (at + length l) q.1 as') same.0 (subst (λ l. AreParts (at + length p.0) l as') same.1 p.4) in
    ap (λ x. x ∷ as') part ∙ ap (λ xs. b ∷ xs) (one_row as' bs (at + length q.0) q.1 rest q.4)

pub texts_have_one_row : TextsHaveOneRow
texts_have_one_row text one other p q = one_row one other 0 text p q
