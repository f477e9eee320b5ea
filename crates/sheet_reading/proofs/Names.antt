-- Pieces whose tags have only some names, and elements that hold only such pieces.
use Rattle.std.proofs.Common.{◌≡◌, ℕ, Bool, true, false, true≢false, cond, not, List, [], ◌∷◌, ◌++◌, refl, sym, ◌∙◌, ap}
use Rattle.std.specs.Prelude.{◌&&◌, bytes_eq}
use Rattle.std.specs.List.{list_all}
use Rattle.std.proofs.lemmas.Bool.{and_parts, and_from, not_from_false, false_from_ne_true}
use Rattle.std.proofs.lemmas.List.{append-nil}
use Rattle.std.proofs.lemmas.List.Folds.{list_all-append}
use Rattle.std.proofs.lemmas.Slice.Eq.{bytes_eq-Decides}
use Rattle.sheet_reading.specs.Elements.{Piece, end_of, before_tag, elements}
use Rattle.sheet_reading.proofs.ElementLemmas.{is_other, lacks, has, is_closed, before-lacks, lacks-append, Yields, yields-nothing}

abbrev pub among : List (List ℕ) → List ℕ → Bool
among [] name = false
among (one ∷ names) name = cond (bytes_eq one name) true (among names name)

-- each tag has one of these names
abbrev pub only : List (List ℕ) → List Piece → Bool
only names pieces = list_all (λ piece. among names piece.name) pieces

pub only-append : (names : List (List ℕ)) (one other : List Piece) → only names one ≡ true → only names other ≡ true →
    only names (one ++ other) ≡ true
only-append names one other h k =
    list_all-append (λ piece. among names piece.name) one other ∙ and_from (only names one) (only names other) h k

pub only-lacks : (names : List (List ℕ)) (name : List ℕ) (pieces : List Piece) → among names name ≡ false →
    only names pieces ≡ true → lacks name pieces ≡ true
only-lacks names name [] apart h = refl
only-lacks names name (piece ∷ pieces) apart h =
    let parts = and_parts (among names piece.name) (only names pieces) h in
    let differs : bytes_eq piece.name name ≡ true → ⊥ =
    λ same. true≢false (sym parts.0 ∙ (ap (among names) ((bytes_eq-Decides piece.name name).0 same) ∙ apart)) in
    and_from (is_other name piece) (lacks name pieces)
    (not_from_false (bytes_eq piece.name name) (false_from_ne_true (bytes_eq piece.name name) differs))
    (only-lacks names name pieces apart parts.1)

-- ---- one element
has-last : (name : List ℕ) (pieces : List Piece) (last : Piece) → bytes_eq last.name name ≡ true →
    has name (pieces ++ last ∷ []) ≡ true
has-last name [] last h = ap (λ b. cond b true false) h
has-last name (piece ∷ pieces) last h = go (bytes_eq piece.name name) (has-last name pieces last h)
  where
    go : (same : Bool) → has name (pieces ++ last ∷ []) ≡ true → cond same true (has name (pieces ++ last ∷ [])) ≡ true
    go true more = refl
    go false more = more

-- pieces between a tag and the tag that ends its element
pub whole-element : (name : List ℕ) (first end : Piece) (pieces : List Piece) → bytes_eq first.name name ≡ true →
    bytes_eq end.name (end_of name) ≡ true → bytes_eq end.name name ≡ false → lacks name pieces ≡ true →
    lacks (end_of name) pieces ≡ true → Yields name (first ∷ (pieces ++ end ∷ [])) ((first ∷ pieces) ∷ [])
whole-element name first end pieces opens ends other free inside =
    let after : lacks name (pieces ++ end ∷ []) ≡ true =
    lacks-append name pieces (end ∷ []) free (ap (λ b. not b && true) other) in
    let rest = yields-nothing name (pieces ++ end ∷ []) after in
    let up_to : before_tag (end_of name) (pieces ++ end ∷ []) ≡ pieces =
    before-lacks (end_of name) pieces (end ∷ []) inside
    ∙ (ap (λ b. pieces ++ cond b [] (end ∷ [])) ends ∙ append-nil pieces) in
    record {
      closed =
          ap (λ b. cond b (has (end_of name) (pieces ++ end ∷ [])) true && is_closed name (pieces ++ end ∷ [])) opens
          ∙ and_from (has (end_of name) (pieces ++ end ∷ [])) (is_closed name (pieces ++ end ∷ []))
          (has-last (end_of name) pieces end ends) rest.closed;
      are =
          ap (λ b. cond b ((first ∷ before_tag (end_of name) (pieces ++ end ∷ [])) ∷ elements name (pieces ++ end ∷ []))
          (elements name (pieces ++ end ∷ []))) opens
          ∙ (ap (λ t. (first ∷ t) ∷ elements name (pieces ++ end ∷ [])) up_to
          ∙ ap (λ t. (first ∷ pieces) ∷ t) rest.are);
    }

-- ---- more names
among-wider : (names wide : List (List ℕ)) (name : List ℕ) → list_all (among wide) names ≡ true →
    among names name ≡ true → among wide name ≡ true
among-wider [] wide name h k = absurd (true≢false (sym k))
among-wider (one ∷ names) wide name h k = go (bytes_eq one name) refl (among-wider names wide name parts.1) k
  where
    parts : (among wide one ≡ true) × (list_all (among wide) names ≡ true)
    parts = and_parts (among wide one) (list_all (among wide) names) h

    go : (same : Bool) → bytes_eq one name ≡ same → (among names name ≡ true → among wide name ≡ true) →
        cond same true (among names name) ≡ true → among wide name ≡ true
    go true e more k = sym (ap (among wide) ((bytes_eq-Decides one name).0 e)) ∙ parts.0
    go false e more k = more k

pub only-wider : (names wide : List (List ℕ)) (pieces : List Piece) → list_all (among wide) names ≡ true →
    only names pieces ≡ true → only wide pieces ≡ true
only-wider names wide [] h k = refl
only-wider names wide (piece ∷ pieces) h k =
    let parts = and_parts (among names piece.name) (only names pieces) k in
    and_from (among wide piece.name) (only wide pieces) (among-wider names wide piece.name h parts.0)
    (only-wider names wide pieces h parts.1)
