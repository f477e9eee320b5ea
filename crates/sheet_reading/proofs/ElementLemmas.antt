-- The elements of pieces, one list of them after another.
use Rattle.std.proofs.Common.{◌≡◌, ℕ, Bool, true, false, true≢false, cond, not, List, [], ◌∷◌, ◌++◌, refl, sym, ◌∙◌, ap}
use Rattle.std.specs.Prelude.{◌&&◌, bytes_eq}
use Rattle.std.specs.List.{list_all}
use Rattle.std.proofs.lemmas.Bool.{and_parts, and_from, not-true}
use Rattle.std.proofs.lemmas.List.Folds.{list_all-append}
use Rattle.sheet_reading.specs.Elements.{Piece, end_of, before_tag, elements}

abbrev pub is_other : List ℕ → Piece → Bool
is_other name piece = not (bytes_eq piece.name name)

-- no tag has this name
abbrev pub lacks : List ℕ → List Piece → Bool
lacks name pieces = list_all (is_other name) pieces

abbrev pub has : List ℕ → List Piece → Bool
has name [] = false
has name (piece ∷ pieces) = cond (bytes_eq piece.name name) true (has name pieces)

-- each element of this name is ended
abbrev pub is_closed : List ℕ → List Piece → Bool
is_closed name [] = true
is_closed name (piece ∷ pieces) =
    cond (bytes_eq piece.name name) (has (end_of name) pieces) true && is_closed name pieces

-- ---- pieces of other names
pub before-lacks : (name : List ℕ) (one other : List Piece) → lacks name one ≡ true →
    before_tag name (one ++ other) ≡ one ++ before_tag name other
before-lacks name [] other h = refl
before-lacks name (piece ∷ one) other h =
    let parts = and_parts (is_other name piece) (lacks name one) h in
    ap (λ b. cond b [] (piece ∷ before_tag name (one ++ other))) (not-true (bytes_eq piece.name name) parts.0)
    ∙ ap (λ t. piece ∷ t) (before-lacks name one other parts.1)

pub lacks-append : (name : List ℕ) (one other : List Piece) → lacks name one ≡ true → lacks name other ≡ true →
    lacks name (one ++ other) ≡ true
lacks-append name one other h k = list_all-append (is_other name) one other ∙ and_from (lacks name one) (lacks name other) h k

-- ---- whole elements
before-has : (name : List ℕ) (one other : List Piece) → has name one ≡ true →
    before_tag name (one ++ other) ≡ before_tag name one
before-has name [] other h = absurd (true≢false (sym h))
before-has name (piece ∷ one) other h = go (bytes_eq piece.name name) (before-has name one other) h
  where
    go : (same : Bool) → (has name one ≡ true → before_tag name (one ++ other) ≡ before_tag name one) →
        cond same true (has name one) ≡ true →
        cond same [] (piece ∷ before_tag name (one ++ other)) ≡ cond same [] (piece ∷ before_tag name one)
    go true more k = refl
    go false more k = ap (λ t. piece ∷ t) (more k)

has-append : (name : List ℕ) (one other : List Piece) → has name one ≡ true → has name (one ++ other) ≡ true
has-append name [] other h = absurd (true≢false (sym h))
has-append name (piece ∷ one) other h = go (bytes_eq piece.name name) (has-append name one other) h
  where
    go : (same : Bool) → (has name one ≡ true → has name (one ++ other) ≡ true) →
        cond same true (has name one) ≡ true → cond same true (has name (one ++ other)) ≡ true
    go true more k = refl
    go false more k = more k

-- these pieces have these elements, and each is ended
pub record Yields (name : List ℕ) (pieces : List Piece) (found : List (List Piece)) : Type 0 where
  pub closed : is_closed name pieces ≡ true
  pub are : elements name pieces ≡ found

elements-append : (name : List ℕ) (one other : List Piece) → is_closed name one ≡ true →
    elements name (one ++ other) ≡ elements name one ++ elements name other
elements-append name [] other h = refl
elements-append name (piece ∷ one) other h = go (bytes_eq piece.name name) (elements-append name one other) h
  where
    go : (same : Bool) →
        (is_closed name one ≡ true → elements name (one ++ other) ≡ elements name one ++ elements name other) →
        (cond same (has (end_of name) one) true && is_closed name one) ≡ true →
        cond same ((piece ∷ before_tag (end_of name) (one ++ other)) ∷ elements name (one ++ other)) (elements name (one ++ other))
        ≡ cond same ((piece ∷ before_tag (end_of name) one) ∷ elements name one) (elements name one) ++ elements name other
    go true more k =
        let parts = and_parts (has (end_of name) one) (is_closed name one) k in
        ap (λ t. (piece ∷ t) ∷ elements name (one ++ other)) (before-has (end_of name) one other parts.0)
        ∙ ap (λ t. (piece ∷ before_tag (end_of name) one) ∷ t) (more parts.1)
    go false more k = more k

closed-append : (name : List ℕ) (one other : List Piece) → is_closed name one ≡ true → is_closed name other ≡ true →
    is_closed name (one ++ other) ≡ true
closed-append name [] other h k = k
closed-append name (piece ∷ one) other h k =
    go (bytes_eq piece.name name) (λ e. closed-append name one other e k) h
  where
    go : (same : Bool) → (is_closed name one ≡ true → is_closed name (one ++ other) ≡ true) →
        (cond same (has (end_of name) one) true && is_closed name one) ≡ true →
        (cond same (has (end_of name) (one ++ other)) true && is_closed name (one ++ other)) ≡ true
    go true more e =
        let parts = and_parts (has (end_of name) one) (is_closed name one) e in
        and_from (has (end_of name) (one ++ other)) (is_closed name (one ++ other)) (has-append (end_of name) one other parts.0)
        (more parts.1)
    go false more e = more e

pub yields-append : (name : List ℕ) (one other : List Piece) (found more : List (List Piece)) → Yields name one found →
    Yields name other more → Yields name (one ++ other) (found ++ more)
yields-append name one other found more h k = record {
  closed = closed-append name one other h.closed k.closed;
  are =
      elements-append name one other h.closed
      ∙ (ap (λ t. t ++ elements name other) h.are ∙ ap (λ t. found ++ t) k.are);
}

pub yields-nothing : (name : List ℕ) (pieces : List Piece) → lacks name pieces ≡ true → Yields name pieces []
yields-nothing name [] h = record { closed = refl; are = refl }
yields-nothing name (piece ∷ pieces) h =
    let parts = and_parts (is_other name piece) (lacks name pieces) h in
    let more = yields-nothing name pieces parts.1 in
    let other = not-true (bytes_eq piece.name name) parts.0 in
    record {
      closed =
          ap (λ b. cond b (has (end_of name) pieces) true && is_closed name pieces) other ∙ more.closed;
      are =
          ap (λ b. cond b ((piece ∷ before_tag (end_of name) pieces) ∷ elements name pieces) (elements name pieces)) other
          ∙ more.are;
    }
