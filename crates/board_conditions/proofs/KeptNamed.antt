-- The first values of names that are kept, with some pieces more.
use Rattle.std.proofs.Common.{◌≡◌, ℕ, Bool, true, false, cond, ◌&&◌, List, [], ◌∷◌, ◌++◌, Option, None, Some, refl, sym, ◌∙◌, ap, append-nil}
use Rattle.std.specs.List.{filter, filter_map, slice_get}
use Rattle.std.specs.Borrow.{Bor}
use Rattle.std.specs.Option.{option_copied, option_or}
use Rattle.std.proofs.lemmas.List.Elements.{filter-append, filter_map-append}
use Rattle.pbn_deals.specs.Pieces.{Piece, Pair}
use Rattle.pbn_deals.specs.Tags.{is_same_name}
use Rattle.board_conditions.specs.Games.{value_named, first_kept, first_named}

first_or : {X : Type 0} (xs ys : List X) → slice_get (xs ++ ys) 0 ≡ option_or (slice_get xs 0) (slice_get ys 0)
first_or [] ys = refl
first_or (x ∷ xs) ys = refl

no_first : {X : Type 0} (xs : List X) → slice_get xs 0 ≡ None → xs ≡ []
no_first [] e = refl
no_first (x ∷ xs) e = absurd (cc)

pub kept-append : (is_kept : List ℕ → Bool) (capitals : List ℕ) (one other : List Piece) → first_kept is_kept capitals (one ++ other) ≡ option_or (first_kept is_kept capitals one) (first_kept is_kept capitals other)
kept-append is_kept capitals one other =
    let ones = filter_map (value_named capitals) one in
    let others = filter_map (value_named capitals) other in
    ap (λ l. slice_get (filter is_kept l) 0) (filter_map-append (value_named capitals) one other)
    ∙ (ap (λ l. slice_get l 0) (filter-append is_kept ones others) ∙ first_or (filter is_kept ones) (filter is_kept others))

-- pieces without a value add none that is kept
pub kept-same : (is_kept : List ℕ → Bool) (capitals : List ℕ) (before pieces : List Piece) → first_named capitals pieces ≡ None → first_kept is_kept capitals before ≡ first_kept is_kept capitals (before ++ pieces)
kept-same is_kept capitals before pieces none =
    let values = filter_map (value_named capitals) before in
    sym (ap (λ l. slice_get (filter is_kept l) 0) (filter_map-append (value_named capitals) before pieces
    ∙ (ap (λ l. values ++ l) (no_first (filter_map (value_named capitals) pieces) none) ∙ append-nil values)))

-- ---- a tag pair
pair-kept : (is_kept : List ℕ → Bool) (capitals name value bytes : List ℕ) (same known : Bool) → is_same_name capitals name ≡ same → is_kept value ≡ known
    → first_kept is_kept capitals (Pair name value bytes ∷ []) ≡ cond (same && known) (Some value) None
pair-kept is_kept capitals name value bytes same known is is_known = ap found_first is ∙ go same
  where
    found_first : Bool → Option (List ℕ)
    found_first b = slice_get (filter is_kept (filter_map (λ (p : Piece). cond b (Some value) None) (Pair name value bytes ∷ []))) 0

    kept_first : Bool → Option (List ℕ)
    kept_first b = slice_get (cond b (value ∷ []) []) 0

    chosen : (b : Bool) → kept_first b ≡ cond b (Some value) None
    chosen true = refl
    chosen false = refl

    go : (b : Bool) → found_first b ≡ cond (b && known) (Some value) None
    go true = ap kept_first is_known ∙ chosen known
    go false = refl

pub pair-more : (is_kept : List ℕ → Bool) (capitals name value bytes : List ℕ) (pieces : List Piece)
    → first_kept is_kept capitals (pieces ++ Pair name value bytes ∷ []) ≡ option_or (first_kept is_kept capitals pieces) (cond (is_same_name capitals name && is_kept value) (Some value) None)
pair-more is_kept capitals name value bytes pieces =
    kept-append is_kept capitals pieces (Pair name value bytes ∷ [])
    ∙ ap (option_or (first_kept is_kept capitals pieces)) (pair-kept is_kept capitals name value bytes (is_same_name capitals name) (is_kept value) refl refl)

-- ---- in the program
pub copied_or : (one other : Option (Bor (List ℕ))) → option_copied (option_or one other) ≡ option_or (option_copied one) (option_copied other)
copied_or None other = refl
copied_or (Some value) other = refl
