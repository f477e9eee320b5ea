-- The tag pairs that are dropped are no Deal tags.
use Rattle.std.proofs.Common.{◌≡◌, ℕ, Bool, true, false, cond, ◌||◌, List, [], ◌∷◌, refl, ◌∙◌, ap, ◌<◌, ◌&&◌, length, arith}
use Rattle.std.specs.List.{list_any}
use Rattle.pbn_deals.specs.Pieces.{Piece, Space, Comment, Pair, Data, NoPair, Kind, Gap, Escaped, OfGame}
use Rattle.pbn_deals.specs.Tags.{is_deal, is_same_name}
use Rattle.whole_texts.specs.OldTables.{is_old, left_pieces, has_more, is_count, is_deal_pair, is_deal_kind, is_table, is_par_tag, renews_pars}
use Rattle.tables.specs.declared.results.Renews.{Renews}
use Rattle.std.proofs.lemmas.Bool.{and_parts}
use Rattle.std.specs.Prelude.{codes}
use Rattle.pbn_deals.specs.Letters.{is_letter}

-- ---- names
pub same_length : (one other : List ℕ) → is_same_name one other ≡ true → length one ≡ length other
same_length [] [] e = refl
same_length [] (byte ∷ bytes) e = absurd (cc)
same_length (capital ∷ capitals) [] e = absurd (cc)
same_length (capital ∷ capitals) (byte ∷ bytes) e = go (is_letter capital byte) e (same_length capitals bytes) where
  go : (b : Bool) → (b && is_same_name capitals bytes) ≡ true → (is_same_name capitals bytes ≡ true → length capitals ≡ length bytes) → length (capital ∷ capitals) ≡ length (byte ∷ bytes)
  go true f more = let same = more f in omega (arith, same)
  go false f more = absurd (cc)

-- a name that goes is a long one
par_length : (name : List ℕ) → is_par_tag name ≡ true → 10 < length name
par_length name h = go (is_same_name (codes "OPTIMUMSCORE") name) refl h where
  go : (b : Bool) → is_same_name (codes "OPTIMUMSCORE") name ≡ b → (b || is_same_name (codes "PARCONTRACT") name) ≡ true → 10 < length name
  go true e f = let same = same_length (codes "OPTIMUMSCORE") name e in omega (arith, same)
  go false e f = let same = same_length (codes "PARCONTRACT") name f in omega (arith, same)

pub old_length : (old : Renews) (name : List ℕ) → is_old old name ≡ true → 10 < length name
old_length old name h = go (is_table name) refl h where
  go : (b : Bool) → is_table name ≡ b → (b || (is_par_tag name && renews_pars old)) ≡ true → 10 < length name
  go true e f = let same = same_length (codes "OPTIMUMRESULTTABLE") name e in omega (arith, same)
  go false e f = par_length name (and_parts (is_par_tag name) (renews_pars old) f).0

pub no_deal : (old : Renews) (name : List ℕ) → is_old old name ≡ true → is_deal name ≡ true → ⊥
no_deal old name t d = let one = old_length old name t in let other = same_length (codes "DEAL") name d in absurd (omega (arith, one, other))

-- ---- the Deal tag stays
pub left_deal : (old : Renews) (in_table : Bool) (pieces : List Piece) → list_any is_deal_pair pieces ≡ true → (list_any is_deal_pair (left_pieces old in_table pieces) ≡ true) × (has_more (left_pieces old in_table pieces) ≡ true)
left_deal old in_table [] e = absurd (cc)
left_deal old in_table (Space byte ∷ pieces) e = left_deal old in_table pieces e
left_deal old in_table (Comment bytes ∷ pieces) e = ((left_deal old in_table pieces e).0, refl)
left_deal old in_table (Pair name value bytes ∷ pieces) e = go (is_old old name) refl (is_deal name) refl e (left_deal old true pieces) (left_deal old false pieces) where
  go : (t : Bool) → is_old old name ≡ t → (d : Bool) → is_deal name ≡ d → (d || list_any is_deal_pair pieces) ≡ true → (list_any is_deal_pair pieces ≡ true → (list_any is_deal_pair (left_pieces old true pieces) ≡ true) × (has_more (left_pieces old true pieces) ≡ true)) → (list_any is_deal_pair pieces ≡ true → (list_any is_deal_pair (left_pieces old false pieces) ≡ true) × (has_more (left_pieces old false pieces) ≡ true)) → (list_any is_deal_pair (cond t (left_pieces old true pieces) (Pair name value bytes ∷ left_pieces old false pieces)) ≡ true) × (has_more (cond t (left_pieces old true pieces) (Pair name value bytes ∷ left_pieces old false pieces)) ≡ true)
  go true t true d f gone kept = absurd (no_deal old name t d)
  go true t false d f gone kept = gone f
  go false t true d f gone kept = (ap (λ b. b || list_any is_deal_pair (left_pieces old false pieces)) d, refl)
  go false t false d f gone kept = (ap (λ b. b || list_any is_deal_pair (left_pieces old false pieces)) d ∙ (kept f).0, refl)
left_deal old true (Data bytes ∷ pieces) e = left_deal old true pieces e
left_deal old false (Data bytes ∷ pieces) e = ((left_deal old false pieces e).0, refl)
left_deal old in_table (NoPair bytes ∷ pieces) e = ((left_deal old in_table pieces e).0, refl)

pub count_no_deal : (old : Renews) (kind : Kind) → is_count old kind ≡ true → is_deal_kind kind ≡ false
count_no_deal old (OfGame (Comment bytes ∷ [])) e = refl
count_no_deal old (Gap bytes) e = refl
count_no_deal old (Escaped bytes) e = refl
count_no_deal old (OfGame []) e = refl
count_no_deal old (OfGame (Comment bytes ∷ piece ∷ pieces)) e = absurd (cc)
count_no_deal old (OfGame (Space byte ∷ pieces)) e = absurd (cc)
count_no_deal old (OfGame (Pair name value bytes ∷ pieces)) e = absurd (cc)
count_no_deal old (OfGame (Data bytes ∷ pieces)) e = absurd (cc)
count_no_deal old (OfGame (NoPair bytes ∷ pieces)) e = absurd (cc)
