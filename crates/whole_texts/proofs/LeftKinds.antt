-- What is said of pieces that are left, with one more.
use Rattle.std.proofs.Common.{◌≡◌, ◌≢◌, ℕ, Bool, true, false, cond, ◌||◌, List, [], ◌∷◌, ◌++◌, map, refl, sym, ◌∙◌, ap, subst, inl, inr, ◌⊎◌}
use Rattle.std.specs.Borrow.{Bor}
use Rattle.std.specs.List.{list_all}
use Rattle.pbn_deals.specs.declared.pieces.Piece.{Piece as CodePiece}
use Rattle.pbn_deals.specs.declared.pieces.Piece.TheVariants as found
use Rattle.pbn_deals.specs.FirstPieces.{is_data_piece, ArePieces}
use Rattle.pbn_deals.specs.Pieces.{Piece, Space, Comment, Pair, Data, NoPair, OfGame}
use Rattle.whole_texts.specs.OldTables.{has_more, is_count}
use Rattle.whole_texts.specs.Lefts.{left_kind}
use Rattle.whole_texts.specs.declared.lefts.Left.{Left}
use Rattle.whole_texts.specs.declared.lefts.Left.TheVariants.{Nothing, Blanks, Count, More}
use Rattle.tables.specs.declared.results.Renews.{Renews}

more-append : (before pieces : List Piece) → has_more (before ++ pieces) ≡ (has_more before || has_more pieces)
more-append [] pieces = refl
more-append (Space byte ∷ before) pieces = more-append before pieces
more-append (Comment bytes ∷ before) pieces = refl
more-append (Pair name value bytes ∷ before) pieces = refl
more-append (Data bytes ∷ before) pieces = refl
more-append (NoPair bytes ∷ before) pieces = refl

two_no_count : (old : Renews) (first next : Piece) (pieces : List Piece) → is_count old (OfGame (first ∷ next ∷ pieces)) ≡ false
two_no_count old (Space byte) next pieces = refl
two_no_count old (Comment bytes) next pieces = refl
two_no_count old (Pair name value bytes) next pieces = refl
two_no_count old (Data bytes) next pieces = refl
two_no_count old (NoPair bytes) next pieces = refl

long_no_count : (old : Renews) (before pieces : List Piece) → before ≢ [] → pieces ≢ [] → is_count old (OfGame (before ++ pieces)) ≡ false
long_no_count old [] pieces some more = absurd (some refl)
long_no_count old (first ∷ before) [] some more = absurd (more refl)
long_no_count old (first ∷ []) (piece ∷ pieces) some more = two_no_count old first piece pieces
long_no_count old (first ∷ next ∷ before) (piece ∷ pieces) some more = two_no_count old first next (before ++ piece ∷ pieces)

is_more : (old : Renews) (pieces : List Piece) → has_more pieces ≡ true → is_count old (OfGame pieces) ≡ false → More ≡ left_kind old pieces
is_more old [] h n = absurd (cc)
is_more old (piece ∷ pieces) h n = sym (ap (λ b. cond b (cond (is_count old (OfGame (piece ∷ pieces))) Count More) Blanks) h ∙ ap (λ b. cond b Count More) n)

are_blanks : (old : Renews) (pieces : List Piece) → pieces ≢ [] → has_more pieces ≡ false → Blanks ≡ left_kind old pieces
are_blanks old [] some h = absurd (some refl)
are_blanks old (piece ∷ pieces) some h = sym (ap (λ b. cond b (cond (is_count old (OfGame (piece ∷ pieces))) Count More) Blanks) h)

-- ---- what it says of them
no_more_before : (old : Renews) (kind : Left) (before : List Piece) → (kind ≡ Nothing) ⊎ (kind ≡ Blanks) → kind ≡ left_kind old before → has_more before ≡ false
no_more_before old kind [] which e = refl
no_more_before old kind (piece ∷ pieces) which e = go (has_more (piece ∷ pieces)) (is_count old (OfGame (piece ∷ pieces))) which e where
  go : (b c : Bool) → (kind ≡ Nothing) ⊎ (kind ≡ Blanks) → kind ≡ cond b (cond c Count More) Blanks → b ≡ false
  go false c w e = refl
  go true true (inl w) e = absurd (cc)
  go true true (inr w) e = absurd (cc)
  go true false (inl w) e = absurd (cc)
  go true false (inr w) e = absurd (cc)

more_before : (old : Renews) (kind : Left) (before : List Piece) → (kind ≡ Count) ⊎ (kind ≡ More) → kind ≡ left_kind old before → has_more before ≡ true
more_before old kind [] (inl w) e = absurd (cc)
more_before old kind [] (inr w) e = absurd (cc)
more_before old kind (piece ∷ pieces) which e = go (has_more (piece ∷ pieces)) which e where
  go : (b : Bool) → (kind ≡ Count) ⊎ (kind ≡ More) → kind ≡ cond b (cond (is_count old (OfGame (piece ∷ pieces))) Count More) Blanks → b ≡ true
  go true w e = refl
  go false (inl w) e = absurd (cc)
  go false (inr w) e = absurd (cc)

some_before : (old : Renews) (kind : Left) (before : List Piece) → (kind ≡ Nothing → ⊥) → kind ≡ left_kind old before → before ≢ []
some_before old kind before n e none = n (e ∙ ap (left_kind old) none)

-- ---- blanks
spaces_no_more : (bytes : List ℕ) → has_more (map Space bytes) ≡ false
spaces_no_more [] = refl
spaces_no_more (byte ∷ bytes) = spaces_no_more bytes

some_behind : (before pieces : List Piece) → pieces ≢ [] → before ++ pieces ≢ []
some_behind [] pieces some e = some e
some_behind (piece ∷ before) pieces some e = cc

pub blanks_stay : (old : Renews) (kind : Left) (before pieces : List Piece) (bytes : List ℕ) → (kind ≡ Nothing) ⊎ (kind ≡ Blanks) → kind ≡ left_kind old before → pieces ≡ map Space bytes → pieces ≢ [] → Blanks ≡ left_kind old (before ++ pieces)
blanks_stay old kind before pieces bytes which e are some =
    are_blanks old (before ++ pieces) (some_behind before pieces some)
    (more-append before pieces ∙ (ap (λ b. b || has_more pieces) (no_more_before old kind before which e) ∙ (ap has_more are ∙ spaces_no_more bytes)))

pub more_stays : (old : Renews) (kind : Left) (before pieces : List Piece) → (kind ≡ Count) ⊎ (kind ≡ More) → kind ≡ left_kind old before → pieces ≢ [] → More ≡ left_kind old (before ++ pieces)
more_stays old kind before pieces which e some =
    let more = more_before old kind before which e in
    is_more old (before ++ pieces) (more-append before pieces ∙ ap (λ b. b || has_more pieces) more)
    (long_no_count old before pieces (λ none. let x : true ≡ false = sym more ∙ ap has_more none in absurd (cc)) some)

-- ---- more than blanks
-- pieces that are more than blanks, and no count
any_more : (old : Renews) (before pieces : List Piece) → has_more pieces ≡ true → (before ≡ [] → is_count old (OfGame pieces) ≡ false) → More ≡ left_kind old (before ++ pieces)
any_more old before pieces more n = is_more old (before ++ pieces) (more-append before pieces ∙ go (has_more before) more) (no_count before n) where
  go : (b : Bool) → has_more pieces ≡ true → (b || has_more pieces) ≡ true
  go true e = refl
  go false e = e

  no_count : (before : List Piece) → (before ≡ [] → is_count old (OfGame pieces) ≡ false) → is_count old (OfGame (before ++ pieces)) ≡ false
  no_count [] n = n refl
  no_count (piece ∷ rest) n = long_no_count old (piece ∷ rest) pieces (λ e. cc) (λ e. let x : true ≡ false = sym more ∙ ap has_more e in absurd (cc))

not_nothing : (kind : Left) → (kind ≡ Blanks) ⊎ ((kind ≡ Count) ⊎ (kind ≡ More)) → kind ≡ Nothing → ⊥
not_nothing kind (inl is) e = cc
not_nothing kind (inr (inl is)) e = cc
not_nothing kind (inr (inr is)) e = cc

-- a comment behind other pieces
pub comment_more : (old : Renews) (kind : Left) (piece : CodePiece) (before pieces : List Piece) (bytes : Bor (List ℕ)) → (kind ≡ Blanks) ⊎ ((kind ≡ Count) ⊎ (kind ≡ More)) → kind ≡ left_kind old before → (piece ≡ found.Comment bytes) ⊎ (piece ≡ found.OpenComment bytes) → ArePieces piece pieces → More ≡ left_kind old (before ++ pieces)
comment_more old kind piece before pieces bytes which e (inl is) are = let a = subst (λ p. ArePieces p pieces) is are in any_more old before pieces (ap has_more a) (λ none. absurd (some_before old kind before (not_nothing kind which) e none))
comment_more old kind piece before pieces bytes which e (inr is) are = let a = subst (λ p. ArePieces p pieces) is are in any_more old before pieces (ap has_more a) (λ none. absurd (some_before old kind before (not_nothing kind which) e none))

data_more : (old : Renews) (pieces : List Piece) → list_all is_data_piece pieces ≡ true → pieces ≢ [] → (has_more pieces ≡ true) × (is_count old (OfGame pieces) ≡ false)
data_more old [] e some = absurd (some refl)
data_more old (Data bytes ∷ pieces) e some = (refl, refl)
data_more old (Space byte ∷ pieces) e some = absurd (cc)
data_more old (Comment bytes ∷ pieces) e some = absurd (cc)
data_more old (Pair name value bytes ∷ pieces) e some = absurd (cc)
data_more old (NoPair bytes ∷ pieces) e some = absurd (cc)

-- a tag pair, section data, or what begins none
pub others_more : (old : Renews) (piece : CodePiece) (before pieces : List Piece) → ((name value bytes : Bor (List ℕ)) × (piece ≡ found.Pair name value bytes)) ⊎ ((bytes : Bor (List ℕ)) × (piece ≡ found.Data bytes)) ⊎ ((bytes : Bor (List ℕ)) × (piece ≡ found.NoPair bytes)) → ArePieces piece pieces → pieces ≢ [] → More ≡ left_kind old (before ++ pieces)
others_more old piece before pieces (inl (name, value, bytes, is)) are some = let e = subst (λ p. ArePieces p pieces) is are in any_more old before pieces (ap has_more e) (λ none. ap (λ l. is_count old (OfGame l)) e)
others_more old piece before pieces (inr (inl (bytes, is))) are some = let (all, same) = subst (λ p. ArePieces p pieces) is are in let (more, n) = data_more old pieces all some in any_more old before pieces more (λ none. n)
others_more old piece before pieces (inr (inr (bytes, is))) are some = let e = subst (λ p. ArePieces p pieces) is are in any_more old before pieces (ap has_more e) (λ none. ap (λ l. is_count old (OfGame l)) e)
