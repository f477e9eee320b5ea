-- What comes first of the pieces of a line, by its first byte.
use Rattle.std.proofs.Common.{◌≡◌, ◌≢◌, ℕ, Bool, true, false, cond, ◌||◌, eqb, List, [], ◌∷◌, ◌++◌, map, Some, None, refl, sym, ◌∙◌, ap, subst, append_assoc, append-nil, flat_map, All}
use Rattle.std.specs.List.{list_all}
use Rattle.std.specs.Borrow.{Bor}
use Rattle.std.proofs.lemmas.Bool.{eqb-true}
use Rattle.std.proofs.lemmas.List.Elements.{All-head, All-tail}
use Rattle.pbn_deals.specs.Letters.{is_blank}
use Rattle.pbn_deals.specs.DealValue.{after_blanks}
use Rattle.pbn_deals.specs.Tags.{Tag, tag_of}
use Rattle.pbn_deals.specs.Reading.{Lacks, EndsLine, OpensComment, OpensText, OpensTag, IsSpace, IsData, meaning_of}
use Rattle.pbn_deals.specs.Pieces.{Piece, Space, Comment, Pair, Data, NoPair, bytes_of, is_data, HasPieces, at_line_end, space, section_data, quoted_text, unended_text, line_comment, brace_comment, open_comment, tag_pair, no_tag_pair}
use Rattle.pbn_deals.specs.declared.pieces.Piece.{Piece as CodePiece}
use Rattle.pbn_deals.specs.declared.pieces.Piece.TheVariants as seen
use Rattle.pbn_deals.specs.FirstPieces.{is_sign, is_data_piece, found_bytes, is_found_data, opens_comment, ArePieces, IsFirst}
use Rattle.pbn_deals.proofs.OnePieces.{one_pieces}
use Rattle.pbn_deals.proofs.SomePieces.{Pieced, pieced, inside_of}
use Rattle.pbn_deals.proofs.LineLemmas.{meaning_of-other}

-- These pieces come first, which are the bytes before the rest; the flag tells what stands before that.
pub record ComeFirst (first : List Piece) (bytes : List ℕ) (flag : Bool) (text after : List ℕ) (pieces : List Piece) (is_open : Bool) : Type 0 where
  pub some : bytes ≢ []
  pub whole : text ≡ bytes ++ after
  pub more : List Piece
  pub are : pieces ≡ first ++ more
  pub rest : HasPieces flag after more is_open

pub as_first : {in_data is_open : Bool} {text after : List ℕ} {pieces : List Piece} (piece : CodePiece) (first : List Piece) → ArePieces piece first → opens_comment piece ≡ false → ComeFirst first (found_bytes piece) (is_found_data piece || in_data) text after pieces is_open → IsFirst in_data text pieces is_open piece after
as_first {is_open = is_open} piece first are closed c = record {
  some = c.some;
  whole = c.whole;
  first = first;
  are = are;
  more = c.more;
  all = c.are;
  open_behind = is_open;
  has = c.rest;
  opens = sym (ap (λ o. o || is_open) closed);
  last = λ e. let x : true ≡ false = sym e ∙ closed in absurd (cc);
}

no_bytes : (byte : ℕ) (bytes : List ℕ) → byte ∷ bytes ≢ []
no_bytes byte bytes e = cc

-- pieces before those of what stands behind them
before : {flag in_data is_open : Bool} {line after : List ℕ} {pieces : List Piece} (first : List Piece) (byte : ℕ) (bytes : List ℕ) → line ≡ (byte ∷ bytes) ++ after → ((p : Pieced flag after) → HasPieces in_data line (first ++ p.pieces) p.is_open) → HasPieces in_data line pieces is_open → ComeFirst first (byte ∷ bytes) flag line after pieces is_open
before {flag} {is_open = is_open} {after = after} first byte bytes whole made h =
    let p = pieced flag after in
    let same = one_pieces h (made p) in
    record {
      some = no_bytes byte bytes;
      whole = whole;
      more = p.pieces;
      are = same.0;
      rest = subst (λ o. HasPieces flag after p.pieces o) (sym same.1) p.has;
    }

closed_whole : (byte sign : ℕ) (others text after : List ℕ) → others ≡ text ++ sign ∷ after → byte ∷ others ≡ (byte ∷ (text ++ sign ∷ [])) ++ after
closed_whole byte sign others text after e = ap (λ x. byte ∷ x) (e ∙ sym (append_assoc text (sign ∷ []) after))

-- a piece that goes to the end of the line
to_end : {in_data is_open : Bool} {pieces : List Piece} (byte : ℕ) (others : List ℕ) (piece : Piece) → HasPieces in_data (byte ∷ others) (piece ∷ []) false → HasPieces in_data (byte ∷ others) pieces is_open → (flag : Bool) → ComeFirst (piece ∷ []) (byte ∷ others) flag (byte ∷ others) [] pieces is_open
to_end byte others piece made h flag =
    let same = one_pieces h made in
    record {
      some = no_bytes byte others;
      whole = sym (append-nil (byte ∷ others));
      more = [];
      are = same.0;
      rest = subst (λ o. HasPieces flag [] [] o) (sym same.1) at_line_end;
    }

pub line_comment_first : {in_data is_open : Bool} {pieces : List Piece} (others : List ℕ) → HasPieces in_data (59 ∷ others) pieces is_open → ComeFirst (Comment (59 ∷ others) ∷ []) (59 ∷ others) in_data (59 ∷ others) [] pieces is_open
line_comment_first {in_data} others h = to_end 59 others (Comment (59 ∷ others)) (line_comment refl) h in_data

pub comment_first : {in_data is_open : Bool} {pieces : List Piece} (others text after : List ℕ) → others ≡ text ++ 125 ∷ after → Lacks 125 text → HasPieces in_data (123 ∷ others) pieces is_open → ComeFirst (Comment (123 ∷ (text ++ 125 ∷ [])) ∷ []) (123 ∷ (text ++ 125 ∷ [])) in_data (123 ∷ others) after pieces is_open
comment_first others text after e l h = before (Comment (123 ∷ (text ++ 125 ∷ [])) ∷ []) 123 (text ++ 125 ∷ []) (closed_whole 123 125 others text after e) (λ p. brace_comment text refl e l p.has) h

pub quoted_first : {in_data is_open : Bool} {pieces : List Piece} (others text after : List ℕ) → others ≡ text ++ 34 ∷ after → Lacks 34 text → HasPieces in_data (34 ∷ others) pieces is_open → ComeFirst (Data (34 ∷ (text ++ 34 ∷ [])) ∷ []) (34 ∷ (text ++ 34 ∷ [])) true (34 ∷ others) after pieces is_open
quoted_first others text after e l h = before (Data (34 ∷ (text ++ 34 ∷ [])) ∷ []) 34 (text ++ 34 ∷ []) (closed_whole 34 34 others text after e) (λ p. quoted_text text refl e l p.has) h

pub unended_first : {in_data is_open : Bool} {pieces : List Piece} (others : List ℕ) → Lacks 34 others → HasPieces in_data (34 ∷ others) pieces is_open → ComeFirst (Data (34 ∷ others) ∷ []) (34 ∷ others) true (34 ∷ others) [] pieces is_open
unended_first others l h = to_end 34 others (Data (34 ∷ others)) (unended_text refl l) h true

-- ---- runs
blank_means : (byte : ℕ) → is_blank byte ≡ true → meaning_of byte ≡ IsSpace
blank_means byte e = go (eqb byte 32) refl (eqb byte 9) refl e where
  go : (b : Bool) → eqb byte 32 ≡ b → (c : Bool) → eqb byte 9 ≡ c → (b || c) ≡ true → meaning_of byte ≡ IsSpace
  go true f c g h = ap meaning_of (eqb-true byte 32 f)
  go false f true g h = ap meaning_of (eqb-true byte 9 g)
  go false f false g h = absurd (cc)

-- what stands before the rest behind blanks
record BlanksTo (text after : List ℕ) : Type 0 where
  front : List ℕ
  whole : text ≡ front ++ after
  run : (is_open : Bool) (pieces : List Piece) → HasPieces false after pieces is_open → HasPieces false text (map Space front ++ pieces) is_open

blanks : (text : List ℕ) → BlanksTo text (after_blanks text)
blanks [] = record { front = []; whole = refl; run = λ is_open pieces h. h }
blanks (byte ∷ bytes) = go (is_blank byte) refl (blanks bytes) where
  go : (b : Bool) → is_blank byte ≡ b → BlanksTo bytes (after_blanks bytes) → BlanksTo (byte ∷ bytes) (cond b (after_blanks bytes) (byte ∷ bytes))
  go true e more = record { front = byte ∷ more.front; whole = ap (λ x. byte ∷ x) more.whole; run = λ is_open pieces h. space (blank_means byte e) (more.run is_open pieces h) }
  go false e more = record { front = []; whole = refl; run = λ is_open pieces h. h }

as_data : List ℕ → List Piece
as_data bytes = map (λ byte. Data (byte ∷ [])) bytes

data_alone : (bytes : List ℕ) → list_all is_data_piece (as_data bytes) ≡ true
unfolding as_data
data_alone [] = refl
data_alone (byte ∷ bytes) = data_alone bytes

data_bytes : (bytes : List ℕ) → flat_map bytes_of (as_data bytes) ≡ bytes
unfolding as_data
data_bytes [] = refl
data_bytes (byte ∷ bytes) = ap (λ x. byte ∷ x) (data_bytes bytes)

byte_is_data : (byte : ℕ) → is_sign byte ≡ false → is_data true (meaning_of byte) ≡ true
byte_is_data byte n = go (eqb byte 59) (eqb byte 123) (eqb byte 34) n (eqb byte 91) (is_blank byte) where
  go : (a b c : Bool) → (a || (b || c)) ≡ false → (d e : Bool) → is_data true (cond a EndsLine (cond b OpensComment (cond c OpensText (cond d OpensTag (cond e IsSpace IsData))))) ≡ true
  go false false false n true e = refl
  go false false false n false true = refl
  go false false false n false false = refl
  go true b c n d e = absurd (cc)
  go false true c n d e = absurd (cc)
  go false false true n d e = absurd (cc)

data_run : (front : List ℕ) {after : List ℕ} {pieces : List Piece} {is_open : Bool} → All (λ byte. is_sign byte ≡ false) front → HasPieces true after pieces is_open → HasPieces true (front ++ after) (as_data front ++ pieces) is_open
unfolding as_data
data_run [] n h = h
data_run (byte ∷ front) n h =
    section_data (byte_is_data byte (All-head (λ other. is_sign other ≡ false) byte front n)) (data_run front (All-tail (λ other. is_sign other ≡ false) byte front n) h)

-- a byte that begins or goes on with section data
begins_data : (in_data : Bool) (byte : ℕ) → (byte ≡ 59 → ⊥) → (byte ≡ 123 → ⊥) → (byte ≡ 34 → ⊥) → (in_data ≡ false → (byte ≡ 91 → ⊥) × (is_blank byte ≡ false)) → is_data in_data (meaning_of byte) ≡ true
begins_data true byte n m l k = byte_is_data byte (go (eqb byte 59) refl (eqb byte 123) refl (eqb byte 34) refl) where
  go : (a : Bool) → eqb byte 59 ≡ a → (b : Bool) → eqb byte 123 ≡ b → (c : Bool) → eqb byte 34 ≡ c → (a || (b || c)) ≡ false
  go true e b f c g = absurd (n (eqb-true byte 59 e))
  go false e true f c g = absurd (m (eqb-true byte 123 f))
  go false e false f true g = absurd (l (eqb-true byte 34 g))
  go false e false f false g = refl
begins_data false byte n m l k = let none = k refl in ap (is_data false) (meaning_of-other byte false n m l none.0 none.1)

-- ---- at a text that is known by its first byte, with the bytes before what stands behind the piece
module _ (text others after bytes : List ℕ) (byte : ℕ) (is : text ≡ byte ∷ others) (cut : (front : List ℕ) → text ≡ front ++ after → bytes ≡ front) where
  moved : (in_data flag : Bool) (first : List ℕ → List Piece) (found : List ℕ) {pieces : List Piece} {is_open : Bool} → byte ∷ others ≡ found ++ after → (HasPieces in_data (byte ∷ others) pieces is_open → ComeFirst (first found) found flag (byte ∷ others) after pieces is_open) → HasPieces in_data text pieces is_open → ComeFirst (first bytes) bytes flag text after pieces is_open
  moved in_data flag first found {pieces} {is_open} e made h =
      let here = made (subst (λ t. HasPieces in_data t pieces is_open) is h) in
      let same : bytes ≡ found = cut found (is ∙ e) in
      subst (λ b. ComeFirst (first b) b flag text after pieces is_open) (sym same)
      (subst (λ t. ComeFirst (first found) found flag t after pieces is_open) (sym is) here)

pub comment_at : (text others front after bytes : List ℕ) → text ≡ 123 ∷ others → ((found : List ℕ) → text ≡ found ++ after → bytes ≡ found) → others ≡ front ++ 125 ∷ after → Lacks 125 front → (in_data : Bool) (pieces : List Piece) (is_open : Bool) → HasPieces in_data text pieces is_open → ComeFirst (Comment bytes ∷ []) bytes in_data text after pieces is_open
comment_at text others front after bytes is cut e l in_data pieces is_open h =
    moved text others after bytes 123 is cut in_data in_data (λ b. Comment b ∷ []) (123 ∷ (front ++ 125 ∷ [])) (closed_whole 123 125 others front after e) (λ g. comment_first others front after e l g) h

pub quoted_at : (text others front after bytes : List ℕ) → text ≡ 34 ∷ others → ((found : List ℕ) → text ≡ found ++ after → bytes ≡ found) → others ≡ front ++ 34 ∷ after → Lacks 34 front → (in_data : Bool) (pieces : List Piece) (is_open : Bool) → HasPieces in_data text pieces is_open → (first : List Piece) × (list_all is_data_piece first ≡ true) × (flat_map bytes_of first ≡ bytes) × ComeFirst first bytes true text after pieces is_open
quoted_at text others front after bytes is cut e l in_data pieces is_open h = (
  Data bytes ∷ [],
  refl,
  append-nil bytes,
  moved text others after bytes 34 is cut in_data true (λ b. Data b ∷ []) (34 ∷ (front ++ 34 ∷ [])) (closed_whole 34 34 others front after e) (λ g. quoted_first others front after e l g) h,
)

pub unended_at : (text others : List ℕ) → text ≡ 34 ∷ others → Lacks 34 others → (in_data : Bool) (pieces : List Piece) (is_open : Bool) → HasPieces in_data text pieces is_open → (first : List Piece) × (list_all is_data_piece first ≡ true) × (flat_map bytes_of first ≡ text) × ComeFirst first text true text [] pieces is_open
unended_at text others is l in_data pieces is_open h = (
  Data text ∷ [],
  refl,
  append-nil text,
  moved text others [] text 34 is (λ front e. e ∙ append-nil front) in_data true (λ b. Data b ∷ []) (34 ∷ others) (sym (append-nil (34 ∷ others))) (λ g. unended_first others l g) h,
)

pub open_at : (text : Bor (List ℕ)) (others : List ℕ) → text.now ≡ 123 ∷ others → Lacks 125 others → (in_data : Bool) (pieces : List Piece) (is_open : Bool) → HasPieces in_data text.now pieces is_open → IsFirst in_data text.now pieces is_open (seen.OpenComment text) []
open_at text others is l in_data pieces is_open h =
    let same = one_pieces h (subst (λ t. HasPieces in_data t (Comment t ∷ []) true) (sym is) (open_comment refl l)) in
    record {
      some = λ e. no_bytes 123 others (sym is ∙ e);
      whole = sym (append-nil text.now);
      first = Comment text.now ∷ [];
      are = refl;
      more = [];
      all = same.0;
      open_behind = false;
      has = at_line_end;
      opens = same.1;
      last = λ e. refl;
    }

pub line_comment_at : (text others : List ℕ) → text ≡ 59 ∷ others → (in_data : Bool) (pieces : List Piece) (is_open : Bool) → HasPieces in_data text pieces is_open → ComeFirst (Comment text ∷ []) text in_data text [] pieces is_open
line_comment_at text others is in_data pieces is_open h =
    moved text others [] text 59 is (λ front e. e ∙ append-nil front) in_data in_data (λ b. Comment b ∷ []) (59 ∷ others) (sym (append-nil (59 ∷ others))) (λ g. line_comment_first others g) h

pub pair_at : (text others bytes : List ℕ) (tag : Tag) → text ≡ 91 ∷ others → ((found : List ℕ) → text ≡ found ++ tag.rest → bytes ≡ found) → tag_of others ≡ Some tag → (pieces : List Piece) (is_open : Bool) → HasPieces false text pieces is_open → ComeFirst (Pair tag.name tag.value bytes ∷ []) bytes false text tag.rest pieces is_open
pair_at text others bytes tag is cut e pieces is_open h =
    let inside = inside_of others tag e in
    moved text others tag.rest bytes 91 is cut false false (λ b. Pair tag.name tag.value b ∷ []) (91 ∷ inside.0) (ap (λ x. 91 ∷ x) inside.1) (λ g. before (Pair tag.name tag.value (91 ∷ inside.0) ∷ []) 91 inside.0 (ap (λ x. 91 ∷ x) inside.1) (λ p. tag_pair inside.0 refl e inside.1 p.has) g) h

pub no_pair_at : (text : Bor (List ℕ)) (others : List ℕ) → text.now ≡ 91 ∷ others → tag_of others ≡ None → (pieces : List Piece) (is_open : Bool) → HasPieces false text.now pieces is_open → IsFirst false text.now pieces is_open (seen.NoPair text) []
no_pair_at text others is e pieces is_open h =
    let same = one_pieces h (subst (λ t. HasPieces false t (NoPair t ∷ []) false) (sym is) (no_tag_pair refl e)) in
    record {
      some = λ e'. no_bytes 91 others (sym is ∙ e');
      whole = sym (append-nil text.now);
      first = NoPair text.now ∷ [];
      are = refl;
      more = [];
      all = same.0;
      open_behind = false;
      has = at_line_end;
      opens = same.1;
      last = λ e. absurd (cc);
    }

pub blanks_at : (text others after bytes : List ℕ) (byte : ℕ) → text ≡ byte ∷ others → after ≡ after_blanks others → ((found : List ℕ) → text ≡ found ++ after → bytes ≡ found) → is_blank byte ≡ true → (pieces : List Piece) (is_open : Bool) → HasPieces false text pieces is_open → ComeFirst (map Space bytes) bytes false text after pieces is_open
blanks_at text others after bytes byte is behind cut b pieces is_open h =
    let run = subst (λ a. BlanksTo others a) (sym behind) (blanks others) in
    moved text others after bytes byte is cut false false (map Space) (byte ∷ run.front) (ap (λ x. byte ∷ x) run.whole) (λ g. before (map Space (byte ∷ run.front)) byte run.front (ap (λ x. byte ∷ x) run.whole) (λ p. space (blank_means byte b) (run.run p.is_open p.pieces p.has)) g) h

pub data_at : (text others front after bytes : List ℕ) (byte : ℕ) (in_data : Bool) → text ≡ byte ∷ others → ((found : List ℕ) → text ≡ found ++ after → bytes ≡ found) → (byte ≡ 59 → ⊥) → (byte ≡ 123 → ⊥) → (byte ≡ 34 → ⊥) → (in_data ≡ false → (byte ≡ 91 → ⊥) × (is_blank byte ≡ false)) → others ≡ front ++ after → All (λ other. is_sign other ≡ false) front → (pieces : List Piece) (is_open : Bool) → HasPieces in_data text pieces is_open → (first : List Piece) × (list_all is_data_piece first ≡ true) × (flat_map bytes_of first ≡ bytes) × ComeFirst first bytes true text after pieces is_open
unfolding as_data
data_at text others front after bytes byte in_data is cut n m l k e f pieces is_open h = (
  as_data bytes,
  data_alone bytes,
  data_bytes bytes,
  moved text others after bytes byte is cut in_data true as_data (byte ∷ front) (ap (λ x. byte ∷ x) e)
      (λ g. before (as_data (byte ∷ front)) byte front (ap (λ x. byte ∷ x) e)
      (λ p. section_data (begins_data in_data byte n m l k) (subst (λ t. HasPieces true t (as_data front ++ p.pieces) p.is_open) (sym e) (data_run front f p.has))) g) h,
)
