-- What is left of a line is read as what is left of its pieces.
use Rattle.std.proofs.Common.{◌≡◌, ℕ, Bool, true, false, cond, List, [], ◌∷◌, ◌++◌, Some, refl, sym, ◌∙◌, ap, subst, append_assoc, append-nil, flat_map}
use Rattle.pbn_deals.specs.Tags.{Tag, tag_of}
use Rattle.pbn_deals.specs.Reading.{OpensTag, meaning_of}
use Rattle.pbn_deals.specs.Pieces.{Piece, Comment, Pair, Data, NoPair, bytes_of, HasPieces, at_line_end, space, section_data, quoted_text, unended_text, line_comment, brace_comment, open_comment, tag_pair, no_tag_pair}
use Rattle.text_laws.proofs.TagMoved.{pair_again}
use Rattle.whole_texts.specs.OldTables.{is_old, left_pieces, has_more}
use Rattle.tables.specs.declared.results.Renews.{Renews}

abbrev pub left_bytes : (old : Renews) → Bool → List Piece → List ℕ
left_bytes old in_table pieces = flat_map bytes_of (left_pieces old in_table pieces)

-- ---- the pieces are read back
abbrev pub flag_left : Bool → Bool → Bool
flag_left true in_data = false
flag_left false in_data = in_data

-- a piece that goes to the end of the line
last_piece : {in_data is_open : Bool} (byte : ℕ) (rest : List ℕ) (piece : Piece) → bytes_of piece ≡ byte ∷ rest → HasPieces in_data (byte ∷ rest) (piece ∷ []) is_open → HasPieces in_data (flat_map bytes_of (piece ∷ [])) (piece ∷ []) is_open
last_piece {in_data} {is_open} byte rest piece e h =
    subst (λ x. HasPieces in_data x (piece ∷ []) is_open) (sym (append-nil (bytes_of piece) ∙ e)) h

-- a tag pair goes where it is a table's
pair_left : (old : Renews) (b : Bool) (byte : ℕ) (inside : List ℕ) {rest : List ℕ} {tag : Tag} (pieces : List Piece) {is_open : Bool} → meaning_of byte ≡ OpensTag → tag_of rest ≡ Some tag → rest ≡ inside ++ tag.rest → HasPieces false (left_bytes old true pieces) (left_pieces old true pieces) is_open → HasPieces false (left_bytes old false pieces) (left_pieces old false pieces) is_open → HasPieces false (flat_map bytes_of (cond b (left_pieces old true pieces) (Pair tag.name tag.value (byte ∷ inside) ∷ left_pieces old false pieces))) (cond b (left_pieces old true pieces) (Pair tag.name tag.value (byte ∷ inside) ∷ left_pieces old false pieces)) is_open
pair_left old true byte inside pieces m g e gone kept = gone
pair_left old false byte inside {rest} {tag} pieces m g e gone kept =
    tag_pair inside {tag = record { name = tag.name; value = tag.value; rest = left_bytes old false pieces }} m (pair_again rest inside tag g e (left_bytes old false pieces)) refl kept

pub left : (old : Renews) (in_table : Bool) {in_data is_open : Bool} {line : List ℕ} {pieces : List Piece} → HasPieces in_data line pieces is_open → HasPieces (flag_left in_table in_data) (left_bytes old in_table pieces) (left_pieces old in_table pieces) is_open
left old true at_line_end = at_line_end
left old false at_line_end = at_line_end
left old true (space m r) = space m (left old true r)
left old false (space m r) = space m (left old false r)
left old true (section_data d r) = left old true r
left old false (section_data d r) = section_data d (left old false r)
left old true (quoted_text text m e l r) = left old true r
left old false (quoted_text text {pieces = pieces} m e l r) = quoted_text text m (append_assoc text (34 ∷ []) (left_bytes old false pieces)) l (left old false r)
left old true (unended_text m l) = at_line_end
left old false (unended_text {byte = byte} {rest} m l) = last_piece byte rest (Data (byte ∷ rest)) refl (unended_text m l)
left old true (line_comment {byte = byte} {rest} m) = last_piece byte rest (Comment (byte ∷ rest)) refl (line_comment m)
left old false (line_comment {byte = byte} {rest} m) = last_piece byte rest (Comment (byte ∷ rest)) refl (line_comment m)
left old true (brace_comment text {pieces = pieces} m e l r) = brace_comment text m (append_assoc text (125 ∷ []) (left_bytes old true pieces)) l (left old true r)
left old false (brace_comment text {pieces = pieces} m e l r) = brace_comment text m (append_assoc text (125 ∷ []) (left_bytes old false pieces)) l (left old false r)
left old true (open_comment {byte = byte} {rest} m l) = last_piece byte rest (Comment (byte ∷ rest)) refl (open_comment m l)
left old false (open_comment {byte = byte} {rest} m l) = last_piece byte rest (Comment (byte ∷ rest)) refl (open_comment m l)
left old true (tag_pair {byte} inside {tag = tag} {pieces} m g e r) = pair_left old (is_old old tag.name) byte inside pieces m g e (left old true r) (left old false r)
left old false (tag_pair {byte} inside {tag = tag} {pieces} m g e r) = pair_left old (is_old old tag.name) byte inside pieces m g e (left old true r) (left old false r)
left old true (no_tag_pair {byte} {rest} m g) = last_piece byte rest (NoPair (byte ∷ rest)) refl (no_tag_pair m g)
left old false (no_tag_pair {byte} {rest} m g) = last_piece byte rest (NoPair (byte ∷ rest)) refl (no_tag_pair m g)

pub left_outside : (old : Renews) (in_table : Bool) {is_open : Bool} {line : List ℕ} {pieces : List Piece} → HasPieces false line pieces is_open → HasPieces false (left_bytes old in_table pieces) (left_pieces old in_table pieces) is_open
left_outside old true h = left old true h
left_outside old false h = left old false h

-- ---- section data that no table goes before stays
pub data_stays : (old : Renews) {line : List ℕ} {pieces : List Piece} {is_open in_data : Bool} → in_data ≡ true → HasPieces in_data line pieces is_open → left_pieces old false pieces ≡ pieces
data_stays old d at_line_end = refl
data_stays old d (space m r) = absurd (cc)
data_stays old d (section_data {byte = byte} i r) = ap (λ p. Data (byte ∷ []) ∷ p) (data_stays old refl r)
data_stays old d (quoted_text {byte = byte} text m e l r) = ap (λ p. Data (byte ∷ (text ++ 34 ∷ [])) ∷ p) (data_stays old refl r)
data_stays old d (unended_text m l) = refl
data_stays old d (line_comment m) = refl
data_stays old d (brace_comment {byte = byte} text m e l r) = ap (λ p. Comment (byte ∷ (text ++ 125 ∷ [])) ∷ p) (data_stays old d r)
data_stays old d (open_comment m l) = refl
data_stays old d (tag_pair inside m g e r) = absurd (cc)
data_stays old d (no_tag_pair m g) = absurd (cc)

-- ---- a comment that is open is left
pub open_left : (old : Renews) (in_table : Bool) {in_data is_open : Bool} {line : List ℕ} {pieces : List Piece} → is_open ≡ true → HasPieces in_data line pieces is_open → has_more (left_pieces old in_table pieces) ≡ true
open_left old in_table o at_line_end = absurd (cc)
open_left old in_table o (space m r) = open_left old in_table o r
open_left old true o (section_data d r) = open_left old true o r
open_left old false o (section_data d r) = refl
open_left old true o (quoted_text text m e l r) = open_left old true o r
open_left old false o (quoted_text text m e l r) = refl
open_left old in_table o (unended_text m l) = absurd (cc)
open_left old in_table o (line_comment m) = absurd (cc)
open_left old in_table o (brace_comment text m e l r) = refl
open_left old in_table o (open_comment m l) = refl
open_left old in_table o (tag_pair {byte} inside {tag = tag} {pieces} m g e r) = go (is_old old tag.name) (open_left old true o r) where
  go : (b : Bool) → has_more (left_pieces old true pieces) ≡ true → has_more (cond b (left_pieces old true pieces) (Pair tag.name tag.value (byte ∷ inside) ∷ left_pieces old false pieces)) ≡ true
  go true h = h
  go false h = refl
open_left old in_table o (no_tag_pair m g) = absurd (cc)
