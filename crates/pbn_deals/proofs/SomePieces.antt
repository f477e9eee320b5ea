-- A line has pieces, and they are its bytes.
use Rattle.std.proofs.Common.{◌≡◌, ℕ, zero, suc, ◌≤◌, Bool, true, false, List, [], ◌∷◌, ◌++◌, length, Option, Some, None, refl, sym, ◌∙◌, ap, arith, length-append, append_assoc, append-nil, flat_map}
use Rattle.pbn_deals.specs.Tags.{Tag, tag_of}
use Rattle.pbn_deals.specs.Reading.{Meaning, EndsLine, OpensComment, OpensText, OpensTag, IsSpace, IsData, meaning_of}
use Rattle.pbn_deals.specs.Pieces.{Piece, bytes_of, is_data, HasPieces, at_line_end, space, section_data, quoted_text, unended_text, line_comment, brace_comment, open_comment, tag_pair, no_tag_pair}
use Rattle.pbn_deals.proofs.TagParts.{Split, split, split_nowhere, split_at, tag_shorter, tag_parts}

-- ---- a line has pieces
pub record Pieced (in_data : Bool) (line : List ℕ) : Type 0 where
  pub pieces : List Piece
  pub is_open : Bool
  pub has : HasPieces in_data line pieces is_open

made : {in_data : Bool} {line : List ℕ} {pieces : List Piece} {is_open : Bool} → HasPieces in_data line pieces is_open → Pieced in_data line
made {pieces = pieces} {is_open} h = record { pieces = pieces; is_open = is_open; has = h }

-- the bytes of a tag pair up to its end
pub inside_of : (rest : List ℕ) (tag : Tag) → tag_of rest ≡ Some tag → (inside : List ℕ) × (rest ≡ inside ++ tag.rest)
inside_of rest tag e =
    let parts = tag_parts rest tag e in
    let front = parts.front ++ (tag.value ++ 34 ∷ parts.closing) in (
      front,
      parts.whole
          ∙ sym (append_assoc parts.front (tag.value ++ 34 ∷ parts.closing) tag.rest
          ∙ ap (λ x. parts.front ++ x) (append_assoc tag.value (34 ∷ parts.closing) tag.rest)),
    )

module _ (most : ℕ) (shorter : (in_data : Bool) (line : List ℕ) → length line ≤ most → Pieced in_data line) (in_data : Bool) (byte : ℕ) (rest : List ℕ) (within : length rest ≤ most) where
  after_within : (sign : ℕ) (front after : List ℕ) → rest ≡ front ++ sign ∷ after → length after ≤ most
  after_within sign front after e = omega (arith, ap length e, length-append front (sign ∷ after))

  at_brace : meaning_of byte ≡ OpensComment → Split 125 rest → Pieced in_data (byte ∷ rest)
  at_brace m (split_nowhere lacks) = made (open_comment m lacks)
  at_brace m (split_at front after e lacks) = made (brace_comment front m e lacks (shorter in_data after (after_within 125 front after e)).has)

  at_quote : meaning_of byte ≡ OpensText → Split 34 rest → Pieced in_data (byte ∷ rest)
  at_quote m (split_nowhere lacks) = made (unended_text m lacks)
  at_quote m (split_at front after e lacks) = made (quoted_text front m e lacks (shorter true after (after_within 34 front after e)).has)

  as_data : {flag : Bool} → is_data flag (meaning_of byte) ≡ true → Pieced flag (byte ∷ rest)
  as_data d = made (section_data d (shorter true rest within).has)

  at_opening : meaning_of byte ≡ OpensTag → (flag : Bool) (found : Option Tag) → tag_of rest ≡ found → Pieced flag (byte ∷ rest)
  at_opening m true found e = as_data (ap (is_data true) m)
  at_opening m false None e = made (no_tag_pair m e)
  at_opening m false (Some tag) e =
      let inside = inside_of rest tag e in
      made (tag_pair inside.0 m e inside.1 (shorter false tag.rest (omega (arith, within, tag_shorter rest tag e))).has)

  at_space : meaning_of byte ≡ IsSpace → (flag : Bool) → Pieced flag (byte ∷ rest)
  at_space m true = as_data (ap (is_data true) m)
  at_space m false = made (space m (shorter false rest within).has)

  pub at_byte : (meaning : Meaning) → meaning_of byte ≡ meaning → Pieced in_data (byte ∷ rest)
  at_byte EndsLine m = made (line_comment m)
  at_byte OpensComment m = at_brace m (split 125 rest)
  at_byte OpensText m = at_quote m (split 34 rest)
  at_byte OpensTag m = at_opening m in_data (tag_of rest) refl
  at_byte IsSpace m = at_space m in_data
  at_byte IsData m = as_data (ap (is_data in_data) m)

pieced_within : (most : ℕ) (in_data : Bool) (line : List ℕ) → length line ≤ most → Pieced in_data line
pieced_within most in_data [] h = made at_line_end
pieced_within zero in_data (byte ∷ rest) h = absurd (omega arith)
pieced_within (suc most) in_data (byte ∷ rest) h = at_byte most (pieced_within most) in_data byte rest (omega arith) (meaning_of byte) refl

pub pieced : (in_data : Bool) (line : List ℕ) → Pieced in_data line
pieced in_data line = pieced_within (length line) in_data line (omega arith)

-- ---- the pieces are the line
closed : (byte sign : ℕ) (text rest after more : List ℕ) → rest ≡ text ++ sign ∷ after → more ≡ after → (byte ∷ (text ++ sign ∷ [])) ++ more ≡ byte ∷ rest
closed byte sign text rest after more e f =
    ap (λ x. byte ∷ x) (append_assoc text (sign ∷ []) more ∙ (ap (λ x. text ++ sign ∷ x) f ∙ sym e))

pub bytes_of-pieces : {in_data : Bool} {line : List ℕ} {pieces : List Piece} {is_open : Bool} → HasPieces in_data line pieces is_open → flat_map bytes_of pieces ≡ line
bytes_of-pieces at_line_end = refl
bytes_of-pieces (space {byte} m r) = ap (λ x. byte ∷ x) (bytes_of-pieces r)
bytes_of-pieces (section_data {byte = byte} d r) = ap (λ x. byte ∷ x) (bytes_of-pieces r)
bytes_of-pieces (quoted_text {byte = byte} text {rest} {after} {pieces} m e l r) = closed byte 34 text rest after (flat_map bytes_of pieces) e (bytes_of-pieces r)
bytes_of-pieces (unended_text {byte = byte} {rest} m l) = append-nil (byte ∷ rest)
bytes_of-pieces (line_comment {byte = byte} {rest} m) = append-nil (byte ∷ rest)
bytes_of-pieces (brace_comment {byte = byte} text {rest} {after} {pieces} m e l r) = closed byte 125 text rest after (flat_map bytes_of pieces) e (bytes_of-pieces r)
bytes_of-pieces (open_comment {byte = byte} {rest} m l) = append-nil (byte ∷ rest)
bytes_of-pieces (tag_pair {byte} inside {tag = tag} m g e r) = ap (λ x. (byte ∷ inside) ++ x) (bytes_of-pieces r) ∙ ap (λ x. byte ∷ x) (sym e)
bytes_of-pieces (no_tag_pair {byte} {rest} m g) = append-nil (byte ∷ rest)
