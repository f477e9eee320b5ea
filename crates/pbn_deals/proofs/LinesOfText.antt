-- A text is read as lines in one way, and it is their bytes.
use Rattle.std.proofs.Common.{◌≡◌, ℕ, Bool, true, false, cond, eqb, List, [], ◌∷◌, ◌++◌, refl, sym, ◌∙◌, ap, subst, append_assoc, append-nil, flat_map, inl, inr, ◌&&◌}
use Rattle.std.specs.List.{slice_split}
use Rattle.std.proofs.lemmas.Bool.{eqb-true, cases_Bool, and_parts}
use Rattle.pbn_deals.specs.DealValue.{is_word}
use Rattle.pbn_deals.specs.Lines.{is_line_feed, without_mark, without_return, is_escaped, is_blank_line}
use Rattle.pbn_deals.specs.Pieces.{Piece, Comment, bytes_of, HasPieces, Kind, Gap, Escaped, OfGame, body_of, LineIs, is_escaped_line, is_gap, is_of_game, is_in_comment, closes_comment, Row, end_of, rows_of_parts, rows_of, Line, line_bytes, AreLines, no_more, one_more, mark_of}
use Rattle.pbn_deals.specs.LineBoards.{AreTextLines}
use Rattle.pbn_deals.proofs.OneCut.{one_cut, no_cut}
use Rattle.pbn_deals.proofs.OnePieces.{one_front, one_pieces}
use Rattle.pbn_deals.proofs.SomePieces.{pieced, bytes_of-pieces}
use Rattle.pbn_deals.proofs.TagParts.{split, split_nowhere, split_at}

-- ---- a line
abbrev IsSame : Kind → Kind → Bool → Bool → Type 0
IsSame kind kind' is_open is_open' = (kind ≡ kind') × (is_open ≡ is_open')

pub true_or_false : {b : Bool} → b ≡ true → b ≡ false → ⊥
true_or_false e f = let g : true ≡ false = sym e ∙ f in absurd (cc)

moved : {pieces : List Piece} {is_open : Bool} {rest rest' : List ℕ} → rest ≡ rest' → HasPieces false rest pieces is_open → HasPieces false rest' pieces is_open
moved {pieces} {is_open} e h = subst (λ t. HasPieces false t pieces is_open) e h

pub one_line : {is_open last last' : Bool} {line : List ℕ} {kind kind' : Kind} → LineIs is_open line kind last → LineIs is_open line kind' last' → IsSame kind kind' last last'
one_line (is_escaped_line e) (is_escaped_line e') = (refl, refl)
one_line (is_escaped_line e) (is_gap f b) = absurd (true_or_false e f)
one_line (is_escaped_line e) (is_of_game f b h) = absurd (true_or_false e f)
one_line (is_gap f b) (is_escaped_line e) = absurd (true_or_false e f)
one_line (is_gap f b) (is_gap f' b') = (refl, refl)
one_line (is_gap f b) (is_of_game f' b' h) = absurd (true_or_false b b')
one_line (is_of_game f b h) (is_escaped_line e) = absurd (true_or_false e f)
one_line (is_of_game f b h) (is_gap f' b') = absurd (true_or_false b' b)
one_line (is_of_game f b h) (is_of_game f' b' h') = let same = one_pieces h h' in (ap OfGame same.0, same.1)
one_line (is_in_comment l) (is_in_comment l') = (refl, refl)
one_line (is_in_comment l) (closes_comment t' e' l' h') = absurd (no_cut 125 _ t' _ e' l)
one_line (closes_comment t e l h) (is_in_comment l') = absurd (no_cut 125 _ t _ e l')
one_line (closes_comment t {pieces = pieces} e l h) (closes_comment t' e' l' h') =
    let f = sym e ∙ e' in
    let same = one_pieces h (moved (sym (one_cut 125 t t' _ _ f l l')) h') in
    (ap (λ x. OfGame (Comment (x ++ 125 ∷ []) ∷ pieces)) (one_front 125 t t' _ _ f l l') ∙ ap (λ p. OfGame (Comment (t' ++ 125 ∷ []) ∷ p)) same.0, same.1)

record Lined (is_open : Bool) (line : List ℕ) : Type 0 where
  pub kind : Kind
  pub last : Bool
  pub is : LineIs is_open line kind last

some_line : (is_open : Bool) (line : List ℕ) → Lined is_open line
some_line true line =
    elim (split 125 line) [
      | split_nowhere lacks ↦ record { kind = OfGame (Comment line ∷ []); last = true; is = is_in_comment lacks }
      | split_at text rest e lacks ↦
          let p = pieced false rest in
          record { kind = OfGame (Comment (text ++ 125 ∷ []) ∷ p.pieces); last = p.is_open; is = closes_comment text e lacks p.has }
    ]
some_line false line = go (is_escaped line) refl (is_blank_line line) refl where
  go : (e : Bool) → is_escaped line ≡ e → (b : Bool) → is_blank_line line ≡ b → Lined false line
  go true e b f = record { kind = Escaped line; last = false; is = is_escaped_line e }
  go false e true f = record { kind = Gap line; last = false; is = is_gap e f }
  go false e false f = let p = pieced false line in record { kind = OfGame p.pieces; last = p.is_open; is = is_of_game e f p.has }

pub body_of-line : {is_open last : Bool} {line : List ℕ} {kind : Kind} → LineIs is_open line kind last → body_of kind ≡ line
body_of-line (is_escaped_line e) = refl
body_of-line (is_gap f b) = refl
body_of-line (is_of_game f b h) = bytes_of-pieces h
body_of-line (is_in_comment {line} l) = append-nil line
body_of-line (closes_comment text {line} {rest} {pieces} e l h) =
    append_assoc text (125 ∷ []) (flat_map bytes_of pieces) ∙ (ap (λ x. text ++ 125 ∷ x) (bytes_of-pieces h) ∙ sym e)

-- ---- lines
pub one_row : {is_open last last' : Bool} {rows : List Row} {lines lines' : List Line} → AreLines is_open rows lines last → AreLines is_open rows lines' last' → (lines' ≡ lines) × (last' ≡ last)
one_row no_more no_more = (refl, refl)
one_row {last' = last'} (one_more {row = row} {rows} l r) (one_more {lines = lines'} l' r') =
    let same = one_line l l' in
    let more = one_row r (subst (λ o. AreLines o rows lines' last') (sym same.1) r') in
    (let k = same.0 in let m = more.0 in cc, more.1)

record Read (is_open : Bool) (rows : List Row) : Type 0 where
  pub lines : List Line
  pub last : Bool
  pub are : AreLines is_open rows lines last

some_lines : (is_open : Bool) (rows : List Row) → Read is_open rows
some_lines is_open [] = record { lines = []; last = is_open; are = no_more }
some_lines is_open (row ∷ rows) =
    let first = some_line is_open row.bytes in
    let more = some_lines first.last rows in
    record { lines = record { kind = first.kind; end = row.end } ∷ more.lines; last = more.last; are = one_more first.is more.are }

abbrev pub row_bytes : Row → List ℕ
row_bytes row = row.bytes ++ row.end

pub bytes_of-lines : {is_open last : Bool} {rows : List Row} {lines : List Line} → AreLines is_open rows lines last → flat_map line_bytes lines ≡ flat_map row_bytes rows
bytes_of-lines no_more = refl
bytes_of-lines (one_more {row = row} {rows} {kind} {lines} l r) =
    ap (λ x. (x ++ row.end) ++ flat_map line_bytes lines) (body_of-line l) ∙ ap (λ x. (row.bytes ++ row.end) ++ x) (bytes_of-lines r)

-- ---- rows
pub ended_part : (part : List ℕ) → without_return part ++ end_of part ≡ part ++ 10 ∷ []
ended_part [] = refl
ended_part (byte ∷ []) = go (eqb byte 13) refl where
  go : (b : Bool) → eqb byte 13 ≡ b → cond b [] (byte ∷ []) ++ cond b (13 ∷ 10 ∷ []) (10 ∷ []) ≡ byte ∷ 10 ∷ []
  go true e = ap (λ x. x ∷ 10 ∷ []) (sym (eqb-true byte 13 e))
  go false e = refl
ended_part (byte ∷ other ∷ bytes) = ap (λ x. byte ∷ x) (ended_part (other ∷ bytes))

-- the parts between line feeds, put together again
abbrev joined : List (List ℕ) → List ℕ
joined [] = []
joined (part ∷ []) = part
joined (part ∷ next ∷ parts) = part ++ 10 ∷ joined (next ∷ parts)

joined_more : (byte : ℕ) (part : List ℕ) (parts : List (List ℕ)) → joined ((byte ∷ part) ∷ parts) ≡ byte ∷ joined (part ∷ parts)
joined_more byte part [] = refl
joined_more byte part (next ∷ parts) = refl

pub split_nonempty : (text : List ℕ) → (first : List ℕ) × (rest : List (List ℕ)) × (slice_split is_line_feed text ≡ first ∷ rest)
split_nonempty [] = ([], [], refl)
split_nonempty (byte ∷ bytes) =
    elim (cases_Bool (is_line_feed byte)) [
      | inl t ↦ ([], slice_split is_line_feed bytes, rw t refl)
      | inr f ↦ let more = split_nonempty bytes in (byte ∷ more.0, more.1, rw (f, more.2) refl)
    ]

joined_split : (text : List ℕ) → joined (slice_split is_line_feed text) ≡ text
joined_split [] = refl
joined_split (byte ∷ bytes) =
    let more = split_nonempty bytes in
    let whole : joined (more.0 ∷ more.1) ≡ bytes = ap joined (sym more.2) ∙ joined_split bytes in
    elim (cases_Bool (is_line_feed byte)) [
      | inl t ↦
          let feed : byte ≡ 10 = eqb-true byte 10 t in
          let cut : slice_split is_line_feed (byte ∷ bytes) ≡ [] ∷ more.0 ∷ more.1 = rw (t, more.2) refl in
          ap joined cut ∙ (ap (λ x. 10 ∷ x) whole ∙ ap (λ x. x ∷ bytes) (sym feed))
      | inr f ↦
          let cut : slice_split is_line_feed (byte ∷ bytes) ≡ (byte ∷ more.0) ∷ more.1 = rw (f, more.2) refl in
          ap joined cut ∙ (joined_more byte more.0 more.1 ∙ ap (λ x. byte ∷ x) whole)
    ]

bytes_of-last : (part : List ℕ) → flat_map row_bytes (cond (is_word part) (record { bytes = part; end = [] } ∷ []) []) ≡ part
bytes_of-last [] = refl
bytes_of-last (byte ∷ bytes) = append-nil ((byte ∷ bytes) ++ []) ∙ append-nil (byte ∷ bytes)

bytes_of-parts : (parts : List (List ℕ)) → flat_map row_bytes (rows_of_parts parts) ≡ joined parts
bytes_of-parts [] = refl
bytes_of-parts (part ∷ []) = bytes_of-last part
bytes_of-parts (part ∷ next ∷ parts) =
    ap (λ x. x ++ flat_map row_bytes (rows_of_parts (next ∷ parts))) (ended_part part)
    ∙ (append_assoc part (10 ∷ []) (flat_map row_bytes (rows_of_parts (next ∷ parts)))
    ∙ ap (λ x. part ++ 10 ∷ x) (bytes_of-parts (next ∷ parts)))

pub bytes_of-rows : (text : List ℕ) → flat_map row_bytes (rows_of text) ≡ text
bytes_of-rows text = bytes_of-parts (slice_split is_line_feed text) ∙ joined_split text

-- ---- the byte order mark
pub marked : (text : List ℕ) → text ≡ mark_of text ++ without_mark text
marked [] = refl
marked (a ∷ []) = refl
marked (a ∷ b ∷ []) = refl
marked (a ∷ b ∷ c ∷ text) = go (eqb a 239 && (eqb b 187 && eqb c 191)) refl where
  go : (m : Bool) → (eqb a 239 && (eqb b 187 && eqb c 191)) ≡ m → a ∷ b ∷ c ∷ text ≡ cond m (239 ∷ 187 ∷ 191 ∷ []) [] ++ cond m text (a ∷ b ∷ c ∷ text)
  go true e =
      let one = and_parts (eqb a 239) (eqb b 187 && eqb c 191) e in
      let two = and_parts (eqb b 187) (eqb c 191) one.1 in
      let x : a ≡ 239 = eqb-true a 239 one.0 in
      let y : b ≡ 187 = eqb-true b 187 two.0 in
      let z : c ≡ 191 = eqb-true c 191 two.1 in
      cc
  go false e = refl

-- ---- a text
pub text_lines : (text : List ℕ) → AreTextLines text
text_lines text =
    let read = some_lines false (rows_of (without_mark text)) in
    record {
      lines = read.lines;
      is_open = read.last;
      read = read.are;
      whole = marked text ∙ ap (λ x. mark_of text ++ x) (sym (bytes_of-lines read.are ∙ bytes_of-rows (without_mark text)));
      one = λ others is_open' h. one_row read.are h;
    }
