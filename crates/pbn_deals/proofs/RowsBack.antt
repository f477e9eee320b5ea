-- Lines are read back from their bytes.
use Rattle.std.proofs.Common.{◌≡◌, ◌≢◌, ℕ, ◌≤◌, Bool, true, false, cond, List, [], ◌∷◌, ◌++◌, length, refl, sym, ◌∙◌, ap, subst, arith, append_assoc, append-nil, flat_map, map, inl, inr, ◌⊎◌, All}
use Rattle.std.specs.List.{slice_split}
use Rattle.std.proofs.lemmas.Bool.{ne_eqb}
use Rattle.std.proofs.lemmas.List.Elements.{All-weaker, All-push}
use Rattle.std.proofs.lemmas.List.Splits.{slice_split_none, slice_split_at, length-slice_split}
use Rattle.pbn_deals.specs.DealValue.{is_word}
use Rattle.pbn_deals.specs.Lines.{is_line_feed, without_return}
use Rattle.pbn_deals.specs.Reading.{Lacks}
use Rattle.pbn_deals.specs.Pieces.{Kind, body_of, LineIs, Row, ends_with_return, end_of, rows_of_parts, rows_of, Line, line_bytes, AreLines, no_more, one_more}
use Rattle.pbn_deals.proofs.LineParts.{Lined, last_line, more_lines, lined, without_return-lacks}
use Rattle.pbn_deals.proofs.LinesOfText.{body_of-line, row_bytes}

-- ---- rows as they can stand in a text
-- bytes and an end of their own
abbrev pub IsEnded : Row → Type 0
IsEnded row = Lacks 10 row.bytes × ((row.end ≡ 13 ∷ 10 ∷ []) ⊎ ((row.end ≡ 10 ∷ []) × (ends_with_return row.bytes ≡ false)))

-- bytes at the end of a text
abbrev pub IsUnended : Row → Type 0
IsUnended row = Lacks 10 row.bytes × (row.end ≡ []) × (is_word row.bytes ≡ true)

abbrev pub AreEnded : List Row → Type 0
AreEnded [] = Unit {0}
AreEnded (row ∷ rows) = (IsEnded row × AreEnded rows) ⊎ (IsUnended row × (rows ≡ []))

-- ---- from rows to their bytes and back
no_feed : (bytes : List ℕ) → Lacks 10 bytes → All (λ byte. is_line_feed byte ≡ false) bytes
no_feed bytes h = All-weaker (λ byte. byte ≢ 10) (λ byte. is_line_feed byte ≡ false) (λ byte ne. ne_eqb byte 10 ne) bytes h

rows-more : (part : List ℕ) (parts : List (List ℕ)) → 1 ≤ length parts → rows_of_parts (part ∷ parts) ≡ record { bytes = without_return part; end = end_of part } ∷ rows_of_parts parts
rows-more part [] h = absurd (omega arith)
rows-more part (next ∷ parts) h = refl

pub rows_of-cut : (part after : List ℕ) → Lacks 10 part → rows_of (part ++ 10 ∷ after) ≡ record { bytes = without_return part; end = end_of part } ∷ rows_of after
rows_of-cut part after h =
    ap rows_of_parts (slice_split_at is_line_feed part 10 after (no_feed part h) refl)
    ∙ rows-more part (slice_split is_line_feed after) (omega (arith, length-slice_split is_line_feed after))

pub rows_of-last : (part : List ℕ) → Lacks 10 part → rows_of part ≡ cond (is_word part) (record { bytes = part; end = [] } ∷ []) []
rows_of-last part h = ap rows_of_parts (slice_split_none is_line_feed part (no_feed part h))

pub return-kept : (bytes : List ℕ) → ends_with_return bytes ≡ false → without_return bytes ≡ bytes
return-kept [] e = refl
return-kept (byte ∷ []) e = ap (λ b. cond b [] (byte ∷ [])) e
return-kept (byte ∷ other ∷ bytes) e = ap (λ x. byte ∷ x) (return-kept (other ∷ bytes) e)

return-goes : (bytes : List ℕ) → (without_return (bytes ++ 13 ∷ []) ≡ bytes) × (ends_with_return (bytes ++ 13 ∷ []) ≡ true)
return-goes [] = (refl, refl)
return-goes (byte ∷ []) = (refl, refl)
return-goes (byte ∷ other ∷ bytes) = let more = return-goes (other ∷ bytes) in (ap (λ x. byte ∷ x) more.0, more.1)

row_is : (row : Row) (bytes end : List ℕ) → bytes ≡ row.bytes → end ≡ row.end → record { bytes = bytes; end = end } ≡ row
row_is row bytes end e f = ap (λ b. record { bytes = b; end = end }) e ∙ ap (λ x. record { bytes = row.bytes; end = x }) f

ended_first : (row : Row) (rest : List ℕ) → IsEnded row → rows_of (row_bytes row ++ rest) ≡ row ∷ rows_of rest
ended_first row rest (lacks, inl e) =
    let part = row.bytes ++ 13 ∷ [] in
    let goes = return-goes row.bytes in
    let whole : row_bytes row ++ rest ≡ part ++ 10 ∷ rest =
    ap (λ x. (row.bytes ++ x) ++ rest) e ∙ (append_assoc row.bytes (13 ∷ 10 ∷ []) rest ∙ sym (append_assoc row.bytes (13 ∷ []) (10 ∷ rest))) in
    let part_lacks : Lacks 10 part = All-push (λ other. other ≢ 10) row.bytes 13 lacks (λ f. absurd (omega arith)) in
    ap rows_of whole
    ∙ (rows_of-cut part rest part_lacks
    ∙ ap (λ r. r ∷ rows_of rest) (row_is row (without_return part) (end_of part) goes.0 (ap (λ b. cond b (13 ∷ 10 ∷ []) (10 ∷ [])) goes.1 ∙ sym e)))
ended_first row rest (lacks, inr (e, f)) =
    let whole : row_bytes row ++ rest ≡ row.bytes ++ 10 ∷ rest = ap (λ x. (row.bytes ++ x) ++ rest) e ∙ append_assoc row.bytes (10 ∷ []) rest in
    ap rows_of whole
    ∙ (rows_of-cut row.bytes rest lacks
    ∙ ap (λ r. r ∷ rows_of rest) (row_is row (without_return row.bytes) (end_of row.bytes) (return-kept row.bytes f) (ap (λ b. cond b (13 ∷ 10 ∷ []) (10 ∷ [])) f ∙ sym e)))

pub rows_back : (rows : List Row) → AreEnded rows → rows_of (flat_map row_bytes rows) ≡ rows
rows_back [] h = refl
rows_back (row ∷ rows) (inl (is, more)) = ended_first row (flat_map row_bytes rows) is ∙ ap (λ r. row ∷ r) (rows_back rows more)
rows_back (row ∷ rows) (inr ((lacks, e, some), none)) =
    let whole : flat_map row_bytes (row ∷ rows) ≡ row.bytes =
    ap (λ r. row_bytes row ++ flat_map row_bytes r) none ∙ (append-nil (row_bytes row) ∙ (ap (λ x. row.bytes ++ x) e ∙ append-nil row.bytes)) in
    ap rows_of whole
    ∙ (rows_of-last row.bytes lacks
    ∙ (ap (λ b. cond b (record { bytes = row.bytes; end = [] } ∷ []) []) some
    ∙ (ap (λ r. r ∷ []) (row_is row row.bytes [] refl (sym e)) ∙ ap (λ r. row ∷ r) (sym none))))

-- ---- the rows of a text
last_ended : (part : List ℕ) → Lacks 10 part → AreEnded (cond (is_word part) (record { bytes = part; end = [] } ∷ []) [])
last_ended [] h = tt
last_ended (byte ∷ bytes) h = inr ((h, refl, refl), refl)

part_ended : (part : List ℕ) → Lacks 10 part → IsEnded (record { bytes = without_return part; end = end_of part })
part_ended part h = (without_return-lacks 10 part h, go (ends_with_return part) refl) where
  go : (b : Bool) → ends_with_return part ≡ b → (end_of part ≡ 13 ∷ 10 ∷ []) ⊎ ((end_of part ≡ 10 ∷ []) × (ends_with_return (without_return part) ≡ false))
  go true e = inl (ap (λ b. cond b (13 ∷ 10 ∷ []) (10 ∷ [])) e)
  go false e = inr (ap (λ b. cond b (13 ∷ 10 ∷ []) (10 ∷ [])) e, ap ends_with_return (return-kept part e) ∙ e)

rows_ended : (text : List ℕ) → Lined text → AreEnded (rows_of text)
rows_ended text (last_line lacks) = subst AreEnded (sym (rows_of-last text lacks)) (last_ended text lacks)
rows_ended text (more_lines part after e lacks rest) =
    subst AreEnded (sym (ap rows_of e ∙ rows_of-cut part after lacks)) (inl (part_ended part lacks, rows_ended after rest))

pub text_ended : (text : List ℕ) → AreEnded (rows_of text)
text_ended text = rows_ended text (lined text)

-- ---- lines
abbrev pub row_of : Line → Row
row_of line = record { bytes = body_of line.kind; end = line.end }

-- lines as they follow one another, where the flags tell that a brace comment is open before the first, and behind the last
pub data Follow : Bool → List Line → Bool → Type 0 where
  follow_none : {is_open : Bool} → Follow is_open [] is_open
  follow_line :
      {is_open is_open' last : Bool} {bytes : List ℕ} {kind : Kind} {end : List ℕ} {lines : List Line} →
      LineIs is_open bytes kind is_open' → Follow is_open' lines last →
      Follow is_open (record { kind = kind; end = end } ∷ lines) last

pub rows_are : {is_open last : Bool} {rows : List Row} {lines : List Line} → AreLines is_open rows lines last → rows ≡ map row_of lines
rows_are no_more = refl
rows_are (one_more {row = row} {rows} {kind} {lines} l r) =
    ap (λ (first : Row). first ∷ rows) (sym (row_is row (body_of kind) row.end (body_of-line l) refl))
    ∙ ap (λ (more : List Row). record { bytes = body_of kind; end = row.end } ∷ more) (rows_are r)

pub follow : {is_open last : Bool} {rows : List Row} {lines : List Line} → AreLines is_open rows lines last → Follow is_open lines last
follow no_more = follow_none
follow (one_more l r) = follow_line l (follow r)

are_lines : {is_open last : Bool} {lines : List Line} → Follow is_open lines last → AreLines is_open (map row_of lines) lines last
are_lines follow_none = no_more
are_lines (follow_line {is_open} {is_open'} {kind = kind} l r) = one_more (subst (λ t. LineIs is_open t kind is_open') (sym (body_of-line l)) l) (are_lines r)

bytes_of-rows : (lines : List Line) → flat_map line_bytes lines ≡ flat_map row_bytes (map row_of lines)
bytes_of-rows [] = refl
bytes_of-rows (line ∷ lines) = ap (λ x. line_bytes line ++ x) (bytes_of-rows lines)

pub lines_back : {is_open last : Bool} (lines : List Line) → Follow is_open lines last → AreEnded (map row_of lines) → AreLines is_open (rows_of (flat_map line_bytes lines)) lines last
lines_back {is_open} {last} lines h ended =
    subst (λ r. AreLines is_open r lines last) (sym (ap rows_of (bytes_of-rows lines) ∙ rows_back (map row_of lines) ended)) (are_lines h)

pub follow_append : {is_open is_open' last : Bool} {lines others : List Line} → Follow is_open lines is_open' → Follow is_open' others last → Follow is_open (lines ++ others) last
follow_append follow_none r = r
follow_append (follow_line l more) r = follow_line l (follow_append more r)
