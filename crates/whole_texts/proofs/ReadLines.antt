-- A text that was read as boards is of lines: no comment is open at its end.
use Rattle.std.proofs.Common.{◌≡◌, ℕ, Bool, true, false, cond, List, [], ◌∷◌, ◌++◌, Option, Result, Ok, Err, is_some, refl, sym, ◌∙◌, ap, subst}
use Rattle.std.specs.List.{slice_split}
use Rattle.pbn_deals.specs.declared.boards.Board.{Board}
use Rattle.pbn_deals.specs.declared.faults.PbnFault.{PbnFault}
use Rattle.pbn_deals.specs.DealValue.{is_word}
use Rattle.pbn_deals.specs.Games.{Tags}
use Rattle.pbn_deals.specs.Lines.{is_line_feed, without_mark, ended, is_escaped, is_blank_line}
use Rattle.pbn_deals.specs.Reading.{Lacks, IsSpace, meaning_of, LineEnd, Ends, Stops, Scans, at_end, at_blank, at_line_comment, at_comment, at_open_comment, at_tag, at_faulty_tag, at_no_tag, at_quoted, at_unended, at_plain, at_bracket, Answers, no_line, unclosed, escaped_line, blank_line, whole_line, opening_line, faulty_line, inner_line, closing_line, reopening_line, faulty_closing_line, put_boards, TextAnswers}
use Rattle.pbn_deals.specs.Pieces.{Piece, Space, Comment, Pair, Data, is_data, HasPieces, at_line_end, space, section_data, quoted_text, unended_text, line_comment, brace_comment, open_comment, tag_pair, Kind, OfGame, LineIs, is_escaped_line, is_gap, is_of_game, is_in_comment, closes_comment, Row, rows_of_parts, Line, AreLines, no_more, one_more}
use Rattle.pbn_deals.proofs.SomePieces.{inside_of}
use Rattle.whole_texts.specs.WholeText.{IsOfLines}

-- ---- the pieces of a line that is read to its end
abbrev PiecesTo : Bool → List ℕ → LineEnd → Type 0
PiecesTo in_data line (Ends tags is_open) = (pieces : List Piece) × HasPieces in_data line pieces is_open
PiecesTo in_data line (Stops fault) = Unit {0}

ahead : {flag in_data : Bool} {rest line : List ℕ} (piece : Piece) (last : LineEnd) → ((pieces : List Piece) (is_open : Bool) → HasPieces flag rest pieces is_open → HasPieces in_data line (piece ∷ pieces) is_open) → PiecesTo flag rest last → PiecesTo in_data line last
ahead piece (Ends tags is_open) has r = (piece ∷ r.0, has r.0 is_open r.1)
ahead piece (Stops fault) has r = tt

blank_ahead : (in_data : Bool) (byte : ℕ) (rest : List ℕ) (last : LineEnd) → meaning_of byte ≡ IsSpace → PiecesTo in_data rest last → PiecesTo in_data (byte ∷ rest) last
blank_ahead true byte rest last m r = ahead (Data (byte ∷ [])) last (λ pieces is_open h. section_data (ap (is_data true) m) h) r
blank_ahead false byte rest last m r = ahead (Space byte) last (λ pieces is_open h. space m h) r

pieces_to : {number count : ℕ} {in_data : Bool} {tags : Tags} {line : List ℕ} {last : LineEnd} → Scans number count in_data tags line last → PiecesTo in_data line last
pieces_to at_end = ([], at_line_end)
pieces_to {in_data = in_data} {last = last} (at_blank {byte = byte} {rest} m r) = blank_ahead in_data byte rest last m (pieces_to r)
pieces_to (at_line_comment {byte = byte} {rest} m) = (Comment (byte ∷ rest) ∷ [], line_comment m)
pieces_to {last = last} (at_comment {byte = byte} text m e l r) = ahead (Comment (byte ∷ (text ++ 125 ∷ []))) last (λ pieces is_open h. brace_comment text m e l h) (pieces_to r)
pieces_to (at_open_comment {byte = byte} {rest} m l) = (Comment (byte ∷ rest) ∷ [], open_comment m l)
pieces_to {last = last} (at_tag {byte = byte} {rest} {tag} m e t r) =
    let inside = inside_of rest tag e in
    ahead (Pair tag.name tag.value (byte ∷ inside.0)) last (λ pieces is_open h. tag_pair inside.0 m e inside.1 h) (pieces_to r)
pieces_to (at_faulty_tag m e t) = tt
pieces_to (at_no_tag m e) = tt
pieces_to {last = last} (at_quoted {byte = byte} text m e l r) = ahead (Data (byte ∷ (text ++ 34 ∷ []))) last (λ pieces is_open h. quoted_text text m e l h) (pieces_to r)
pieces_to (at_unended {byte = byte} {rest} m l) = (Data (byte ∷ rest) ∷ [], unended_text m l)
pieces_to {in_data = in_data} {last = last} (at_plain {byte = byte} m r) = ahead (Data (byte ∷ [])) last (λ pieces is_open h. section_data (ap (is_data in_data) m) h) (pieces_to r)
pieces_to {last = last} (at_bracket {byte = byte} m r) = ahead (Data (byte ∷ [])) last (λ pieces is_open h. section_data (ap (is_data true) m) h) (pieces_to r)

-- ---- the rows of a text are its lines; behind a last line feed stands one line more, without bytes
abbrev Spell : List Row → List (List ℕ) → Type 0
Spell [] [] = Unit {0}
Spell [] (line ∷ lines) = (line ≡ []) × (lines ≡ [])
Spell (row ∷ rows) [] = ⊥
Spell (row ∷ rows) (line ∷ lines) = (row.bytes ≡ line) × Spell rows lines

spell_last : (part : List ℕ) → Spell (cond (is_word part) (record { bytes = part; end = [] } ∷ []) []) (part ∷ [])
spell_last [] = (refl, refl)
spell_last (byte ∷ bytes) = (refl, tt)

spell : (parts : List (List ℕ)) → Spell (rows_of_parts parts) (ended parts)
spell [] = tt
spell (part ∷ []) = spell_last part
spell (part ∷ next ∷ parts) = (refl, spell (next ∷ parts))

spell_none : (lines : List (List ℕ)) → lines ≡ [] → Spell [] lines
spell_none [] e = tt
spell_none (line ∷ lines) e = absurd (cc)

-- ---- from the answer for lines to the lines
abbrev Found : Bool → List Row → Result (List Board) PbnFault → Type 0
Found is_open rows (Ok boards) = (lines : List Line) × AreLines is_open rows lines false
Found is_open rows (Err fault) = Unit {0}

none_found : (answer : Result (List Board) PbnFault) → Found false [] answer
none_found (Ok boards) = ([], no_more)
none_found (Err fault) = tt

line_found : {is_open is_open' : Bool} {kind : Kind} (row : Row) (rows : List Row) (answer : Result (List Board) PbnFault) → LineIs is_open row.bytes kind is_open' → Found is_open' rows answer → Found is_open (row ∷ rows) answer
line_found {kind = kind} row rows (Ok boards) l found = (record { kind = kind; end = row.end } ∷ found.0, one_more l found.1)
line_found row rows (Err fault) l found = tt

behind_boards : (rows : List Row) (boards : List Board) (answer : Result (List Board) PbnFault) → Found false rows answer → Found false rows (put_boards boards answer)
behind_boards rows boards (Ok others) found = found
behind_boards rows boards (Err fault) found = tt

of_game : {line : List ℕ} (row : Row) {pieces : List Piece} {is_open : Bool} → row.bytes ≡ line → is_escaped line ≡ false → is_blank_line line ≡ false → HasPieces false line pieces is_open → LineIs false row.bytes (OfGame pieces) is_open
of_game row {pieces} {is_open} s e b h = subst (λ l. LineIs false l (OfGame pieces) is_open) (sym s) (is_of_game e b h)

no_bytes : (text rest : List ℕ) → [] ≡ text ++ 125 ∷ rest → ⊥
no_bytes [] rest e = absurd (cc)
no_bytes (byte ∷ text) rest e = absurd (cc)

found : {number count : ℕ} {opened : Option ℕ} {tags : Tags} {lines : List (List ℕ)} {answer : Result (List Board) PbnFault} → Answers number opened tags count lines answer → (rows : List Row) → Spell rows lines → Found (is_some opened) rows answer
found no_line [] s = ([], no_more)
found no_line (row ∷ rows) s = absurd s
found unclosed rows s = tt
found {answer = answer} (escaped_line e r) [] s = none_found answer
found {answer = answer} (escaped_line e r) (row ∷ rows) s = line_found row rows answer (is_escaped_line (subst (λ l. is_escaped l ≡ true) (sym s.0) e)) (found r rows s.1)
found {answer = answer} (blank_line e b r) [] s = none_found answer
found (blank_line {answer = answer} e b r) (row ∷ rows) s =
    let is = is_gap (subst (λ l. is_escaped l ≡ false) (sym s.0) e) (subst (λ l. is_blank_line l ≡ true) (sym s.0) b) in
    line_found row rows (put_boards _ answer) is (behind_boards rows _ answer (found r rows s.1))
found {answer = answer} (whole_line e b q r) [] s = none_found answer
found {answer = answer} (whole_line e b q r) (row ∷ rows) s = line_found row rows answer (of_game row s.0 e b (pieces_to q).1) (found r rows s.1)
found {answer = answer} (opening_line e b q r) [] s = none_found answer
found {answer = answer} (opening_line e b q r) (row ∷ rows) s = line_found row rows answer (of_game row s.0 e b (pieces_to q).1) (found r rows s.1)
found (faulty_line e b q) rows s = tt
found (inner_line {lines = lines} l r) [] s = found r [] (spell_none lines s.1)
found {answer = answer} (inner_line l r) (row ∷ rows) s = line_found row rows answer (is_in_comment (subst (λ t. Lacks 125 t) (sym s.0) l)) (found r rows s.1)
found (closing_line text {rest = rest} e l q r) [] s = absurd (no_bytes text rest (sym s.0 ∙ e))
found {answer = answer} (closing_line text e l q r) (row ∷ rows) s = line_found row rows answer (closes_comment text (s.0 ∙ e) l (pieces_to q).1) (found r rows s.1)
found (reopening_line text {rest = rest} e l q r) [] s = absurd (no_bytes text rest (sym s.0 ∙ e))
found {answer = answer} (reopening_line text e l q r) (row ∷ rows) s = line_found row rows answer (closes_comment text (s.0 ∙ e) l (pieces_to q).1) (found r rows s.1)
found (faulty_closing_line text e l q) rows s = tt

pub of_lines : (text : List ℕ) (boards : List Board) → TextAnswers text (Ok boards) → IsOfLines text
of_lines text boards answer = let parts = slice_split is_line_feed (without_mark text) in found answer (rows_of_parts parts) (spell parts)
