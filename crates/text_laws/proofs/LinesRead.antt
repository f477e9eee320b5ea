-- The boards of a text are those of its lines.
use Rattle.std.proofs.Common.{◌≡◌, ℕ, ◌+◌, Bool, true, false, cond, List, [], ◌∷◌, ◌++◌, length, Option, Some, None, Result, Ok, Err, is_some, refl, sym, ◌∙◌, ap, subst, append-nil}
use Rattle.std.specs.List.{slice_split}
use Rattle.pbn_deals.specs.declared.boards.Board.{Board}
use Rattle.pbn_deals.specs.declared.faults.PbnFault.{PbnFault}
use Rattle.pbn_deals.specs.DealValue.{is_word}
use Rattle.pbn_deals.specs.Games.{Tags, no_tags, boards_of}
use Rattle.pbn_deals.specs.Lines.{is_line_feed, without_mark, ended, lines_of, is_escaped, is_blank_line}
use Rattle.pbn_deals.specs.Reading.{Lacks, Answers, no_line, unclosed, escaped_line, blank_line, whole_line, opening_line, faulty_line, inner_line, closing_line, reopening_line, faulty_closing_line, put_boards}
use Rattle.pbn_deals.specs.Pieces.{Piece, HasPieces, Gap, Escaped, OfGame, LineIs, is_escaped_line, is_gap, is_of_game, is_in_comment, closes_comment, Row, rows_of_parts, rows_of, Line, AreLines, no_more, one_more}
use Rattle.pbn_deals.specs.LineBoards.{AddsPieces, adds_nothing, adds_silent, HaveBoards, at_text_end, behind_gap, behind_escaped, behind_line}
use Rattle.text_laws.proofs.OneAnswer.{one_answer}
use Rattle.text_laws.proofs.PiecesRead.{reads, scans_pieces}
use Rattle.pbn_deals.proofs.LinesOfText.{true_or_false}
use Rattle.text_laws.specs.LineBoards.{AreBoardsOfLines}

-- ---- the rows of a text are its lines; behind a last line feed stands one line more, without bytes
abbrev Spell : List Row → List (List ℕ) → Type 0
Spell [] [] = Unit {0}
Spell [] (line ∷ lines) = (line ≡ []) × (lines ≡ [])
Spell (row ∷ rows) [] = ⊥
Spell (row ∷ rows) (line ∷ lines) = (row.bytes ≡ line) × Spell rows lines

spell_last : (part : List ℕ) → Spell (cond (is_word part) (record { bytes = part; end = [] } ∷ []) []) (part ∷ [])
spell_last [] = (refl, refl)
spell_last (byte ∷ bytes) = (refl, tt)

spell_parts : (parts : List (List ℕ)) → Spell (rows_of_parts parts) (ended parts)
spell_parts [] = tt
spell_parts (part ∷ []) = spell_last part
spell_parts (part ∷ next ∷ parts) = (refl, spell_parts (next ∷ parts))

spell : (text : List ℕ) → Spell (rows_of text) (lines_of text)
spell text = spell_parts (slice_split is_line_feed text)

-- ---- from the answer for lines to the lines
record Found (is_open : Bool) (count : ℕ) (tags : Tags) (rows : List Row) (boards : List Board) : Type 0 where
  pub lines : List Line
  pub are : AreLines is_open rows lines false
  pub have : HaveBoards count tags lines boards

abbrev FoundIn : Bool → ℕ → Tags → List Row → Result (List Board) PbnFault → Type 0
FoundIn is_open count tags rows (Ok boards) = Found is_open count tags rows boards
FoundIn is_open count tags rows (Err fault) = Unit {0}

-- a line of a game, and what follows it
line_found : {is_open is_open' : Bool} {count : ℕ} {tags tags' : Tags} {pieces : List Piece} (row : Row) (rows : List Row) (answer : Result (List Board) PbnFault) → LineIs is_open row.bytes (OfGame pieces) is_open' → AddsPieces count tags pieces tags' → FoundIn is_open' count tags' rows answer → FoundIn is_open count tags (row ∷ rows) answer
line_found row rows (Ok boards) l a found = record { lines = record { kind = OfGame _; end = row.end } ∷ found.lines; are = one_more l found.are; have = behind_line a found.have }
line_found row rows (Err fault) l a found = tt

escaped_found : (count : ℕ) (tags : Tags) (row : Row) (rows : List Row) (answer : Result (List Board) PbnFault) → is_escaped row.bytes ≡ true → FoundIn false count tags rows answer → FoundIn false count tags (row ∷ rows) answer
escaped_found count tags row rows (Ok boards) e found = record { lines = record { kind = Escaped row.bytes; end = row.end } ∷ found.lines; are = one_more (is_escaped_line e) found.are; have = behind_escaped found.have }
escaped_found count tags row rows (Err fault) e found = tt

gap_found : (count : ℕ) (tags : Tags) (row : Row) (rows : List Row) (answer : Result (List Board) PbnFault) → is_escaped row.bytes ≡ false → is_blank_line row.bytes ≡ true → FoundIn false (count + length (boards_of tags)) no_tags rows answer → FoundIn false count tags (row ∷ rows) (put_boards (boards_of tags) answer)
gap_found count tags row rows (Ok boards) e b found = record { lines = record { kind = Gap row.bytes; end = row.end } ∷ found.lines; are = one_more (is_gap e b) found.are; have = behind_gap found.have }
gap_found count tags row rows (Err fault) e b found = tt

-- the line without bytes at the end
last_found : {number : ℕ} (count : ℕ) (tags : Tags) {lines : List (List ℕ)} (answer : Result (List Board) PbnFault) → lines ≡ [] → Answers number None no_tags (count + length (boards_of tags)) lines answer → FoundIn false count tags [] (put_boards (boards_of tags) answer)
last_found {number} count tags {lines} answer e r =
    let none : answer ≡ Ok [] = one_answer (subst (λ l. Answers number None no_tags (count + length (boards_of tags)) l answer) e r) no_line in
    let same : Ok (boards_of tags) ≡ put_boards (boards_of tags) answer = ap Ok (sym (append-nil (boards_of tags))) ∙ sym (ap (put_boards (boards_of tags)) none) in
    subst (λ a. FoundIn false count tags [] a) same (record { lines = []; are = no_more; have = at_text_end })

no_bytes : (text rest : List ℕ) → [] ≡ text ++ 125 ∷ rest → ⊥
no_bytes [] rest e = absurd (cc)
no_bytes (byte ∷ text) rest e = absurd (cc)

spell_none : (lines : List (List ℕ)) → lines ≡ [] → Spell [] lines
spell_none [] e = tt
spell_none (line ∷ lines) e = absurd (cc)

found : {number count : ℕ} {opened : Option ℕ} {tags : Tags} {lines : List (List ℕ)} {answer : Result (List Board) PbnFault} → Answers number opened tags count lines answer → (rows : List Row) → Spell rows lines → FoundIn (is_some opened) count tags rows answer
found no_line [] s = record { lines = []; are = no_more; have = at_text_end }
found no_line (row ∷ rows) s = absurd s
found unclosed rows s = tt
found (escaped_line e r) [] s = absurd (true_or_false (subst (λ l. is_escaped l ≡ true) s.0 e) refl)
found {count = count} {tags = tags} {answer = answer} (escaped_line e r) (row ∷ rows) s = escaped_found count tags row rows answer (subst (λ l. is_escaped l ≡ true) (sym s.0) e) (found r rows s.1)
found {count = count} {tags = tags} (blank_line {answer = answer} e b r) [] s = last_found count tags answer s.1 r
found {count = count} {tags = tags} (blank_line {answer = answer} e b r) (row ∷ rows) s =
    gap_found count tags row rows answer (subst (λ l. is_escaped l ≡ false) (sym s.0) e) (subst (λ l. is_blank_line l ≡ true) (sym s.0) b) (found r rows s.1)
found (whole_line e b q r) [] s = absurd (true_or_false refl (subst (λ l. is_blank_line l ≡ false) s.0 b))
found {number} {count} {answer = answer} (whole_line {line = line} e b q r) (row ∷ rows) s =
    let line_read = reads number count q in
    let is = is_of_game (subst (λ l. is_escaped l ≡ false) (sym s.0) e) (subst (λ l. is_blank_line l ≡ false) (sym s.0) b) (subst (λ l. HasPieces false l line_read.pieces false) (sym s.0) line_read.has) in
    line_found row rows answer is line_read.adds (found r rows s.1)
found (opening_line e b q r) [] s = absurd (true_or_false refl (subst (λ l. is_blank_line l ≡ false) s.0 b))
found {number} {count} {answer = answer} (opening_line {line = line} e b q r) (row ∷ rows) s =
    let line_read = reads number count q in
    let is = is_of_game (subst (λ l. is_escaped l ≡ false) (sym s.0) e) (subst (λ l. is_blank_line l ≡ false) (sym s.0) b) (subst (λ l. HasPieces false l line_read.pieces true) (sym s.0) line_read.has) in
    line_found row rows answer is line_read.adds (found r rows s.1)
found (faulty_line e b q) rows s = tt
found (inner_line {lines = lines} l r) [] s = found r [] (spell_none lines s.1)
found {answer = answer} (inner_line {line = line} l r) (row ∷ rows) s =
    line_found row rows answer (is_in_comment (subst (λ l. Lacks 125 l) (sym s.0) l)) (adds_silent refl adds_nothing) (found r rows s.1)
found (closing_line text {rest = rest} e l q r) [] s = absurd (no_bytes text rest (sym s.0 ∙ e))
found {number} {count} {answer = answer} (closing_line text e l q r) (row ∷ rows) s =
    let line_read = reads number count q in
    line_found row rows answer (closes_comment text (s.0 ∙ e) l line_read.has) (adds_silent refl line_read.adds) (found r rows s.1)
found (reopening_line text {rest = rest} e l q r) [] s = absurd (no_bytes text rest (sym s.0 ∙ e))
found {number} {count} {answer = answer} (reopening_line text e l q r) (row ∷ rows) s =
    let line_read = reads number count q in
    line_found row rows answer (closes_comment text (s.0 ∙ e) l line_read.has) (adds_silent refl line_read.adds) (found r rows s.1)
found (faulty_closing_line text e l q) rows s = tt

-- ---- from the lines to the answer for them
says_last : {number count : ℕ} {tags : Tags} (texts : List (List ℕ)) → Spell [] texts → Answers number None tags count texts (Ok (boards_of tags))
says_last [] s = no_line
says_last {number} {count} {tags} (text ∷ texts) s =
    let behind : Answers number None tags count ([] ∷ []) (Ok (boards_of tags ++ [])) = blank_line refl refl no_line in
    let here = subst (λ b. Answers number None tags count ([] ∷ []) (Ok b)) (append-nil (boards_of tags)) behind in
    subst (λ (t : List (List ℕ)). Answers number None tags count t (Ok (boards_of tags))) (let e = s.0 in let f = s.1 in cc) here

no_opened : (opened : Option ℕ) → is_some opened ≡ false → None ≡ opened
no_opened None e = refl
no_opened (Some opened) e = absurd (cc)

module _ (text : List ℕ) (texts : List (List ℕ)) (number : ℕ) (count : ℕ) (boards : List Board) where
  -- a line outside comments, from its first byte on
  game_says : {tags tags' : Tags} {pieces : List Piece} (is_open : Bool) → is_escaped text ≡ false → is_blank_line text ≡ false → HasPieces false text pieces is_open → AddsPieces count tags pieces tags' → ((opened : Option ℕ) → is_some opened ≡ is_open → Answers (number + 1) opened tags' count texts (Ok boards)) → Answers number None tags count (text ∷ texts) (Ok boards)
  game_says false e b h a more = whole_line e b (scans_pieces number count h a) (more None refl)
  game_says true e b h a more = opening_line e b (scans_pieces number count h a) (more (Some number) refl)

  -- a line in which a comment is closed
  closed_says : {opened : ℕ} {tags tags' : Tags} {pieces : List Piece} (front rest : List ℕ) (is_open : Bool) → text ≡ front ++ 125 ∷ rest → Lacks 125 front → HasPieces false rest pieces is_open → AddsPieces count tags pieces tags' → ((opened' : Option ℕ) → is_some opened' ≡ is_open → Answers (number + 1) opened' tags' count texts (Ok boards)) → Answers number (Some opened) tags count (text ∷ texts) (Ok boards)
  closed_says front rest false e l h a more = closing_line front e l (scans_pieces number count h a) (more None refl)
  closed_says front rest true e l h a more = reopening_line front e l (scans_pieces number count h a) (more (Some number) refl)

-- what a line and those behind it say
says : {is_open : Bool} {count : ℕ} {tags : Tags} {rows : List Row} {lines : List Line} {boards : List Board} → AreLines is_open rows lines false → HaveBoards count tags lines boards → (texts : List (List ℕ)) → Spell rows texts → (number : ℕ) (opened : Option ℕ) → is_some opened ≡ is_open → Answers number opened tags count texts (Ok boards)
says {count = count} {tags} no_more at_text_end texts s number opened o = subst (λ p. Answers number p tags count texts (Ok (boards_of tags))) (no_opened opened o) (says_last texts s)
says (one_more l r) h [] s number opened o = absurd s
says (one_more (is_escaped_line e) r) (behind_escaped h) (text ∷ texts) s number None o = escaped_line (subst (λ l. is_escaped l ≡ true) s.0 e) (says r h texts s.1 (number + 1) None refl)
says (one_more (is_escaped_line e) r) (behind_escaped h) (text ∷ texts) s number (Some opened) o = absurd (cc)
says (one_more (is_gap e b) r) (behind_gap h) (text ∷ texts) s number None o = blank_line (subst (λ l. is_escaped l ≡ false) s.0 e) (subst (λ l. is_blank_line l ≡ true) s.0 b) (says r h texts s.1 (number + 1) None refl)
says (one_more (is_gap e b) r) (behind_gap h) (text ∷ texts) s number (Some opened) o = absurd (cc)
says {count = count} {boards = boards} (one_more (is_of_game {pieces = pieces} {is_open} e b p) r) (behind_line a h) (text ∷ texts) s number None o =
    game_says text texts number count boards is_open (subst (λ l. is_escaped l ≡ false) s.0 e) (subst (λ l. is_blank_line l ≡ false) s.0 b) (subst (λ l. HasPieces false l pieces is_open) s.0 p) a (λ opened' o'. says r h texts s.1 (number + 1) opened' o')
says (one_more (is_of_game e b p) r) (behind_line a h) (text ∷ texts) s number (Some opened) o = absurd (cc)
says (one_more (is_in_comment l) r) (behind_line (adds_silent i adds_nothing) h) (text ∷ texts) s number (Some opened) o = inner_line (subst (λ t. Lacks 125 t) s.0 l) (says r h texts s.1 (number + 1) (Some opened) refl)
says (one_more (is_in_comment l) r) (behind_line a h) (text ∷ texts) s number None o = absurd (cc)
says {count = count} {boards = boards} (one_more (closes_comment front {rest = rest} {is_open = is_open} e l p) r) (behind_line (adds_silent i a) h) (text ∷ texts) s number (Some opened) o =
    closed_says text texts number count boards front rest is_open (sym s.0 ∙ e) l p a (λ opened' o'. says r h texts s.1 (number + 1) opened' o')
says (one_more (closes_comment front e l p) r) (behind_line a h) (text ∷ texts) s number None o = absurd (cc)

pub boards_of_lines : AreBoardsOfLines
boards_of_lines = record {
  said = λ text boards answer. let it = found answer (rows_of (without_mark text)) (spell (without_mark text)) in (it.lines, it.are, it.have);
  says = λ text lines boards has have. says has have (lines_of (without_mark text)) (spell (without_mark text)) 1 None refl;
}
