-- The lines of a page, block by block.
use Rattle.std.proofs.Common.{◌≡◌, ℕ, ◌≤◌, Bool, true, false, cond, List, [], ◌∷◌, ◌++◌, Option, None, Some, refl, ◌∙◌, ap, append_assoc}
use Rattle.std.specs.Prelude.{codes, IfSome}
use Rattle.std.specs.List.{AllByRecursion, flat_map, enumerate_from}
use Rattle.std.proofs.lemmas.List.Elements.{recursion_from_All, All-from_recursion}
use Rattle.cards.specs.declared.seats.Seat.{Seat}
use Rattle.cards.specs.declared.suits.Trump.{Trump}
use Rattle.pbn_deals.specs.declared.boards.Board.{Board}
use Rattle.pbn_deals.specs.Lines.{lines_of}
use Rattle.pbn_deals.specs.Printable.{IsPrintable}
use Rattle.tables.specs.ConditionTags.{condition_bodies, conditions_text}
use Rattle.tables.specs.ParText.{tag_text, body_line, par_bodies}
use Rattle.tables.specs.TablesText.{Results, Printed, section_text, line_feed, deal_value, row_text, result_row, entry_row, rows_text, entries, is_complete, published_count, table_tag, incomplete_text, table_text, board_text, numbered_text, tables_text}
use Rattle.text_laws.proofs.LinesBack.{lines_of-line}
use Rattle.text_laws.proofs.BoardsBack.{IsIdle, row-idle, line_more, table_tag-idle, incomplete-idle, published_count-le, section_text-is, conditions-idle, feedless, tag-line, IsReadable, board_text-is, first_line, first_line-is}

-- each known result is at most 13
abbrev pub AreSmall : Results → Type 0
AreSmall results = (declarer : Seat) (denomination : Trump) → IfSome (results declarer denomination) (λ tricks. tricks ≤ 13)

-- the lines of the rows
abbrev pub result_lines : Seat → Trump → Option ℕ → List (List ℕ)
result_lines declarer denomination (Some tricks) = row_text declarer denomination tricks ∷ []
result_lines declarer denomination None = []

abbrev pub entry_lines : Results → Seat × Trump → List (List ℕ)
entry_lines results entry = result_lines entry.0 entry.1 (results entry.0 entry.1)

pub rows-lines : (results : Results) (some : List (Seat × Trump)) (rest : List ℕ) → AreSmall results → lines_of (flat_map (entry_row line_feed results) some ++ rest) ≡ flat_map (entry_lines results) some ++ lines_of rest
rows-lines results [] rest small = refl
rows-lines results (entry ∷ some) rest small =
    go (results entry.0 entry.1) (small entry.0 entry.1) (rows-lines results some rest small)
  where
    go : (result : Option ℕ) → IfSome result (λ tricks. tricks ≤ 13) → lines_of (flat_map (entry_row line_feed results) some ++ rest) ≡ flat_map (entry_lines results) some ++ lines_of rest → lines_of ((result_row line_feed entry.0 entry.1 result ++ flat_map (entry_row line_feed results) some) ++ rest) ≡ (result_lines entry.0 entry.1 result ++ flat_map (entry_lines results) some) ++ lines_of rest
    go None h after = after
    go (Some tricks) h after =
        let row = row_text entry.0 entry.1 tricks in
        let more = flat_map (entry_row line_feed results) some ++ rest in
        ap lines_of (line_more row (flat_map (entry_row line_feed results) some) rest)
        ∙ (lines_of-line row more (row-idle entry.0 entry.1 tricks h).as_line ∙ ap (λ (lines : List (List ℕ)). row ∷ lines) after)

-- the lines of a table
table_text-at : (results : Results) (b : Bool) → is_complete results ≡ b → table_text line_feed results ≡ cond b ((table_tag ++ line_feed) ++ rows_text line_feed results) (incomplete_text (published_count results) ++ line_feed)
unfolding table_text
table_text-at results b e = ap (λ (c : Bool). cond c ((table_tag ++ line_feed) ++ rows_text line_feed results) (incomplete_text (published_count results) ++ line_feed)) e

pub complete-lines : (results : Results) (rest : List ℕ) → AreSmall results → is_complete results ≡ true → lines_of (table_text line_feed results ++ rest) ≡ table_tag ∷ (flat_map (entry_lines results) entries ++ lines_of rest)
unfolding rows_text
complete-lines results rest small e =
    let rows = flat_map (entry_row line_feed results) entries in
    ap lines_of (ap (λ (l : List ℕ). l ++ rest) (table_text-at results true e) ∙ line_more table_tag rows rest)
    ∙ (lines_of-line table_tag (rows ++ rest) table_tag-idle.as_line
    ∙ ap (λ (lines : List (List ℕ)). table_tag ∷ lines) (rows-lines results entries rest small))

pub incomplete-lines : (results : Results) (rest : List ℕ) → is_complete results ≡ false → lines_of (table_text line_feed results ++ rest) ≡ incomplete_text (published_count results) ∷ lines_of rest
incomplete-lines results rest e =
    let count = published_count results in
    ap lines_of (ap (λ (l : List ℕ). l ++ rest) (table_text-at results false e) ∙ append_assoc (incomplete_text count) line_feed rest)
    ∙ lines_of-line (incomplete_text count) rest (incomplete-idle count (published_count-le results)).as_line

-- the lines of par
bodies-lines : (bodies : List (List ℕ)) (rest : List ℕ) → AllByRecursion IsIdle bodies → lines_of (flat_map (body_line line_feed) bodies ++ rest) ≡ bodies ++ lines_of rest
bodies-lines [] rest idle = refl
bodies-lines (body ∷ bodies) rest idle =
    let more = flat_map (body_line line_feed) bodies in
    ap lines_of (line_more body more rest)
    ∙ (lines_of-line body (more ++ rest) idle.0.as_line ∙ ap (λ (lines : List (List ℕ)). body ∷ lines) (bodies-lines bodies rest idle.1))

pub section-lines : (printed : Printed) (rest : List ℕ) → AllByRecursion IsIdle (par_bodies printed.par) → lines_of (section_text line_feed printed ++ rest) ≡ par_bodies printed.par ++ lines_of (table_text line_feed printed.results ++ rest)
section-lines printed rest idle = ap lines_of (section_text-is printed rest) ∙ bodies-lines (par_bodies printed.par) (table_text line_feed printed.results ++ rest) idle

-- an empty line
pub empty-line : (rest : List ℕ) → lines_of (10 ∷ rest) ≡ [] ∷ lines_of rest
empty-line rest = lines_of-line [] rest (record { no_feed = All-from_recursion _ [] tt; no_return = refl })

-- the lines of a block
pub board-lines : (board : Board) (printed : Printed) (rest : List ℕ) → IsPrintable board → IsReadable board.deal → lines_of (board_text board printed ++ rest) ≡ tag_text (codes "Board") board.name ∷ tag_text (codes "Deal") (deal_value board.deal) ∷ (condition_bodies printed.par ++ lines_of (section_text line_feed printed ++ 10 ∷ rest))
unfolding conditions_text
board-lines board printed rest printable readable =
    let name = board.name in
    let value = deal_value board.deal in
    let board_line = tag_text (codes "Board") name in
    let deal_line = tag_text (codes "Deal") value in
    let lower = section_text line_feed printed ++ 10 ∷ rest in
    let below = conditions_text printed.par ++ lower in
    let feed = feedless name (recursion_from_All _ name printable.one_line) in
    ap lines_of (board_text-is board printed rest)
    ∙ (lines_of-line board_line (deal_line ++ 10 ∷ below) (tag-line (codes "Board") name (refl, (refl, (refl, (refl, (refl, tt))))) feed)
    ∙ ap (λ (lines : List (List ℕ)). board_line ∷ lines)
    (lines_of-line deal_line below (tag-line (codes "Deal") value (refl, (refl, (refl, (refl, tt)))) readable.one_line)
    ∙ ap (λ (lines : List (List ℕ)). deal_line ∷ lines) (bodies-lines (condition_bodies printed.par) lower (conditions-idle printed.par))))

-- the lines of the page
pub page-lines : (boards : List Board) (printed : ℕ → Printed) → lines_of (tables_text boards printed) ≡ codes "% PBN 2.1" ∷ lines_of (flat_map (numbered_text printed) (enumerate_from 0 boards))
unfolding tables_text first_line
page-lines boards printed = lines_of-line first_line (flat_map (numbered_text printed) (enumerate_from 0 boards)) first_line-is
