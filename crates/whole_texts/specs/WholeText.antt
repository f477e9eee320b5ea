-- A PBN text as it was read, with the tables of its boards in place of those that it had.
use Rattle.std.specs.Prelude.{◌≡◌, ℕ, Bool, true, false, List, [], ◌∷◌, ◌++◌, map, is_some, codes}
use Rattle.std.specs.Prelude.{Option, None, Some, if◌then◌else◌}
use Rattle.std.specs.List.{flat_map, enumerate_from}
use Rattle.cards.specs.declared.seats.Seat.{Seat}
use Rattle.cards.specs.declared.suits.Trump.{Trump}
use Rattle.pbn_deals.specs.declared.boards.Board.{Board}
use Rattle.pbn_deals.specs.Pieces.{Piece, Comment, Pair, Data, Kind, Gap, Escaped, OfGame, Line, line_bytes}
use Rattle.pbn_deals.specs.Pieces.{mark_of, HasLines}
use Rattle.par.specs.Texts.{score_text, contracts_text}
use Rattle.tables.specs.declared.pars.BoardPar.{BoardPar}
use Rattle.tables.specs.declared.pars.BoardPar.TheVariants.{Known, NoDealer, NoVulnerability}
use Rattle.tables.specs.ParText.{tag_text}
use Rattle.tables.specs.TablesText.{Results, Printed, entries, row_text, is_complete, published_count, table_tag}
use Rattle.tables.specs.TablesText.{incomplete_text, line_feed}
use Rattle.whole_texts.specs.LineEnds.{last_of, missing_end}
use Rattle.whole_texts.specs.OldTables.{is_deal_kind, has_deal, left_of}
use Rattle.tables.specs.declared.results.Renews.{Renews}
use Rattle.cards.specs.Bytes as ascii

-- ---- games
-- the lines of a game, and the line behind them that ends it, if there is one
pub record Game : Type 0 where
  pub lines : List Line
  pub gap : List Line

abbrev pub put_line : Line → List Game → List Game
put_line line [] = []
put_line line (game ∷ games) = record { lines = line ∷ game.lines; gap = game.gap } ∷ games

abbrev pub is_gap_kind : Kind → Bool
is_gap_kind (Gap bytes) = true
is_gap_kind (Escaped bytes) = false
is_gap_kind (OfGame pieces) = false

-- the games of a text: the last one goes to its end
abbrev pub games_of : List Line → List Game
games_of [] = record { lines = []; gap = [] } ∷ []
games_of (line ∷ lines) =
    if is_gap_kind line.kind then (record { lines = []; gap = line ∷ [] } ∷ games_of lines)
    else put_line line (games_of lines)

-- ---- the section of a board
-- bytes of section data
abbrev pub as_data : List ℕ → List Piece
as_data bytes = map (λ byte. Data (byte ∷ [])) bytes

abbrev pub row_lines : List ℕ → Seat → Trump → Option ℕ → List Line
row_lines end declarer denomination (Some tricks) =
    record { kind = OfGame (as_data (row_text declarer denomination tricks)); end = end } ∷ []
row_lines end declarer denomination None = []

abbrev pub entry_lines : List ℕ → Results → Seat × Trump → List Line
entry_lines end results entry = row_lines end entry.0 entry.1 (results entry.0 entry.1)

-- the tag pair of a table
abbrev pub table_pair : Piece
table_pair =
    Pair (codes "OptimumResultTable")
    (codes "Declarer;Denomination" ++ (ascii.backslash ∷ codes "2R;Result") ++ (ascii.backslash ∷ codes "2R")) table_tag

-- the table where all twenty results are known, else how many are, in lines with this end
abbrev pub table_lines : List ℕ → Results → List Line
table_lines end results =
    if is_complete results
    then (record { kind = OfGame (table_pair ∷ []); end = end } ∷ flat_map (entry_lines end results) entries)
    else (record { kind = OfGame (Comment (incomplete_text (published_count results)) ∷ []); end = end } ∷ [])

-- a tag pair of a par
abbrev pub par_pair : List ℕ → List ℕ → Kind
par_pair name value = OfGame (Pair name value (tag_text name value) ∷ [])

-- the lines of a par that is printed, without their ends
abbrev pub par_kinds : Option BoardPar → List Kind
par_kinds None = []
par_kinds (Some (Known dealer vulnerable score contracts)) =
    par_pair (codes "OptimumScore") (score_text score)
    ∷ par_pair (codes "ParContract") (contracts_text contracts.items) ∷ []
par_kinds (Some NoDealer) = OfGame (Comment (codes "; par unknown: no dealer") ∷ []) ∷ []
par_kinds (Some NoVulnerability) = OfGame (Comment (codes "; par unknown: no vulnerability") ∷ []) ∷ []

abbrev pub with_end : List ℕ → Kind → Line
with_end end kind = record { kind = kind; end = end }

-- the section: the par, if it is printed, and the table
abbrev pub section_lines : List ℕ → Printed → List Line
section_lines end printed = map (with_end end) (par_kinds printed.par) ++ table_lines end printed.results

-- ---- ends of lines
-- an end, or another where there is none
abbrev pub if_none : List ℕ → List ℕ → List ℕ
if_none other [] = other
if_none other (byte ∷ bytes) = byte ∷ bytes

-- the end of the first line, if it has one
abbrev pub first_end : List Line → List ℕ
first_end [] = line_feed
first_end (line ∷ lines) = if_none line_feed line.end

-- the end of the line of the Deal tag, or nothing where it has none
abbrev pub deal_end : List Line → List ℕ
deal_end [] = []
deal_end (line ∷ lines) = if is_deal_kind line.kind then line.end else deal_end lines

-- the lines, with these bytes more at the end of the last one
abbrev pub with_more : List ℕ → List Line → List Line
with_more bytes [] = []
with_more bytes (line ∷ []) = record { kind = line.kind; end = line.end ++ bytes } ∷ []
with_more bytes (line ∷ next ∷ lines) = line ∷ with_more bytes (next ∷ lines)

-- ---- the whole
-- the lines with what they lack of an end, and a section in lines with the Deal tag's end, or if it has none, with what
-- they lack
abbrev pub ended_with : List ℕ → List ℕ → Printed → List Line → List Line
ended_with missing end results left = with_more missing left ++ section_lines (if_none missing end) results

-- what is left of a game whose board has a deal, and the section: this is the end of the Deal tag's line
abbrev pub with_section : List ℕ → List ℕ → Printed → List Line → List Line
with_section other end results left =
    ended_with (missing_end (last_of None (flat_map line_bytes left)) (if_none other end)) end results left

-- a game with a Deal tag
abbrev pub dealt_lines : Renews → List ℕ → (ℕ → Printed) → List (ℕ × Board) → List Line → List Line
dealt_lines old other results [] lines = left_of old lines
dealt_lines old other results (numbered ∷ more) lines =
    if is_some numbered.1.deal then with_section other (deal_end lines) (results numbered.0) (left_of old lines)
    else left_of old lines

abbrev pub behind : List (ℕ × Board) → List (ℕ × Board)
behind [] = []
behind (numbered ∷ more) = more

-- games one after another: those with a Deal tag are the boards', in their order
abbrev pub games_lines : Renews → List ℕ → (ℕ → Printed) → List (ℕ × Board) → List Game → List Line
games_lines old other results boards [] = []
games_lines old other results boards (game ∷ games) =
    if has_deal game.lines
    then dealt_lines old other results boards game.lines
    ++ (game.gap ++ games_lines old other results (behind boards) games)
    else game.lines ++ (game.gap ++ games_lines old other results boards games)

abbrev pub whole_lines : Renews → List Board → (ℕ → Printed) → List Line → List Line
whole_lines old boards results lines =
    games_lines old (first_end lines) results (enumerate_from 0 boards) (games_of lines)

-- the text is cut into lines, and no comment is open at its end
abbrev pub IsOfLines : List ℕ → Type 0
IsOfLines text = (lines : List Line) × HasLines text lines

-- what is written of a text that is read as these boards, with their results
pub record WholeText (old : Renews) (text : List ℕ) (boards : List Board) (results : ℕ → Printed) (written : List ℕ)
    : Type 0 where
  pub lines : List Line
  pub read : HasLines text lines
  pub is : written ≡ mark_of text ++ flat_map line_bytes (whole_lines old boards results lines)
