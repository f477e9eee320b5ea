-- The pieces of a board's table and par.
use Rattle.std.proofs.Common.{◌≡◌, ◌≢◌, ℕ, ◌-◌, ◌≤◌, ◌<◌, ◌^◌, Bool, true, false, true≢false, cond, List, [], ◌∷◌, ◌++◌, Option, None, Some, refl, sym, ◌∙◌, ap, arith, nat_lt}
use Rattle.std.specs.Prelude.{codes, unwrap_or, is_some, IfSome}
use Rattle.std.specs.List.{flat_map}
use Rattle.std.specs.Fmt.{decimal}
use Rattle.std.proofs.lemmas.Bool.{and_parts}
use Rattle.cards.specs.declared.seats.Seat.{Seat}
use Rattle.cards.specs.declared.seats.Seat.TheVariants.{North, East, South, West}
use Rattle.cards.specs.declared.suits.Trump.{Trump}
use Rattle.cards.specs.Seats.{seat_letter}
use Rattle.par.specs.Texts.{score_text, contracts_text}
use Rattle.par.proofs.TextBytes.{is_par_byte, are_par_bytes, score-bytes, contracts-bytes}
use Rattle.tables.specs.declared.pars.BoardPar.{BoardPar}
use Rattle.tables.specs.declared.pars.BoardPar.TheVariants.{Known, NoDealer, NoVulnerability}
use Rattle.tables.specs.ParText.{IsSmallPar}
use Rattle.tables.specs.TablesText.{Results, Printed, published_count, is_complete}
use Rattle.tables.proofs.PageBack.{unknown_incomplete}
use Rattle.text_laws.proofs.BoardsBack.{published_count-le}
use Rattle.sheet_reading.specs.Pages.{resolved}
use Rattle.html.specs.Values.{value_text}
use Rattle.html.specs.Templates.{filled}
use Rattle.html.specs.Plain.{is_plain}
use Rattle.html.proofs.Each.{Each, each-append}
use Rattle.sheets.specs.declared.templates.TheConstants.{TABLE, ROW, CELL, ROW_END, TABLE_END, INCOMPLETE, PAR, PAR_UNKNOWN, FOOT, FOOT_END}
use Rattle.sheets.specs.CellText.{level_shown, in_parentheses, tricks_shown, cell_place, cell_value}
use Rattle.sheets.specs.Facts.{with_value}
use Rattle.sheets.specs.Results.{columns, cell_text, entry_text, cells_text, row_text, rows_text, complete_text, results_text}
use Rattle.sheets.specs.Boards.{foot_text}
use Rattle.sheets.specs.ParShown.{par_place, par_value, par_shown}
use Rattle.sheets.proofs.CellLemmas.{level-text, tricks-text}
use Rattle.sheets.proofs.ParLemmas.{par-text}
use Rattle.sheet_reading.specs.Elements.{Piece}
use Rattle.sheet_reading.proofs.Chunks.{Chunk, chunk-append, chunk-nothing, chunk-as}
use Rattle.sheet_reading.proofs.SaidTexts.{read-as, plain-read-as, decimal-free, decimal-read}
use Rattle.sheet_reading.proofs.BoardChunks.{letter-plain}
use Rattle.sheet_reading.proofs.TemplatePieces.{value_read, table_start, heading_line, line_end, table-chunk, line_start, line-chunk, cell_pieces, cell-chunk, line_end-chunk, table_end, table_end-chunk, count_pieces, count-chunk, par_pieces, par-chunk, unknown_pieces, unknown-chunk, hands_end, footer_start, foot-chunk, footer_end, footer_end-chunk}

-- ---- a cell
shown-free : (n : ℕ) (b : Bool) → n < 2 ^ 64 → Each (λ byte. byte ≢ 38) (cond b (decimal n) [])
shown-free n true h = decimal-free n h
shown-free n false h = tt

hidden-free : (n : ℕ) (b : Bool) → n < 2 ^ 64 → Each (λ byte. byte ≢ 38) (cond b [] (in_parentheses (decimal n)))
hidden-free n true h = tt
hidden-free n false h = (
  (λ e. omega (arith, e)),
  each-append (λ byte. byte ≢ 38) (decimal n) (41 ∷ []) (decimal-free n h) ((λ e. omega (arith, e)), tt),
)

level-read : (tricks : ℕ) → tricks ≤ 13 → value_read (cell_value tricks) (codes "level") ≡ level_shown tricks
level-read tricks h =
    let place = cell_place (codes "level") in
    read-as (cell_value tricks (codes "level")) (level_shown tricks)
    (level-text tricks (codes "level") place (omega (arith, h)) refl refl)
    (shown-free (tricks - 6) (nat_lt 6 tricks) (omega (arith, h)))

tricks-read : (tricks : ℕ) → tricks ≤ 13 → value_read (cell_value tricks) (codes "tricks") ≡ tricks_shown tricks
tricks-read tricks h =
    let place = cell_place (codes "tricks") in
    read-as (cell_value tricks (codes "tricks")) (tricks_shown tricks)
    (tricks-text tricks (codes "tricks") place (omega (arith, h)) refl refl)
    (hidden-free tricks (nat_lt 6 tricks) (omega (arith, h)))

abbrev pub cell_in : ℕ → List Piece
cell_in tricks = cell_pieces (level_shown tricks) (tricks_shown tricks)

cell_in-chunk : (tricks : ℕ) → tricks ≤ 13 → Chunk (filled (cell_value tricks) CELL.now) (cell_in tricks)
cell_in-chunk tricks h =
    let level = value_read (cell_value tricks) (codes "level") in
    let shown = value_read (cell_value tricks) (codes "tricks") in
    chunk-as (filled (cell_value tricks) CELL.now) (cell_pieces level shown) (cell_in tricks)
    (ap (λ l. cell_pieces l shown) (level-read tricks h) ∙ ap (cell_pieces (level_shown tricks)) (tricks-read tricks h))
    (cell-chunk (cell_value tricks))

-- ---- the cells of a declarer, where all of them are known
abbrev pub tricks_at : Results → Seat → Trump → ℕ
tricks_at results declarer denomination = unwrap_or (results declarer denomination) 0

-- each result is known, and is at most 13
pub record IsKnown (results : Results) : Type 0 where
  pub some : (declarer : Seat) (denomination : Trump) → is_some (results declarer denomination) ≡ true
  pub at_most : (declarer : Seat) (denomination : Trump) → IfSome (results declarer denomination) (λ tricks. tricks ≤ 13)

one-chunk : (result : Option ℕ) → is_some result ≡ true → IfSome result (λ tricks. tricks ≤ 13) →
    Chunk (cell_text result) (cell_in (unwrap_or result 0))
one-chunk None e h = absurd (cc)
one-chunk (Some tricks) e h = cell_in-chunk tricks h

pub few-known : (result : Option ℕ) → IfSome result (λ tricks. tricks ≤ 13) → unwrap_or result 0 ≤ 13
few-known None h = omega arith
few-known (Some tricks) h = h

abbrev pub cells_in : Results → Seat → List Trump → List Piece
cells_in results declarer denominations = flat_map (λ denomination. cell_in (tricks_at results declarer denomination)) denominations

cells-chunk : (results : Results) (declarer : Seat) (denominations : List Trump) → IsKnown results →
    Chunk (flat_map (entry_text results declarer) denominations) (cells_in results declarer denominations)
cells-chunk results declarer [] known = chunk-nothing
cells-chunk results declarer (denomination ∷ denominations) known =
    chunk-append (entry_text results declarer denomination) (flat_map (entry_text results declarer) denominations)
    (cell_in (tricks_at results declarer denomination)) (cells_in results declarer denominations)
    (one-chunk (results declarer denomination) (known.some declarer denomination) (known.at_most declarer denomination))
    (cells-chunk results declarer denominations known)

-- ---- a line, and all of them
abbrev pub line_in : Results → Seat → List Piece
line_in results declarer = line_start (seat_letter declarer) ++ (cells_in results declarer columns ++ line_end ∷ [])

line_in-chunk : (results : Results) (declarer : Seat) → IsKnown results → Chunk (row_text results declarer) (line_in results declarer)
unfolding row_text cells_text
line_in-chunk results declarer known =
    let letter = seat_letter declarer in
    let cells = flat_map (entry_text results declarer) columns in
    chunk-append (with_value ROW.now letter) (cells ++ ROW_END.now) (line_start letter)
    (cells_in results declarer columns ++ line_end ∷ [])
    (chunk-as (with_value ROW.now letter) (line_start (resolved (value_text letter ++ []))) (line_start letter)
    (ap line_start (plain-read-as letter (letter-plain declarer))) (line-chunk letter))
    (chunk-append cells ROW_END.now (cells_in results declarer columns) (line_end ∷ [])
    (cells-chunk results declarer columns known) line_end-chunk)

abbrev pub lines_in : Results → List Piece
lines_in results = line_in results North ++ (line_in results South ++ (line_in results East ++ line_in results West))

lines-chunk : (results : Results) → IsKnown results → Chunk (rows_text results) (lines_in results)
unfolding rows_text
lines-chunk results known =
    let text = row_text results in
    let line = line_in results in
    chunk-append (text North) (text South ++ (text East ++ text West)) (line North) (line South ++ (line East ++ line West))
    (line_in-chunk results North known)
    (chunk-append (text South) (text East ++ text West) (line South) (line East ++ line West) (line_in-chunk results South known)
    (chunk-append (text East) (text West) (line East) (line West) (line_in-chunk results East known)
    (line_in-chunk results West known)))

-- what is between the tags of the table
abbrev pub table_content : Results → List Piece
table_content results = (heading_line ++ line_end ∷ []) ++ lines_in results

abbrev pub complete_in : Results → List Piece
complete_in results = table_start ∷ ((heading_line ++ line_end ∷ []) ++ (lines_in results ++ table_end ∷ []))

pub complete-chunk : (results : Results) → IsKnown results → Chunk (complete_text results) (complete_in results)
unfolding complete_text
complete-chunk results known =
    chunk-append TABLE.now (rows_text results ++ TABLE_END.now) (table_start ∷ (heading_line ++ line_end ∷ []))
    (lines_in results ++ table_end ∷ []) table-chunk
    (chunk-append (rows_text results) TABLE_END.now (lines_in results) (table_end ∷ []) (lines-chunk results known) table_end-chunk)

-- ---- the number of results
pub incomplete-chunk : (count : ℕ) → count ≤ 20 → Chunk (with_value INCOMPLETE.now (decimal count)) (count_pieces (decimal count))
incomplete-chunk count h =
    let text = decimal count in
    chunk-as (with_value INCOMPLETE.now text) (count_pieces (resolved (value_text text ++ []))) (count_pieces text)
    (ap count_pieces (decimal-read count (omega (arith, h)))) (count-chunk text)

-- ---- par
par-byte-free : (byte : ℕ) → is_par_byte byte ≡ true → byte ≢ 38
par-byte-free byte h e = absurd (let same = sym (ap is_par_byte e) ∙ h in cc)

par-free : (text : List ℕ) → are_par_bytes text ≡ true → Each (λ byte. byte ≢ 38) text
par-free [] h = tt
par-free (byte ∷ bytes) h =
    let parts = and_parts (is_par_byte byte) (are_par_bytes bytes) h in
    (par-byte-free byte parts.0, par-free bytes parts.1)

abbrev pub par_in : Option BoardPar → List Piece
par_in None = []
par_in (Some (Known dealer vulnerable score contracts)) = par_pieces (score_text score) (contracts_text contracts.items)
par_in (Some NoDealer) = unknown_pieces (codes "dealer")
par_in (Some NoVulnerability) = unknown_pieces (codes "vulnerability")

lack-chunk : (word : List ℕ) → is_plain word ≡ true → Chunk (with_value PAR_UNKNOWN.now word) (unknown_pieces word)
lack-chunk word h =
    chunk-as (with_value PAR_UNKNOWN.now word) (unknown_pieces (resolved (value_text word ++ []))) (unknown_pieces word)
    (ap unknown_pieces (plain-read-as word h)) (unknown-chunk word)

pub par_in-chunk : (par : Option BoardPar) → IfSome par IsSmallPar → Chunk (par_shown par) (par_in par)
par_in-chunk None small = chunk-nothing
par_in-chunk (Some (Known dealer vulnerable score contracts)) small =
    let values = par_value score contracts.items in
    let score_place = par_place (codes "score") in
    let contracts_place = par_place (codes "contracts") in
    let score_is : value_read values (codes "score") ≡ score_text score =
    read-as (values (codes "score")) (score_text score)
    (par-text score contracts.items (codes "score") score_place score_place small refl refl)
    (par-free (score_text score) (score-bytes score small.0)) in
    let contracts_are : value_read values (codes "contracts") ≡ contracts_text contracts.items =
    read-as (values (codes "contracts")) (contracts_text contracts.items)
    (par-text score contracts.items (codes "contracts") contracts_place contracts_place small refl refl)
    (par-free (contracts_text contracts.items) (contracts-bytes contracts.items small.1)) in
    chunk-as (filled values PAR.now) (par_pieces (value_read values (codes "score")) (value_read values (codes "contracts")))
    (par_pieces (score_text score) (contracts_text contracts.items))
    (ap (λ s. par_pieces s (value_read values (codes "contracts"))) score_is ∙ ap (par_pieces (score_text score)) contracts_are)
    (par-chunk values)
par_in-chunk (Some NoDealer) small = lack-chunk (codes "dealer") refl
par_in-chunk (Some NoVulnerability) small = lack-chunk (codes "vulnerability") refl

-- ---- what is below the hands
is_some-or : (result : Option ℕ) → (result ≡ None → ⊥) → is_some result ≡ true
is_some-or None h = absurd (h refl)
is_some-or (Some tricks) h = refl

pub are_known : (results : Results) →
    ((declarer : Seat) (denomination : Trump) → IfSome (results declarer denomination) (λ tricks. tricks ≤ 13)) →
    is_complete results ≡ true → IsKnown results
are_known results at_most e = record {
  some = λ declarer denomination. is_some-or (results declarer denomination)
      (λ none. true≢false (sym e ∙ unknown_incomplete results declarer denomination none));
  at_most = at_most;
}

abbrev pub results_in : Results → List Piece
results_in results = cond (is_complete results) (complete_in results) (count_pieces (decimal (published_count results)))

pub results_in-chunk : (results : Results) →
    ((declarer : Seat) (denomination : Trump) → IfSome (results declarer denomination) (λ tricks. tricks ≤ 13)) →
    Chunk (results_text results) (results_in results)
results_in-chunk results at_most = go (is_complete results) (are_known results at_most)
  where
    go : (complete : Bool) → (complete ≡ true → IsKnown results) →
        Chunk (cond complete (complete_text results) (with_value INCOMPLETE.now (decimal (published_count results))))
        (cond complete (complete_in results) (count_pieces (decimal (published_count results))))
    go true known = complete-chunk results (known refl)
    go false known = incomplete-chunk (published_count results) (published_count-le results)

-- what is in the footer
abbrev pub foot_content : Printed → List Piece
foot_content printed = results_in printed.results ++ par_in printed.par

abbrev pub foot_in : Printed → List Piece
foot_in printed = hands_end ++ (footer_start ∷ (results_in printed.results ++ (par_in printed.par ++ footer_end ∷ [])))

pub foot_in-chunk : (printed : Printed) →
    ((declarer : Seat) (denomination : Trump) → IfSome (printed.results declarer denomination) (λ tricks. tricks ≤ 13)) →
    IfSome printed.par IsSmallPar → Chunk (foot_text printed) (foot_in printed)
unfolding foot_text
foot_in-chunk printed at_most small =
    chunk-append FOOT.now (results_text printed.results ++ (par_shown printed.par ++ FOOT_END.now))
    (hands_end ++ footer_start ∷ []) (results_in printed.results ++ (par_in printed.par ++ footer_end ∷ [])) foot-chunk
    (chunk-append (results_text printed.results) (par_shown printed.par ++ FOOT_END.now)
    (results_in printed.results) (par_in printed.par ++ footer_end ∷ []) (results_in-chunk printed.results at_most)
    (chunk-append (par_shown printed.par) FOOT_END.now (par_in printed.par) (footer_end ∷ [])
    (par_in-chunk printed.par small) footer_end-chunk))
