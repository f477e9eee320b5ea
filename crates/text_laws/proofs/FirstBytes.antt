-- What is written of a text without a byte order mark begins with none.
use Rattle.std.specs.Prelude.{map}
use Rattle.tables.specs.declared.pars.BoardPar.{BoardPar}
use Rattle.tables.specs.declared.pars.BoardPar.TheVariants.{Known, NoDealer, NoVulnerability}
use Rattle.tables.specs.ParText.{tag_text}
use Rattle.std.proofs.Common.{◌≡◌, ℕ, Option, Some, None, Bool, true, false, cond, not, ◌&&◌, eqb, List, [], ◌∷◌, ◌++◌, is_some, refl, sym, ◌∙◌, ap, subst, append_assoc, append-nil, flat_map, inl, inr, ◌⊎◌}
use Rattle.std.specs.List.{list_all}
use Rattle.std.proofs.lemmas.Bool.{eqb-true, cases_Bool}
use Rattle.pbn_deals.specs.declared.boards.Board.{Board}
use Rattle.pbn_deals.specs.Letters.{is_blank}
use Rattle.pbn_deals.specs.DealValue.{after_blanks, is_word}
use Rattle.pbn_deals.specs.Games.{Tags}
use Rattle.pbn_deals.specs.Lines.{is_escaped, is_blank_line, without_mark}
use Rattle.pbn_deals.specs.Reading.{OpensComment, OpensText, OpensTag, IsSpace}
use Rattle.pbn_deals.specs.Pieces.{Piece, Space, Comment, Pair, Data, NoPair, bytes_of, HasPieces, at_line_end, space, section_data, quoted_text, unended_text, line_comment, brace_comment, open_comment, tag_pair, no_tag_pair, Kind, Gap, OfGame, body_of, is_escaped_line, is_gap, is_of_game, is_in_comment, closes_comment, Line, line_bytes, mark_of}
use Rattle.pbn_deals.proofs.RowsBack.{Follow, follow_none, follow_line}
use Rattle.tables.specs.TablesText.{Results, Printed, entries, is_complete, published_count, table_tag, incomplete_text}
use Rattle.whole_texts.specs.OldTables.{is_old, left_pieces, table_behind, has_more, without_tables, is_count, is_escaped_kind, without_counts, left_of, has_deal}
use Rattle.whole_texts.specs.WholeText.{Game, entry_lines, table_pair, table_lines, with_end, par_kinds, section_lines, behind}
use Rattle.text_laws.specs.GivenEnds.{deal_end, with_ends, with_section, dealt_lines, games_lines}
use Rattle.text_laws.proofs.LeftPieces.{left_bytes, data_stays, open_left}
use Rattle.text_laws.proofs.LeftSigns.{blank_means, means_blank, starts, starts_not, none_starts}
use Rattle.text_laws.proofs.LeftLines.{false_unless, counts_follow, left_follows}
use Rattle.whole_texts.proofs.Ends.{Ended}
use Rattle.text_laws.proofs.WholeLines.{GamesFollow, lines_of_games}
use Rattle.text_laws.proofs.SameBoards.{GamesHave, last_game, next_game}
use Rattle.pbn_deals.proofs.LinesOfText.{true_or_false}
use Rattle.tables.specs.declared.results.Renews.{Renews}

first_pieces : (old : Renews) {in_data is_open : Bool} {line : List ℕ} {pieces : List Piece} → HasPieces in_data line pieces is_open → (starts 239 (left_bytes old false pieces) ≡ false) ⊎ (left_pieces old false pieces ≡ pieces)
first_pieces old at_line_end = inr refl
first_pieces old (space {byte} m r) = inl (starts_not 239 byte IsSpace refl m (λ e. cc))
first_pieces old (section_data {byte = byte} d r) = inr (ap (λ p. Data (byte ∷ []) ∷ p) (data_stays old refl r))
first_pieces old (quoted_text {byte = byte} text m e l r) = inl (starts_not 239 byte OpensText refl m (λ x. cc))
first_pieces old (unended_text m l) = inr refl
first_pieces old (line_comment m) = inr refl
first_pieces old (brace_comment {byte = byte} text m e l r) = inl (starts_not 239 byte OpensComment refl m (λ x. cc))
first_pieces old (open_comment m l) = inr refl
first_pieces old (tag_pair {byte} inside {tag = tag} {pieces} m g e r) = go (is_old old tag.name) (none_starts old 239 refl r) where
  go : (b : Bool) → starts 239 (left_bytes old true pieces) ≡ false → (starts 239 (flat_map bytes_of (cond b (left_pieces old true pieces) (Pair tag.name tag.value (byte ∷ inside) ∷ left_pieces old false pieces))) ≡ false) ⊎ (cond b (left_pieces old true pieces) (Pair tag.name tag.value (byte ∷ inside) ∷ left_pieces old false pieces) ≡ Pair tag.name tag.value (byte ∷ inside) ∷ pieces)
  go true h = inl h
  go false h = inl (starts_not 239 byte OpensTag refl m (λ x. cc))
first_pieces old (no_tag_pair m g) = inr refl

spaces_blank : {in_data is_open : Bool} {line : List ℕ} {pieces : List Piece} → HasPieces in_data line pieces is_open → has_more pieces ≡ false → is_blank_line line ≡ true
spaces_blank at_line_end h = refl
spaces_blank (space {byte} {rest} m r) h = ap (λ b. not (is_word (cond b (after_blanks rest) (byte ∷ rest)))) (means_blank byte m) ∙ spaces_blank r h
spaces_blank (section_data d r) h = absurd (cc)
spaces_blank (quoted_text text m e l r) h = absurd (cc)
spaces_blank (unended_text m l) h = absurd (cc)
spaces_blank (line_comment m) h = absurd (cc)
spaces_blank (brace_comment text m e l r) h = absurd (cc)
spaces_blank (open_comment m l) h = absurd (cc)
spaces_blank (tag_pair inside m g e r) h = absurd (cc)
spaces_blank (no_tag_pair m g) h = absurd (cc)

-- where all that is left behind a table is blank, the table goes on
goes_on : (old : Renews) (pieces : List Piece) → has_more (left_pieces old true pieces) ≡ false → table_behind old true pieces ≡ true
goes_on old [] h = refl
goes_on old (Space byte ∷ pieces) h = goes_on old pieces h
goes_on old (Comment bytes ∷ pieces) h = absurd (cc)
goes_on old (Pair name value bytes ∷ pieces) h = go (is_old old name) h (goes_on old pieces) where
  go : (b : Bool) → has_more (cond b (left_pieces old true pieces) (Pair name value bytes ∷ left_pieces old false pieces)) ≡ false → (has_more (left_pieces old true pieces) ≡ false → table_behind old true pieces ≡ true) → table_behind old b pieces ≡ true
  go true f more = more f
  go false f more = absurd (cc)
goes_on old (Data bytes ∷ pieces) h = goes_on old pieces h
goes_on old (NoPair bytes ∷ pieces) h = absurd (cc)

begins_table : (old : Renews) (pieces : List Piece) → has_more pieces ≡ true → has_more (left_pieces old false pieces) ≡ false → table_behind old false pieces ≡ true
begins_table old [] m h = absurd (cc)
begins_table old (Space byte ∷ pieces) m h = begins_table old pieces m h
begins_table old (Comment bytes ∷ pieces) m h = absurd (cc)
begins_table old (Pair name value bytes ∷ pieces) m h = go (is_old old name) h where
  go : (b : Bool) → has_more (cond b (left_pieces old true pieces) (Pair name value bytes ∷ left_pieces old false pieces)) ≡ false → table_behind old b pieces ≡ true
  go true f = goes_on old pieces f
  go false f = absurd (cc)
begins_table old (Data bytes ∷ pieces) m h = absurd (cc)
begins_table old (NoPair bytes ∷ pieces) m h = absurd (cc)

-- ---- the first line
-- it doesn't begin with the first byte of the mark
abbrev pub IsOdd : Kind → Type 0
IsOdd kind = starts 239 (body_of kind) ≡ false

abbrev OddFirst : List Line → Type 0
OddFirst [] = Unit {0}
OddFirst (line ∷ lines) = IsOdd line.kind

-- or it is the first of these too
abbrev pub IsFirst : List Line → Kind → Type 0
IsFirst lines kind = (first : Line) × (rest : List Line) × (lines ≡ first ∷ rest) × (first.kind ≡ kind)

abbrev pub FirstOf : List Line → List Line → Type 0
FirstOf lines [] = Unit {0}
FirstOf lines (line ∷ others) = IsOdd line.kind ⊎ IsFirst lines line.kind

escaped_odd : (line : List ℕ) → is_escaped line ≡ true → starts 239 line ≡ false
escaped_odd [] e = absurd (cc)
escaped_odd (byte ∷ bytes) e = ap (λ x. eqb x 239) (eqb-true byte 37 e)

blank_odd : (line : List ℕ) → is_blank_line line ≡ true → starts 239 line ≡ false
blank_odd [] e = refl
blank_odd (byte ∷ bytes) e = go (is_blank byte) refl e where
  go : (b : Bool) → is_blank byte ≡ b → not (is_word (cond b (after_blanks bytes) (byte ∷ bytes))) ≡ true → eqb byte 239 ≡ false
  go true f g = starts_not 239 byte IsSpace refl (blank_means byte f) (λ x. cc)
  go false f g = absurd (cc)

odd_from : (lines others : List Line) → OddFirst others → FirstOf lines others
odd_from lines [] h = tt
odd_from lines (line ∷ others) h = inl h

odd_first : (old : Renews) {is_open last : Bool} {lines : List Line} → Follow is_open lines last → (in_table : Bool) → in_table ≡ true → is_open ≡ false → OddFirst (without_tables old in_table lines)
odd_first old follow_none t e o = tt
odd_first old (follow_line {bytes = bytes} (is_escaped_line f) r) t e o = escaped_odd bytes f
odd_first old (follow_line {bytes = bytes} (is_gap f b) r) t e o = blank_odd bytes b
odd_first old {last = last} (follow_line {is_open' = is_open'} {end = end} {lines} (is_of_game {pieces = pieces} f b h) r) t e o =
    subst (λ i. OddFirst (without_tables old i (record { kind = OfGame pieces; end = end } ∷ lines))) (sym e)
    (go (has_more (left_pieces old true pieces)) refl (λ on closed. odd_first old r (table_behind old true pieces) on closed))
  where
    go : (b : Bool) → has_more (left_pieces old true pieces) ≡ b → (table_behind old true pieces ≡ true → is_open' ≡ false → OddFirst (without_tables old (table_behind old true pieces) lines)) → OddFirst (cond b (record { kind = OfGame (left_pieces old true pieces); end = end } ∷ without_tables old (table_behind old true pieces) lines) (without_tables old (table_behind old true pieces) lines))
    go true m more = none_starts old 239 refl h
    go false m more = more (goes_on old pieces m) (false_unless is_open' (λ i. true_or_false (open_left old true i h) m))
odd_first old (follow_line (is_in_comment l) r) t e o = absurd (cc)
odd_first old (follow_line (closes_comment text f l h) r) t e o = absurd (cc)

-- what is left of tables
tables_first : (old : Renews) {is_open last : Bool} {lines : List Line} → Follow is_open lines last → is_open ≡ false → FirstOf lines (without_tables old false lines)
tables_first old follow_none o = tt
tables_first old (follow_line {kind = kind} {end} {lines} (is_escaped_line f) r) o = inr (record { kind = kind; end = end }, lines, refl, refl)
tables_first old (follow_line {kind = kind} {end} {lines} (is_gap f b) r) o = inr (record { kind = kind; end = end }, lines, refl, refl)
tables_first old (follow_line {is_open' = is_open'} {end = end} {lines} (is_of_game {line = line} {pieces} f b h) r) o =
    go (has_more (left_pieces old false pieces)) refl (first_pieces old h)
  where
    rest : List Line
    rest = without_tables old (table_behind old false pieces) lines

    some : has_more pieces ≡ true
    some = elim (cases_Bool (has_more pieces)) [ inl t ↦ t | inr n ↦ absurd (true_or_false (spaces_blank h n) b) ]

    go : (c : Bool) → has_more (left_pieces old false pieces) ≡ c → (starts 239 (left_bytes old false pieces) ≡ false) ⊎ (left_pieces old false pieces ≡ pieces) → FirstOf (record { kind = OfGame pieces; end = end } ∷ lines) (cond c (record { kind = OfGame (left_pieces old false pieces); end = end } ∷ rest) rest)
    go true m (inl odd) = inl odd
    go true m (inr same) = inr (record { kind = OfGame pieces; end = end }, lines, refl, ap OfGame (sym same))
    go false m either =
        odd_from (record { kind = OfGame pieces; end = end } ∷ lines) rest
        (odd_first old r (table_behind old false pieces) (begins_table old pieces some m) (false_unless is_open' (λ i. true_or_false (open_left old false i h) m)))
tables_first old (follow_line (is_in_comment l) r) o = absurd (cc)
tables_first old (follow_line (closes_comment text f l h) r) o = absurd (cc)

-- and of lines that tell how many results were known
escaped_first : {is_open last : Bool} (lines : List Line) → Follow is_open lines last → list_all (λ other. is_escaped_kind other.kind) lines ≡ true → OddFirst lines
escaped_first [] f e = tt
escaped_first (line ∷ lines) (follow_line {bytes = bytes} (is_escaped_line i) r) e = escaped_odd bytes i
escaped_first (line ∷ lines) (follow_line (is_gap i b) r) e = absurd (cc)
escaped_first (line ∷ lines) (follow_line (is_of_game i b h) r) e = absurd (cc)
escaped_first (line ∷ lines) (follow_line (is_in_comment l) r) e = absurd (cc)
escaped_first (line ∷ lines) (follow_line (closes_comment text i l h) r) e = absurd (cc)

counts_first : (old : Renews) {is_open last : Bool} (lines : List Line) {others : List Line} → Follow is_open others last → FirstOf lines others → FirstOf lines (without_counts old others)
counts_first old lines follow_none h = tt
counts_first old lines (follow_line {kind = kind} {end} {lines = behind} l r) h =
    go (is_count old kind) (list_all (λ other. is_escaped_kind other.kind) (without_counts old behind)) refl
  where
    go : (c a : Bool) → list_all (λ other. is_escaped_kind other.kind) (without_counts old behind) ≡ a → FirstOf lines (cond (c && a) (without_counts old behind) (record { kind = kind; end = end } ∷ without_counts old behind))
    go true true e = odd_from lines (without_counts old behind) (escaped_first (without_counts old behind) (counts_follow old r) e)
    go true false e = h
    go false a e = h

left_first : (old : Renews) {lines : List Line} → Follow false lines false → FirstOf lines (left_of old lines)
left_first old {lines} h = counts_first old lines (left_follows old false h) (tables_first old h refl)

ends_first : (end : List ℕ) (lines others : List Line) → FirstOf lines others → FirstOf lines (with_ends end others)
ends_first end lines [] h = tt
ends_first end lines (line ∷ []) h = h
ends_first end lines (line ∷ next ∷ others) h = h

table_odd : (end : List ℕ) (results : Results) → OddFirst (table_lines end results)
unfolding table_tag incomplete_text
table_odd end results = go (is_complete results) where
  go : (b : Bool) → OddFirst (cond b (record { kind = OfGame (table_pair ∷ []); end = end } ∷ flat_map (entry_lines end results) entries) (record { kind = OfGame (Comment (incomplete_text (published_count results)) ∷ []); end = end } ∷ []))
  go true = refl
  go false = refl

section_odd : (end : List ℕ) (printed : Printed) → OddFirst (section_lines end printed)
unfolding tag_text
section_odd end printed = go printed.par where
  go : (par : Option BoardPar) → OddFirst (map (with_end end) (par_kinds par) ++ table_lines end printed.results)
  go None = table_odd end printed.results
  go (Some (Known dealer vulnerable score contracts)) = refl
  go (Some NoDealer) = refl
  go (Some NoVulnerability) = refl

behind_first : (lines others more : List Line) → FirstOf lines others → OddFirst more → FirstOf lines (others ++ more)
behind_first lines [] more h o = odd_from lines more o
behind_first lines (line ∷ others) more h o = h

dealt_first : (old : Renews) (other : List ℕ) (results : ℕ → Printed) (boards : List (ℕ × Board)) {lines : List Line} → Follow false lines false → FirstOf lines (dealt_lines old other results boards lines)
dealt_first old other results [] h = left_first old h
dealt_first old other results (numbered ∷ more) {lines} h = go (is_some numbered.1.deal) where
  end : List ℕ
  end = deal_end other (left_of old lines)

  go : (b : Bool) → FirstOf lines (cond b (with_section other (results numbered.0) (left_of old lines)) (left_of old lines))
  go true = behind_first lines (with_ends end (left_of old lines)) (section_lines end (results numbered.0)) (ends_first end lines (left_of old lines) (left_first old h)) (section_odd end (results numbered.0))
  go false = left_first old h

-- ---- games
self_first : (lines : List Line) → FirstOf lines lines
self_first [] = tt
self_first (line ∷ lines) = inr (line, lines, refl, refl)

more_first : (lines rest others : List Line) → FirstOf lines others → FirstOf (lines ++ rest) others
more_first lines rest [] h = tt
more_first lines rest (line ∷ others) (inl odd) = inl odd
more_first lines rest (line ∷ others) (inr is) = inr (is.0, is.1 ++ rest, ap (λ l. l ++ rest) is.2, is.3)

gap_odd : {bytes end : List ℕ} → Follow false (record { kind = Gap bytes; end = end } ∷ []) false → starts 239 bytes ≡ false
gap_odd {bytes} (follow_line (is_gap e b) r) = blank_odd bytes b

pub whole_first : (old : Renews) (other : List ℕ) (results : ℕ → Printed) (numbered : List (ℕ × Board)) {count : ℕ} {tags : Tags} {games : List Game} {boards : List Board} → GamesHave old count tags games boards → GamesFollow false games → FirstOf (lines_of_games games) (games_lines old other results numbered games)
whole_first old other results numbered (last_game {lines = lines} a) f = go (has_deal lines) where
  go : (b : Bool) → FirstOf ((lines ++ []) ++ []) (cond b (dealt_lines old other results numbered lines ++ ([] ++ [])) (lines ++ ([] ++ [])))
  go true = more_first (lines ++ []) [] (dealt_lines old other results numbered lines ++ []) (more_first lines [] (dealt_lines old other results numbered lines ++ []) (behind_first lines (dealt_lines old other results numbered lines) [] (dealt_first old other results numbered f.0) tt))
  go false = more_first (lines ++ []) [] (lines ++ []) (more_first lines [] (lines ++ []) (behind_first lines lines [] (self_first lines) tt))
whole_first old other results numbered (next_game {lines = lines} {bytes} {end} {games} a g) f = go (has_deal lines) where
  gap : List Line
  gap = record { kind = Gap bytes; end = end } ∷ []

  put : (others rest : List Line) → FirstOf lines others → FirstOf ((lines ++ gap) ++ lines_of_games games) (others ++ (gap ++ rest))
  put others rest h = more_first (lines ++ gap) (lines_of_games games) (others ++ (gap ++ rest)) (more_first lines gap (others ++ (gap ++ rest)) (behind_first lines others (gap ++ rest) h (gap_odd f.1)))

  go : (b : Bool) → FirstOf ((lines ++ gap) ++ lines_of_games games) (cond b (dealt_lines old other results numbered lines ++ (gap ++ games_lines old other results (behind numbered) games)) (lines ++ (gap ++ games_lines old other results numbered games)))
  go true = put (dealt_lines old other results numbered lines) (games_lines old other results (behind numbered) games) (dealt_first old other results numbered f.0)
  go false = put lines (games_lines old other results numbered games) (self_first lines)

-- ---- the mark
abbrev is_marked : List ℕ → Bool
is_marked [] = false
is_marked (a ∷ []) = false
is_marked (a ∷ b ∷ []) = false
is_marked (a ∷ b ∷ c ∷ text) = eqb a 239 && (eqb b 187 && eqb c 191)

at_first : (a : ℕ) (text : List ℕ) → eqb a 239 ≡ false → is_marked (a ∷ text) ≡ false
at_first a [] n = refl
at_first a (b ∷ []) n = refl
at_first a (b ∷ c ∷ text) n = ap (λ x. x && (eqb b 187 && eqb c 191)) n

at_second : (a b : ℕ) (text : List ℕ) → eqb b 187 ≡ false → is_marked (a ∷ b ∷ text) ≡ false
at_second a b [] n = refl
at_second a b (c ∷ text) n = go (eqb a 239) where
  go : (x : Bool) → (x && (eqb b 187 && eqb c 191)) ≡ false
  go true = ap (λ x. x && eqb c 191) n
  go false = refl

at_third : (a b c : ℕ) (text : List ℕ) → eqb c 191 ≡ false → is_marked (a ∷ b ∷ c ∷ text) ≡ false
at_third a b c text n = go (eqb a 239) (eqb b 187) where
  go : (x y : Bool) → (x && (y && eqb c 191)) ≡ false
  go true true = n
  go true false = refl
  go false y = refl

-- an end: CR LF, LF, or none at the end of a text
abbrev IsEndBefore : List ℕ → List ℕ → Type 0
IsEndBefore end rest = (end ≡ 13 ∷ 10 ∷ []) ⊎ ((end ≡ 10 ∷ []) ⊎ ((end ≡ []) × (rest ≡ [])))

-- a body of under three bytes, with its end
short_body : (front : List ℕ) (end rest : List ℕ) → ((text : List ℕ) → (byte : ℕ) → eqb byte 239 ≡ false → eqb byte 187 ≡ false → eqb byte 191 ≡ false → is_marked (front ++ byte ∷ text) ≡ false) → is_marked front ≡ false → IsEndBefore end rest → is_marked ((front ++ end) ++ rest) ≡ false
short_body front end rest other alone (inl e) =
    ap is_marked (ap (λ y. (front ++ y) ++ rest) e ∙ append_assoc front (13 ∷ 10 ∷ []) rest) ∙ other (10 ∷ rest) 13 refl refl refl
short_body front end rest other alone (inr (inl e)) =
    ap is_marked (ap (λ y. (front ++ y) ++ rest) e ∙ append_assoc front (10 ∷ []) rest) ∙ other rest 10 refl refl refl
short_body front end rest other alone (inr (inr (e, n))) =
    ap is_marked (ap (λ y. (front ++ y) ++ rest) e ∙ (ap (λ y. (front ++ []) ++ y) n ∙ (append-nil (front ++ []) ∙ append-nil front))) ∙ alone

marked_body : (body end rest end' rest' : List ℕ) → IsEndBefore end rest → is_marked ((body ++ end) ++ rest) ≡ true → is_marked ((body ++ end') ++ rest') ≡ true
marked_body [] end rest end' rest' e m = absurd (true_or_false m (short_body [] end rest (λ text byte x y z. at_first byte text x) refl e))
marked_body (a ∷ []) end rest end' rest' e m = absurd (true_or_false m (short_body (a ∷ []) end rest (λ text byte x y z. at_second a byte text y) refl e))
marked_body (a ∷ b ∷ []) end rest end' rest' e m = absurd (true_or_false m (short_body (a ∷ b ∷ []) end rest (λ text byte x y z. at_third a b byte text z) refl e))
marked_body (a ∷ b ∷ c ∷ body) end rest end' rest' e m = m

odd_unmarked : (body end rest : List ℕ) → starts 239 body ≡ false → IsEndBefore end rest → is_marked ((body ++ end) ++ rest) ≡ true → ⊥
odd_unmarked [] end rest o e m = true_or_false m (short_body [] end rest (λ text byte x y z. at_first byte text x) refl e)
odd_unmarked (a ∷ body) end rest o e m = true_or_false m (at_first a ((body ++ end) ++ rest) o)

line_end_is : (line : Line) (lines : List Line) → Ended (line ∷ lines) → IsEndBefore line.end (flat_map line_bytes lines)
line_end_is line lines (inl ((lacks, inl e), more)) = inl e
line_end_is line lines (inl ((lacks, inr (e, n)), more)) = inr (inl e)
line_end_is line [] (inr ((lacks, e, w), n)) = inr (inr (e, refl))
line_end_is line (next ∷ lines) (inr (u, n)) = absurd (cc)

marked_lines : (lines others : List Line) → Ended others → FirstOf lines others → is_marked (flat_map line_bytes others) ≡ true → is_marked (flat_map line_bytes lines) ≡ true
marked_lines lines [] e f m = absurd (cc)
marked_lines lines (line ∷ others) e (inl odd) m = absurd (odd_unmarked (body_of line.kind) line.end (flat_map line_bytes others) odd (line_end_is line others e) m)
marked_lines lines (line ∷ others) e (inr is) m =
    let first = is.0 in
    ap is_marked (ap (flat_map line_bytes) is.2 ∙ ap (λ k. (body_of k ++ first.end) ++ flat_map line_bytes is.1) is.3)
    ∙ marked_body (body_of line.kind) line.end (flat_map line_bytes others) first.end (flat_map line_bytes is.1) (line_end_is line others e) m

no_mark : (text : List ℕ) → is_marked text ≡ false → without_mark text ≡ text
no_mark [] n = refl
no_mark (a ∷ []) n = refl
no_mark (a ∷ b ∷ []) n = refl
no_mark (a ∷ b ∷ c ∷ text) n = ap (λ m. cond m text (a ∷ b ∷ c ∷ text)) n

abbrev bom : List ℕ
bom = 239 ∷ 187 ∷ 191 ∷ []

-- a text has a mark, or it has none
mark_cases : (text : List ℕ) → (mark_of text ≡ bom) ⊎ ((mark_of text ≡ []) × (is_marked text ≡ false))
mark_cases [] = inr (refl, refl)
mark_cases (a ∷ []) = inr (refl, refl)
mark_cases (a ∷ b ∷ []) = inr (refl, refl)
mark_cases (a ∷ b ∷ c ∷ text) = go (eqb a 239 && (eqb b 187 && eqb c 191)) where
  go : (m : Bool) → (cond m bom [] ≡ bom) ⊎ ((cond m bom [] ≡ []) × (m ≡ false))
  go true = inl refl
  go false = inr (refl, refl)

-- the text that is written, without its mark
pub unmarked : (text : List ℕ) (lines others : List Line) → without_mark text ≡ flat_map line_bytes lines → Ended others → FirstOf lines others → without_mark (mark_of text ++ flat_map line_bytes others) ≡ flat_map line_bytes others
unmarked text lines others is e f =
    elim (mark_cases text) [
      | inl mark ↦ ap (λ m. without_mark (m ++ flat_map line_bytes others)) mark
      | inr none ↦
          let same : text ≡ flat_map line_bytes lines = sym (no_mark text none.1) ∙ is in
          let not_marked = false_unless (is_marked (flat_map line_bytes others)) (λ m. true_or_false (ap is_marked same ∙ marked_lines lines others e f m) none.1) in
          ap (λ m. without_mark (m ++ flat_map line_bytes others)) none.0 ∙ no_mark (flat_map line_bytes others) not_marked
    ]
