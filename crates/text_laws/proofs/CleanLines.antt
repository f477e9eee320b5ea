-- What is left of lines has nothing more to be taken away.
use Rattle.std.specs.Prelude.{codes, map, IfSome, bytes_eq}
use Rattle.par.specs.Texts.{score_text, contracts_text}
use Rattle.tables.specs.declared.pars.BoardPar.{BoardPar}
use Rattle.tables.specs.declared.pars.BoardPar.TheVariants.{Known, NoDealer, NoVulnerability}
use Rattle.tables.specs.ParText.{tag_text}
use Rattle.std.proofs.Common.{◌≡◌, ℕ, ◌+◌, ◌||◌, append_assoc, ◌<◌, ◌≤◌, Bool, true, false, cond, ◌&&◌, List, [], ◌∷◌, ◌++◌, length, get_or, Option, Some, None, refl, sym, ◌∙◌, ap, arith, append-nil, flat_map}
use Rattle.std.specs.List.{list_all, range_with_len}
use Rattle.std.proofs.lemmas.List.Folds.{list_any_at}
use Rattle.std.proofs.lemmas.List.FromFn.{get_or-range_with_len}
use Rattle.std.proofs.lemmas.Slice.Eq.{bytes_eq-Decides}
use Rattle.cards.specs.declared.seats.Seat.{Seat}
use Rattle.cards.specs.declared.suits.Trump.{Trump}
use Rattle.pbn_deals.specs.Pieces.{Piece, Space, Comment, Pair, Data, NoPair, Kind, Gap, Escaped, OfGame, Line}
use Rattle.tables.specs.TablesText.{Results, Printed, entries, row_text, is_complete, published_count, incomplete_text}
use Rattle.text_laws.proofs.PageBack.{fewer}
use Rattle.whole_texts.specs.OldTables.{is_count_text, is_unknown_text, renews_pars, is_old, left_pieces, table_behind, has_more, put_left, table_behind_line, without_tables, is_count, is_escaped_kind, without_counts, left_of}
use Rattle.whole_texts.specs.WholeText.{as_data, row_lines, entry_lines, table_pair, table_lines, par_pair, with_end, par_kinds, section_lines, if_none}
use Rattle.text_laws.specs.GivenEnds.{new_end, with_ends}
use Rattle.tables.specs.declared.results.Renews.{Renews}

-- ---- pieces without a table's tag pair
abbrev pub is_clean : (old : Renews) → List Piece → Bool
is_clean old [] = true
is_clean old (Space byte ∷ pieces) = is_clean old pieces
is_clean old (Comment bytes ∷ pieces) = is_clean old pieces
is_clean old (Pair name value bytes ∷ pieces) = cond (is_old old name) false (is_clean old pieces)
is_clean old (Data bytes ∷ pieces) = is_clean old pieces
is_clean old (NoPair bytes ∷ pieces) = is_clean old pieces

left_clean : (old : Renews) (in_table : Bool) (pieces : List Piece) → is_clean old (left_pieces old in_table pieces) ≡ true
left_clean old in_table [] = refl
left_clean old in_table (Space byte ∷ pieces) = left_clean old in_table pieces
left_clean old in_table (Comment bytes ∷ pieces) = left_clean old in_table pieces
left_clean old in_table (Pair name value bytes ∷ pieces) = go (is_old old name) refl (left_clean old true pieces) (left_clean old false pieces) where
  go : (b : Bool) → is_old old name ≡ b → is_clean old (left_pieces old true pieces) ≡ true → is_clean old (left_pieces old false pieces) ≡ true → is_clean old (cond b (left_pieces old true pieces) (Pair name value bytes ∷ left_pieces old false pieces)) ≡ true
  go true t gone kept = gone
  go false t gone kept = ap (λ b. cond b false (is_clean old (left_pieces old false pieces))) t ∙ kept
left_clean old true (Data bytes ∷ pieces) = left_clean old true pieces
left_clean old false (Data bytes ∷ pieces) = left_clean old false pieces
left_clean old in_table (NoPair bytes ∷ pieces) = left_clean old in_table pieces

clean_left : (old : Renews) (pieces : List Piece) → is_clean old pieces ≡ true → (left_pieces old false pieces ≡ pieces) × (table_behind old false pieces ≡ false)
clean_left old [] c = (refl, refl)
clean_left old (Space byte ∷ pieces) c = let more = clean_left old pieces c in (ap (λ p. Space byte ∷ p) more.0, more.1)
clean_left old (Comment bytes ∷ pieces) c = let more = clean_left old pieces c in (ap (λ p. Comment bytes ∷ p) more.0, more.1)
clean_left old (Pair name value bytes ∷ pieces) c = go (is_old old name) c (clean_left old pieces) where
  go : (b : Bool) → cond b false (is_clean old pieces) ≡ true → (is_clean old pieces ≡ true → (left_pieces old false pieces ≡ pieces) × (table_behind old false pieces ≡ false)) → (cond b (left_pieces old true pieces) (Pair name value bytes ∷ left_pieces old false pieces) ≡ Pair name value bytes ∷ pieces) × (table_behind old b pieces ≡ false)
  go true f more = absurd (cc)
  go false f more = let rest = more f in (ap (λ p. Pair name value bytes ∷ p) rest.0, rest.1)
clean_left old (Data bytes ∷ pieces) c = let more = clean_left old pieces c in (ap (λ p. Data bytes ∷ p) more.0, more.1)
clean_left old (NoPair bytes ∷ pieces) c = let more = clean_left old pieces c in (ap (λ p. NoPair bytes ∷ p) more.0, more.1)

-- ---- lines without a table
abbrev pub IsCleanKind : (old : Renews) → Kind → Type 0
IsCleanKind old (Gap bytes) = Unit {0}
IsCleanKind old (Escaped bytes) = Unit {0}
IsCleanKind old (OfGame pieces) = (is_clean old pieces ≡ true) × (has_more pieces ≡ true)

abbrev pub AreClean : (old : Renews) → List Line → Type 0
AreClean old [] = Unit {0}
AreClean old (line ∷ lines) = IsCleanKind old line.kind × AreClean old lines

put_clean : (old : Renews) (in_table : Bool) (kind : Kind) (end : List ℕ) (lines : List Line) → AreClean old lines → AreClean old (put_left old in_table kind end lines)
put_clean old in_table (Gap bytes) end lines h = (tt, h)
put_clean old in_table (Escaped bytes) end lines h = (tt, h)
put_clean old in_table (OfGame pieces) end lines h = go (has_more (left_pieces old in_table pieces)) refl where
  go : (b : Bool) → has_more (left_pieces old in_table pieces) ≡ b → AreClean old (cond b (record { kind = OfGame (left_pieces old in_table pieces); end = end } ∷ lines) lines)
  go true m = ((left_clean old in_table pieces, m), h)
  go false m = h

tables_clean : (old : Renews) (in_table : Bool) (lines : List Line) → AreClean old (without_tables old in_table lines)
tables_clean old in_table [] = tt
tables_clean old in_table (line ∷ lines) = put_clean old in_table line.kind line.end (without_tables old (table_behind_line old in_table line.kind) lines) (tables_clean old (table_behind_line old in_table line.kind) lines)

counts_clean : (old : Renews) (lines : List Line) → AreClean old lines → AreClean old (without_counts old lines)
counts_clean old [] h = tt
counts_clean old (line ∷ lines) h = go (is_count old line.kind && list_all (λ other. is_escaped_kind other.kind) (without_counts old lines)) (counts_clean old lines h.1) where
  go : (b : Bool) → AreClean old (without_counts old lines) → AreClean old (cond b (without_counts old lines) (line ∷ without_counts old lines))
  go true more = more
  go false more = (h.0, more)

pub left_of_clean : (old : Renews) (lines : List Line) → AreClean old (left_of old lines)
left_of_clean old lines = counts_clean old (without_tables old false lines) (tables_clean old false lines)

pub ends_clean : (old : Renews) (end : List ℕ) (lines : List Line) → AreClean old lines → AreClean old (with_ends end lines)
ends_clean old end [] h = tt
ends_clean old end (line ∷ []) h = h
ends_clean old end (line ∷ next ∷ lines) h = (h.0, ends_clean old end (next ∷ lines) h.1)

-- they stay, and what stands behind them is looked at as if it stood alone
clean_line : (old : Renews) (kind : Kind) (end : List ℕ) (lines : List Line) → IsCleanKind old kind → put_left old false kind end (without_tables old (table_behind_line old false kind) lines) ≡ record { kind = kind; end = end } ∷ without_tables old false lines
clean_line old (Gap bytes) end lines h = refl
clean_line old (Escaped bytes) end lines h = refl
clean_line old (OfGame pieces) end lines h =
    let left = clean_left old pieces h.0 in
    ap (λ i. cond (has_more (left_pieces old false pieces)) (record { kind = OfGame (left_pieces old false pieces); end = end } ∷ without_tables old i lines) (without_tables old i lines)) left.1
    ∙ (ap (λ p. cond (has_more p) (record { kind = OfGame p; end = end } ∷ without_tables old false lines) (without_tables old false lines)) left.0
    ∙ ap (λ b. cond b (record { kind = OfGame pieces; end = end } ∷ without_tables old false lines) (without_tables old false lines)) h.1)

pub clean_stays : (old : Renews) (lines others : List Line) → AreClean old lines → without_tables old false (lines ++ others) ≡ lines ++ without_tables old false others
clean_stays old [] others h = refl
clean_stays old (line ∷ lines) others h = clean_line old line.kind line.end (lines ++ others) h.0 ∙ ap (λ l. line ∷ l) (clean_stays old lines others h.1)

-- ---- lines without a count at their end
pub counts_twice : (old : Renews) (lines : List Line) → without_counts old (without_counts old lines) ≡ without_counts old lines
counts_twice old [] = refl
counts_twice old (line ∷ lines) = go (is_count old line.kind && list_all (λ other. is_escaped_kind other.kind) (without_counts old lines)) refl (counts_twice old lines) where
  go : (b : Bool) → (is_count old line.kind && list_all (λ other. is_escaped_kind other.kind) (without_counts old lines)) ≡ b → without_counts old (without_counts old lines) ≡ without_counts old lines → without_counts old (cond b (without_counts old lines) (line ∷ without_counts old lines)) ≡ cond b (without_counts old lines) (line ∷ without_counts old lines)
  go true e more = more
  go false e more =
      ap (λ w. cond (is_count old line.kind && list_all (λ other. is_escaped_kind other.kind) w) w (line ∷ w)) more
      ∙ ap (λ b. cond b (without_counts old lines) (line ∷ without_counts old lines)) e

counts_length : (old : Renews) (lines : List Line) → length (without_counts old lines) ≤ length lines
counts_length old [] = omega arith
counts_length old (line ∷ lines) = go (is_count old line.kind && list_all (λ other. is_escaped_kind other.kind) (without_counts old lines)) (counts_length old lines) where
  go : (b : Bool) → length (without_counts old lines) ≤ length lines → length (cond b (without_counts old lines) (line ∷ without_counts old lines)) ≤ length (line ∷ lines)
  go true h = omega (arith, h)
  go false h = omega (arith, h)

-- ends of lines don't matter
ends_escaped : (end : List ℕ) (lines : List Line) → list_all (λ other. is_escaped_kind other.kind) (with_ends end lines) ≡ list_all (λ other. is_escaped_kind other.kind) lines
ends_escaped end [] = refl
ends_escaped end (line ∷ []) = refl
ends_escaped end (line ∷ next ∷ lines) = ap (λ b. is_escaped_kind line.kind && b) (ends_escaped end (next ∷ lines))

-- lines of which none goes
stay_tail : (old : Renews) (line : Line) (lines : List Line) → without_counts old (line ∷ lines) ≡ line ∷ lines → (without_counts old lines ≡ lines) × ((is_count old line.kind && list_all (λ other. is_escaped_kind other.kind) lines) ≡ false)
stay_tail old line lines e = go (is_count old line.kind && list_all (λ other. is_escaped_kind other.kind) (without_counts old lines)) refl e where
  go : (b : Bool) → (is_count old line.kind && list_all (λ other. is_escaped_kind other.kind) (without_counts old lines)) ≡ b → cond b (without_counts old lines) (line ∷ without_counts old lines) ≡ line ∷ lines → (without_counts old lines ≡ lines) × ((is_count old line.kind && list_all (λ other. is_escaped_kind other.kind) lines) ≡ false)
  go true f g = let short = counts_length old lines in let long = ap length g in absurd (omega (arith, short, long))
  go false f g = let tails : without_counts old lines ≡ lines = cc in (tails, sym (ap (λ w. is_count old line.kind && list_all (λ other. is_escaped_kind other.kind) w) tails) ∙ f)

pub counts_ends : (old : Renews) (end : List ℕ) (lines : List Line) → without_counts old lines ≡ lines → without_counts old (with_ends end lines) ≡ with_ends end lines
counts_ends old end [] e = refl
counts_ends old end (line ∷ []) e =
    let tail = stay_tail old line [] e in
    ap (λ b. cond b [] (record { kind = line.kind; end = if_none (new_end end line.kind) line.end } ∷ [])) tail.1
counts_ends old end (line ∷ next ∷ lines) e =
    let tail = stay_tail old line (next ∷ lines) e in
    let more = counts_ends old end (next ∷ lines) tail.0 in
    let rest = with_ends end (next ∷ lines) in
    ap (λ w. cond (is_count old line.kind && list_all (λ other. is_escaped_kind other.kind) w) w (line ∷ w)) more
    ∙ ap (λ b. cond b rest (line ∷ rest)) (ap (λ a. is_count old line.kind && a) (ends_escaped end (next ∷ lines)) ∙ tail.1)

count_behind : (old : Renews) (lines : List Line) (count : Line) → is_count old count.kind ≡ true → without_counts old (lines ++ count ∷ []) ≡ without_counts old lines
count_behind old [] count c = ap (λ b. cond (b && true) [] (count ∷ [])) c
count_behind old (line ∷ lines) count c =
    ap (λ w. cond (is_count old line.kind && list_all (λ other. is_escaped_kind other.kind) w) w (line ∷ w)) (count_behind old lines count c)

-- ---- a section goes
count_known : (old : Renews) (count : ℕ) → count < 20 → is_count old (OfGame (Comment (incomplete_text count) ∷ [])) ≡ true
count_known old count h =
    let test : ℕ → Bool = λ other. bytes_eq (incomplete_text count) (incomplete_text other) in
    let at : get_or (range_with_len 0 20) count 0 ≡ count = get_or-range_with_len 0 20 count 0 h ∙ (let e : 0 + count ≡ count = omega arith in e) in
    let counted : is_count_text (incomplete_text count) ≡ true =
    list_any_at test (range_with_len 0 20) count 0 (omega (arith, h))
    (ap test at ∙ (bytes_eq-Decides (incomplete_text count) (incomplete_text count)).1 refl) in
    ap (λ (b : Bool). b || (is_unknown_text (incomplete_text count) && renews_pars old)) counted

data_gone : (old : Renews) (bytes : List ℕ) → (left_pieces old true (as_data bytes) ≡ []) × (table_behind old true (as_data bytes) ≡ true)
data_gone old [] = (refl, refl)
data_gone old (byte ∷ bytes) = data_gone old bytes

row_gone : (old : Renews) (pieces : List Piece) (end : List ℕ) (lines : List Line) → left_pieces old true pieces ≡ [] → table_behind old true pieces ≡ true → without_tables old true (record { kind = OfGame pieces; end = end } ∷ lines) ≡ without_tables old true lines
row_gone old pieces end lines l t =
    ap (λ p. cond (has_more p) (record { kind = OfGame p; end = end } ∷ without_tables old (table_behind old true pieces) lines) (without_tables old (table_behind old true pieces) lines)) l
    ∙ ap (λ i. without_tables old i lines) t

rows_gone : (old : Renews) (end : List ℕ) (results : Results) (some : List (Seat × Trump)) → without_tables old true (flat_map (entry_lines end results) some) ≡ []
rows_gone old end results [] = refl
rows_gone old end results (entry ∷ some) = go (results entry.0 entry.1) (rows_gone old end results some) where
  go : (result : Option ℕ) → without_tables old true (flat_map (entry_lines end results) some) ≡ [] → without_tables old true (row_lines end entry.0 entry.1 result ++ flat_map (entry_lines end results) some) ≡ []
  go None more = more
  go (Some tricks) more =
      let gone = data_gone old (row_text entry.0 entry.1 tricks) in
      row_gone old (as_data (row_text entry.0 entry.1 tricks)) end (flat_map (entry_lines end results) some) gone.0 gone.1 ∙ more

-- lines that tell how many results were known, or why a par isn't
abbrev AllCounts : Renews → List Line → Type 0
AllCounts old [] = Unit {0}
AllCounts old (line ∷ lines) = (is_count old line.kind ≡ true) × AllCounts old lines

counts_behind : (old : Renews) (lines those : List Line) → AllCounts old those → without_counts old (lines ++ those) ≡ without_counts old lines
counts_behind old lines [] h = ap (without_counts old) (append-nil lines)
counts_behind old lines (count ∷ those) h =
    ap (without_counts old) (sym (append_assoc lines (count ∷ []) those))
    ∙ (counts_behind old (lines ++ count ∷ []) those h.1 ∙ count_behind old lines count h.0)

-- what is left of a section behind lines: none but such lines
record LeavesCounts (old : Renews) (in_table : Bool) (lines : List Line) : Type 0 where
  those : List Line
  are : without_tables old in_table lines ≡ those
  counts : AllCounts old those

table_leaves : (old : Renews) (in_table : Bool) (end : List ℕ) (results : Results) → LeavesCounts old in_table (table_lines end results)
table_leaves old in_table end results = go (is_complete results) refl where
  count : Line
  count = record { kind = OfGame (Comment (incomplete_text (published_count results)) ∷ []); end = end }

  table : List Line
  table = record { kind = OfGame (table_pair ∷ []); end = end } ∷ flat_map (entry_lines end results) entries

  go : (b : Bool) → is_complete results ≡ b → LeavesCounts old in_table (cond b table (count ∷ []))
  go true e = record { those = []; are = rows_gone old end results entries; counts = tt }
  go false e = record { those = count ∷ []; are = refl; counts = (count_known old (published_count results) (fewer results e), tt) }

pair_goes : (old : Renews) (in_table : Bool) (name value bytes end : List ℕ) (lines : List Line) → is_old old name ≡ true → without_tables old in_table (record { kind = OfGame (Pair name value bytes ∷ []); end = end } ∷ lines) ≡ without_tables old true lines
pair_goes old in_table name value bytes end lines e =
    ap (λ (b : Bool). cond (has_more (cond b [] (Pair name value bytes ∷ []))) (record { kind = OfGame (cond b [] (Pair name value bytes ∷ [])); end = end } ∷ without_tables old b lines) (without_tables old b lines)) e

no_dealer_counts : (old : Renews) → renews_pars old ≡ true → is_count old (OfGame (Comment (codes "; par unknown: no dealer") ∷ [])) ≡ true
unfolding incomplete_text
no_dealer_counts old e =
    let none : is_count_text (codes "; par unknown: no dealer") ≡ false = refl in
    ap (λ (b : Bool). b || renews_pars old) none ∙ e

no_vulnerability_counts : (old : Renews) → renews_pars old ≡ true → is_count old (OfGame (Comment (codes "; par unknown: no vulnerability") ∷ [])) ≡ true
unfolding incomplete_text
no_vulnerability_counts old e =
    let none : is_count_text (codes "; par unknown: no vulnerability") ≡ false = refl in
    ap (λ (b : Bool). b || renews_pars old) none ∙ e

pars_leave : (old : Renews) (end : List ℕ) (par : Option BoardPar) (results : Results) → IfSome par (λ par. renews_pars old ≡ true) → LeavesCounts old false (map (with_end end) (par_kinds par) ++ table_lines end results)
pars_leave old end None results renews = table_leaves old false end results
pars_leave old end (Some (Known dealer vulnerable score contracts)) results renews =
    let table = table_leaves old true end results in
    let one = codes "OptimumScore" in
    let two = codes "ParContract" in
    let more = record { kind = par_pair two (contracts_text contracts.items); end = end } ∷ table_lines end results in
    record {
      those = table.those;
      are = pair_goes old false one (score_text score) (tag_text one (score_text score)) end more renews
          ∙ (pair_goes old true two (contracts_text contracts.items) (tag_text two (contracts_text contracts.items)) end (table_lines end results) renews ∙ table.are);
      counts = table.counts;
    }
pars_leave old end (Some NoDealer) results renews =
    let table = table_leaves old false end results in
    let line = with_end end (OfGame (Comment (codes "; par unknown: no dealer") ∷ [])) in
    record { those = line ∷ table.those; are = ap (λ (l : List Line). line ∷ l) table.are; counts = (no_dealer_counts old renews, table.counts) }
pars_leave old end (Some NoVulnerability) results renews =
    let table = table_leaves old false end results in
    let line = with_end end (OfGame (Comment (codes "; par unknown: no vulnerability") ∷ [])) in
    record { those = line ∷ table.those; are = ap (λ (l : List Line). line ∷ l) table.are; counts = (no_vulnerability_counts old renews, table.counts) }

pub section_goes : (old : Renews) (end : List ℕ) (printed : Printed) (lines : List Line) → IfSome printed.par (λ par. renews_pars old ≡ true) → AreClean old lines → without_counts old lines ≡ lines → left_of old (lines ++ section_lines end printed) ≡ lines
section_goes old end printed lines renews clean none =
    let section = pars_leave old end printed.par printed.results renews in
    ap (without_counts old) (clean_stays old lines (section_lines end printed) clean ∙ ap (λ (l : List Line). lines ++ l) section.are)
    ∙ (counts_behind old lines section.those section.counts ∙ none)

-- and what has nothing to lose stays
pub left_twice : (old : Renews) (lines : List Line) → left_of old (left_of old lines) ≡ left_of old lines
left_twice old lines =
    ap (without_counts old) (sym (ap (without_tables old false) (append-nil (left_of old lines))) ∙ (clean_stays old (left_of old lines) [] (left_of_clean old lines) ∙ append-nil (left_of old lines)))
    ∙ counts_twice old (without_tables old false lines)
