-- What is left of lines, line by line.
use Rattle.std.proofs.Common.{◌≡◌, ℕ, Bool, true, false, cond, List, [], ◌∷◌, ◌++◌, refl, sym, ◌∙◌, ap, subst, append-nil, flat_map}
use Rattle.std.proofs.lemmas.Grind.{flat_map-append}
use Rattle.cards.specs.Devices.{Device, Adds, AddsBeginning}
use Rattle.pbn_deals.proofs.RowsInTurn.{HasFirst, has_first, no_rows}
use Rattle.pbn_deals.specs.Pieces.{Piece, Kind, Gap, Escaped, OfGame, body_of, Row, rows_of, Line, line_bytes, AreLines}
use Rattle.whole_texts.specs.LeftText.{kind_left, without_any_count, kept, tables_behind, Passes}
use Rattle.whole_texts.specs.Lefts.{left_kind}
use Rattle.whole_texts.specs.LineEnds.{last_of}
use Rattle.whole_texts.specs.LineFacts.{FactsOfLine, left_is_dropped, line_is_dropped}
use Rattle.whole_texts.specs.OldTables.{left_pieces, has_more, put_left, table_behind_line, without_tables, is_count}
use Rattle.whole_texts.specs.declared.leaving.Before.{Before}
use Rattle.whole_texts.specs.declared.lefts.Left.TheVariants.{Blanks, Count, More}
use Rattle.whole_texts.specs.declared.line_facts.LineFacts.{LineFacts}
use Rattle.whole_texts.specs.declared.line_facts.LineFacts.TheVariants as fact
use Rattle.whole_texts.proofs.Gone.{Gone, none_gone, more_gone, fault_in, all_gone}
use Rattle.whole_texts.proofs.SolidLines.{put-append}
use Rattle.tables.specs.declared.results.Renews.{Renews}

-- ---- a line
kept-none : (renews : Renews) (drops_counts : Bool) → kept renews drops_counts [] ≡ []
kept-none renews true = refl
kept-none renews false = refl

kept-one : (renews : Renews) (drops_counts : Bool) (line : Line) → (drops_counts ≡ true → is_count renews line.kind ≡ false) → kept renews drops_counts (line ∷ []) ≡ line ∷ []
kept-one renews true line n = ap (λ b. cond b [] (line ∷ [])) (n refl)
kept-one renews false line n = refl

kept-count : (renews : Renews) (line : Line) → is_count renews line.kind ≡ true → kept renews true (line ∷ []) ≡ []
kept-count renews line c = ap (λ b. cond b [] (line ∷ [])) c

-- what is kept of a line of the game
abbrev PutOf : (renews : Renews) → Bool → List Piece → List ℕ → List Line
PutOf renews drops_counts left end = kept renews drops_counts (cond (has_more left) (record { kind = OfGame left; end = end } ∷ []) [])

left_kept : (renews : Renews) (drops_counts : Bool) (left : List Piece) (end : List ℕ) → PutOf renews drops_counts left end ≡ cond (left_is_dropped drops_counts (left_kind renews left)) [] (record { kind = OfGame left; end = end } ∷ [])
left_kept renews drops_counts [] end = kept-none renews drops_counts
left_kept renews drops_counts (piece ∷ pieces) end = go drops_counts (has_more left) (is_count renews (OfGame left)) refl where
  left : List Piece
  left = piece ∷ pieces

  line : Line
  line = record { kind = OfGame left; end = end }

  go : (drops_counts b c : Bool) → is_count renews (OfGame left) ≡ c → kept renews drops_counts (cond b (line ∷ []) []) ≡ cond (left_is_dropped drops_counts (cond b (cond c Count More) Blanks)) [] (line ∷ [])
  go drops_counts false c is = kept-none renews drops_counts
  go true true true is = kept-count renews line is
  go false true true is = refl
  go true true false is = kept-one renews true line (λ e. is)
  go false true false is = refl

pub line_kept : (renews : Renews) (drops_counts in_table is_open : Bool) (kind : Kind) (end : List ℕ) (facts : LineFacts) → FactsOfLine renews in_table kind is_open facts → kept renews drops_counts (put_left renews in_table kind end []) ≡ cond (line_is_dropped drops_counts facts) [] (record { kind = kind_left renews in_table kind; end = end } ∷ [])
line_kept renews drops_counts in_table is_open kind end fact.Gap (bytes, is, o) =
    ap (λ k. kept renews drops_counts (put_left renews in_table k end [])) is
    ∙ (kept-one renews drops_counts (record { kind = Gap bytes; end = end }) (λ e. refl) ∙ ap (λ k. record { kind = kind_left renews in_table k; end = end } ∷ []) (sym is))
line_kept renews drops_counts in_table is_open kind end fact.Escaped (bytes, is, o) =
    ap (λ k. kept renews drops_counts (put_left renews in_table k end [])) is
    ∙ (kept-one renews drops_counts (record { kind = Escaped bytes; end = end }) (λ e. refl) ∙ ap (λ k. record { kind = kind_left renews in_table k; end = end } ∷ []) (sym is))
line_kept renews drops_counts in_table is_open kind end (fact.OfGame facts) (pieces, is, are) =
    let left = left_pieces renews in_table pieces in
    ap (λ k. kept renews drops_counts (put_left renews in_table k end [])) is
    ∙ (left_kept renews drops_counts left end
    ∙ (ap (λ l. cond (left_is_dropped drops_counts l) [] (record { kind = OfGame left; end = end } ∷ [])) (sym are.left)
    ∙ ap (λ k. cond (left_is_dropped drops_counts facts.left) [] (record { kind = kind_left renews in_table k; end = end } ∷ [])) (sym is)))

-- ---- line by line
kept-append : (renews : Renews) (drops_counts : Bool) (one other : List Line) → kept renews drops_counts (one ++ other) ≡ kept renews drops_counts one ++ kept renews drops_counts other
kept-append renews false one other = refl
kept-append renews true [] other = refl
kept-append renews true (line ∷ one) other = go (is_count renews line.kind) (kept-append renews true one other) where
  go : (c : Bool) → without_any_count renews (one ++ other) ≡ without_any_count renews one ++ without_any_count renews other → cond c (without_any_count renews (one ++ other)) (line ∷ without_any_count renews (one ++ other)) ≡ cond c (without_any_count renews one) (line ∷ without_any_count renews one) ++ without_any_count renews other
  go true more = more
  go false more = ap (λ l. line ∷ l) more

abbrev pub LeftText : (renews : Renews) → Bool → Bool → List Line → List ℕ
LeftText renews drops_counts in_table lines = flat_map line_bytes (kept renews drops_counts (without_tables renews in_table lines))

abbrev pub LineText : (renews : Renews) → Bool → Bool → Kind → List ℕ → List ℕ
LineText renews drops_counts in_table kind end = flat_map line_bytes (kept renews drops_counts (put_left renews in_table kind end []))

first_text : (renews : Renews) (drops_counts in_table : Bool) (kind : Kind) (end : List ℕ) (lines : List Line) → LeftText renews drops_counts in_table (record { kind = kind; end = end } ∷ lines) ≡ LineText renews drops_counts in_table kind end ++ LeftText renews drops_counts (table_behind_line renews in_table kind) lines
first_text renews drops_counts in_table kind end lines =
    let rest = without_tables renews (table_behind_line renews in_table kind) lines in
    ap (λ l. flat_map line_bytes (kept renews drops_counts l)) (put-append renews in_table kind end [] rest)
    ∙ (ap (flat_map line_bytes) (kept-append renews drops_counts (put_left renews in_table kind end []) rest)
    ∙ flat_map-append line_bytes (kept renews drops_counts (put_left renews in_table kind end [])) (kept renews drops_counts rest))

pub record LinesGo (renews : Renews) (start now : Device) (drops_counts : Bool) (old before : Before) (those : List Line) (is_open : Bool) (rest : List ℕ) : Type 0 where
  pub others : List Line
  pub has : AreLines before.is_open (rows_of rest) others is_open
  pub table : tables_behind renews old.in_table those ≡ tables_behind renews before.in_table others
  pub gone : Gone start now old.last before.last (LeftText renews drops_counts old.in_table those) (LeftText renews drops_counts before.in_table others)

pub lines_begin : (renews : Renews) (start : Device) (drops_counts : Bool) (before : Before) (those : List Line) (is_open : Bool) (rest : List ℕ) → AreLines before.is_open (rows_of rest) those is_open → LinesGo renews start start drops_counts before before those is_open rest
lines_begin renews start drops_counts before those is_open rest h = record {
  others = those;
  has = h;
  table = refl;
  gone = none_gone start before.last (LeftText renews drops_counts before.in_table those);
}

module _ (renews : Renews) {start now : Device} {drops_counts is_open : Bool} {old before : Before} {those : List Line} {rest : List ℕ} (after : List ℕ) {row : Row}
    (go : LinesGo renews start now drops_counts old before those is_open rest) (rows : rows_of rest ≡ row ∷ rows_of after) where
  pub first : HasFirst before.is_open row (rows_of after) go.others is_open
  first = has_first (subst (λ r. AreLines before.is_open r go.others is_open) rows go.has)

  abbrev pub text : List ℕ
  text = LineText renews drops_counts before.in_table first.kind row.end

  abbrev pub todo : List ℕ
  todo = LeftText renews drops_counts (table_behind_line renews before.in_table first.kind) first.others

  goes : Gone start now old.last before.last (LeftText renews drops_counts old.in_table those) (text ++ todo)
  goes =
      subst (λ t. Gone start now old.last before.last (LeftText renews drops_counts old.in_table those) t)
      (ap (λ l. LeftText renews drops_counts before.in_table l) first.all ∙ first_text renews drops_counts before.in_table first.kind row.end first.others) go.gone

  pub one_line_more : {later : Device} (behind : Before) → Adds now later text → Passes (last_of before.last text) first.behind (table_behind_line renews before.in_table first.kind) behind → LinesGo renews start later drops_counts old behind those is_open after
  one_line_more {later} behind a p = record {
    others = first.others;
    has = subst (λ o. AreLines o (rows_of after) first.others is_open) (sym p.opened) first.are;
    table = go.table ∙ (ap (λ l. tables_behind renews before.in_table l) first.all ∙ ap (λ t. tables_behind renews t first.others) (sym p.table));
    gone =
        subst (λ t. Gone start later old.last behind.last (LeftText renews drops_counts old.in_table those) (LeftText renews drops_counts t first.others)) (sym p.table)
        (more_gone text todo goes a p.ended);
  }

  pub fault_in_line : {later : Device} → AddsBeginning now later text → AddsBeginning start later (LeftText renews drops_counts old.in_table those)
  fault_in_line a = fault_in text todo goes a

pub lines_gone : (renews : Renews) {start now : Device} {drops_counts is_open : Bool} {old before : Before} {those : List Line} {rest : List ℕ} → LinesGo renews start now drops_counts old before those is_open rest → rest ≡ [] → Adds start now (LeftText renews drops_counts old.in_table those) × Passes (last_of old.last (LeftText renews drops_counts old.in_table those)) is_open (tables_behind renews old.in_table those) before
lines_gone renews {start} {now} {drops_counts} {is_open} {old} {before} {those} go none =
    let end = no_rows (subst (λ t. AreLines before.is_open (rows_of t) go.others is_open) none go.has) in
    let nothing : LeftText renews drops_counts before.in_table go.others ≡ [] = ap (λ l. LeftText renews drops_counts before.in_table l) end.0 ∙ ap (flat_map line_bytes) (kept-none renews drops_counts) in
    let all = all_gone (subst (λ t. Gone start now old.last before.last (LeftText renews drops_counts old.in_table those) t) nothing go.gone) in
    (all.0, record { opened = end.1; table = sym (go.table ∙ ap (tables_behind renews before.in_table) end.0); ended = all.1 })

-- ---- what is left of a line, as text
pub goes_text : (renews : Renews) (drops_counts in_table is_open : Bool) (kind : Kind) (end : List ℕ) (facts : LineFacts) → FactsOfLine renews in_table kind is_open facts → true ≡ line_is_dropped drops_counts facts → LineText renews drops_counts in_table kind end ≡ []
goes_text renews drops_counts in_table is_open kind end facts h goes =
    ap (flat_map line_bytes) (line_kept renews drops_counts in_table is_open kind end facts h ∙ ap (λ b. cond b [] (record { kind = kind_left renews in_table kind; end = end } ∷ [])) (sym goes))

pub stays_text : (renews : Renews) (drops_counts in_table is_open : Bool) (kind : Kind) (end : List ℕ) (facts : LineFacts) → FactsOfLine renews in_table kind is_open facts → false ≡ line_is_dropped drops_counts facts → LineText renews drops_counts in_table kind end ≡ body_of (kind_left renews in_table kind) ++ end
stays_text renews drops_counts in_table is_open kind end facts h stays =
    ap (flat_map line_bytes) (line_kept renews drops_counts in_table is_open kind end facts h ∙ ap (λ b. cond b [] (record { kind = kind_left renews in_table kind; end = end } ∷ [])) (sym stays))
    ∙ append-nil (body_of (kind_left renews in_table kind) ++ end)
