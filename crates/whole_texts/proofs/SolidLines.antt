-- What is left of the lines of a game, in two parts: behind the last solid line all that tells how many results were known goes.
use Rattle.std.proofs.Common.{◌≡◌, ℕ, Bool, true, false, cond, ◌&&◌, ◌||◌, List, [], ◌∷◌, ◌++◌, refl, sym, ◌∙◌, ap, append_assoc, inl, inr, ◌⊎◌}
use Rattle.std.specs.List.{list_all}
use Rattle.pbn_deals.specs.Pieces.{Piece, Kind, Gap, Escaped, OfGame, Line}
use Rattle.whole_texts.specs.OldTables.{left_pieces, has_more, put_left, table_behind_line, without_tables, is_count, is_escaped_kind, without_counts, left_of}
use Rattle.whole_texts.specs.WholeText.{is_gap_kind}
use Rattle.whole_texts.specs.LineFacts.{is_solid}
use Rattle.whole_texts.specs.LeftText.{kind_left, without_any_count, tables_behind}
use Rattle.tables.specs.declared.results.Renews.{Renews}

and_none : (b c : Bool) → c ≡ false → (b && c) ≡ false
and_none true c e = e
and_none false c e = refl

-- ---- without tables
pub put-append : (old : Renews) (in_table : Bool) (kind : Kind) (end : List ℕ) (one other : List Line) → put_left old in_table kind end (one ++ other) ≡ put_left old in_table kind end one ++ other
put-append old in_table (Gap bytes) end one other = refl
put-append old in_table (Escaped bytes) end one other = refl
put-append old in_table (OfGame pieces) end one other = go (has_more (left_pieces old in_table pieces)) where
  line : Line
  line = record { kind = OfGame (left_pieces old in_table pieces); end = end }

  go : (b : Bool) → cond b (line ∷ (one ++ other)) (one ++ other) ≡ cond b (line ∷ one) one ++ other
  go true = refl
  go false = refl

pub tables-append : (old : Renews) (in_table : Bool) (one other : List Line) → without_tables old in_table (one ++ other) ≡ without_tables old in_table one ++ without_tables old (tables_behind old in_table one) other
tables-append old in_table [] other = refl
tables-append old in_table (line ∷ one) other =
    let behind = table_behind_line old in_table line.kind in
    ap (put_left old in_table line.kind line.end) (tables-append old behind one other)
    ∙ put-append old in_table line.kind line.end (without_tables old behind one) (without_tables old (tables_behind old behind one) other)

pub behind-append : (old : Renews) (in_table : Bool) (one other : List Line) → tables_behind old in_table (one ++ other) ≡ tables_behind old (tables_behind old in_table one) other
behind-append old in_table [] other = refl
behind-append old in_table (line ∷ one) other = behind-append old (table_behind_line old in_table line.kind) one other

-- ---- lines that stay
all_not : (before : List Line) (line : Line) (after : List Line) → is_escaped_kind line.kind ≡ false → list_all (λ other. is_escaped_kind other.kind) (before ++ line ∷ after) ≡ false
all_not [] line after e = ap (λ b. b && list_all (λ other. is_escaped_kind other.kind) after) e
all_not (first ∷ before) line after e = and_none (is_escaped_kind first.kind) (list_all (λ other. is_escaped_kind other.kind) (before ++ line ∷ after)) (all_not before line after e)

-- before a line that is no count and isn't escaped none goes
pub solid_stays : (old : Renews) (before : List Line) (line : Line) (after : List Line) → is_count old line.kind ≡ false → is_escaped_kind line.kind ≡ false → without_counts old (before ++ line ∷ after) ≡ before ++ line ∷ without_counts old after
solid_stays old [] line after c e = ap (λ b. cond (b && list_all (λ other. is_escaped_kind other.kind) (without_counts old after)) (without_counts old after) (line ∷ without_counts old after)) c
solid_stays old (first ∷ before) line after c e =
    let rest = before ++ line ∷ without_counts old after in
    ap (λ w. cond (is_count old first.kind && list_all (λ other. is_escaped_kind other.kind) w) w (first ∷ w)) (solid_stays old before line after c e)
    ∙ ap (λ b. cond b rest (first ∷ rest)) (and_none (is_count old first.kind) (list_all (λ other. is_escaped_kind other.kind) rest) (all_not before line (without_counts old after) e))

-- a line that goes if it is a count, or doesn't belong to the game
abbrev pub is_minor : (old : Renews) → Line → Bool
is_minor old line = is_escaped_kind line.kind || (is_count old) line.kind

and_right : (a b : Bool) → (a && b) ≡ true → b ≡ true
and_right true b e = e
and_right false b e = absurd (cc)

minor_goes : (old : Renews) (lines : List Line) → list_all (is_minor old) lines ≡ true → (without_counts old lines ≡ without_any_count old lines) × (list_all (λ other. is_escaped_kind other.kind) (without_counts old lines) ≡ true)
minor_goes old [] h = (refl, refl)
minor_goes old (line ∷ lines) h = go (is_escaped_kind line.kind) refl (is_count old line.kind) h (minor_goes old lines) where
  left : List Line
  left = without_counts old lines

  go : (e : Bool) → is_escaped_kind line.kind ≡ e → (c : Bool) → ((e || c) && list_all (is_minor old) lines) ≡ true → (list_all (is_minor old) lines ≡ true → (left ≡ without_any_count old lines) × (list_all (λ other. is_escaped_kind other.kind) left ≡ true)) → (cond (c && list_all (λ other. is_escaped_kind other.kind) left) left (line ∷ left) ≡ cond c (without_any_count old lines) (line ∷ without_any_count old lines)) × (list_all (λ other. is_escaped_kind other.kind) (cond (c && list_all (λ other. is_escaped_kind other.kind) left) left (line ∷ left)) ≡ true)
  go e is true f more =
      let rest = more (and_right (e || true) (list_all (is_minor old) lines) f) in (
        ap (λ b. cond b left (line ∷ left)) rest.1 ∙ rest.0,
        ap (λ b. list_all (λ other. is_escaped_kind other.kind) (cond b left (line ∷ left))) rest.1 ∙ rest.1,
      )
  go true is false f more =
      let rest = more f in
      (ap (λ l. line ∷ l) rest.0, ap (λ b. b && list_all (λ other. is_escaped_kind other.kind) left) is ∙ rest.1)
  go false is false f more = absurd (cc)

-- the last of the lines, if there is one, is no count and isn't escaped
pub record HasSolidEnd (old : Renews) (lines : List Line) : Type 0 where
  pub before : List Line
  pub line : Line
  pub parts : lines ≡ before ++ line ∷ []
  pub no_count : is_count old line.kind ≡ false
  pub not_escaped : is_escaped_kind line.kind ≡ false

abbrev pub EndsSolid : (old : Renews) → List Line → Type 0
EndsSolid old lines = (lines ≡ []) ⊎ HasSolidEnd old lines

counts_parts : (old : Renews) (one other : List Line) → EndsSolid old one → list_all (is_minor old) other ≡ true → without_counts old (one ++ other) ≡ one ++ without_any_count old other
counts_parts old one other (inl none) h =
    ap (λ l. without_counts old (l ++ other)) none ∙ ((minor_goes old other h).0 ∙ ap (λ l. l ++ without_any_count old other) (sym none))
counts_parts old one other (inr solid) h =
    let before = solid.before in
    let line = solid.line in
    ap (λ l. without_counts old (l ++ other)) solid.parts
    ∙ (ap (without_counts old) (append_assoc before (line ∷ []) other)
    ∙ (solid_stays old before line other solid.no_count solid.not_escaped
    ∙ (ap (λ l. before ++ line ∷ l) (minor_goes old other h).0
    ∙ (sym (append_assoc before (line ∷ []) (without_any_count old other))
    ∙ ap (λ l. l ++ without_any_count old other) (sym solid.parts)))))

pub left_parts : (old : Renews) (front back : List Line) → EndsSolid old (without_tables old false front) → list_all (is_minor old) (without_tables old (tables_behind old false front) back) ≡ true → left_of old (front ++ back) ≡ without_tables old false front ++ without_any_count old (without_tables old (tables_behind old false front) back)
left_parts old front back solid minor =
    ap (without_counts old) (tables-append old false front back)
    ∙ counts_parts old (without_tables old false front) (without_tables old (tables_behind old false front) back) solid minor

-- ---- one line more
cond_false : (c m : Bool) → cond c false m ≡ true → (c ≡ false) × (m ≡ true)
cond_false true m e = absurd (cc)
cond_false false m e = (refl, e)

-- a solid line
pub solid_put : (old : Renews) (in_table : Bool) (kind : Kind) (end : List ℕ) → is_solid old in_table kind ≡ true → (put_left old in_table kind end [] ≡ record { kind = kind_left old in_table kind; end = end } ∷ []) × (is_count old (kind_left old in_table kind) ≡ false) × (is_escaped_kind (kind_left old in_table kind) ≡ false)
solid_put old in_table (Gap bytes) end s = absurd (cc)
solid_put old in_table (Escaped bytes) end s = absurd (cc)
solid_put old in_table (OfGame pieces) end s =
    let both = cond_false (is_count old (OfGame (left_pieces old in_table pieces))) (has_more (left_pieces old in_table pieces)) s in
    (ap (λ b. cond b (record { kind = OfGame (left_pieces old in_table pieces); end = end } ∷ []) []) both.1, both.0, refl)

pub ends_solid : (old : Renews) (lines : List Line) (line : Line) (in_table : Bool) → in_table ≡ tables_behind old false lines → is_solid old in_table line.kind ≡ true → EndsSolid old (without_tables old false (lines ++ line ∷ []))
ends_solid old lines line in_table is s =
    let put = solid_put old in_table line.kind line.end s in
    inr (record {
      before = without_tables old false lines;
      line = record { kind = kind_left old in_table line.kind; end = line.end };
      parts = tables-append old false lines (line ∷ []) ∙ ap (λ l. without_tables old false lines ++ l) (ap (λ t. put_left old t line.kind line.end []) (sym is) ∙ put.0);
      no_count = put.1;
      not_escaped = put.2;
    })

-- another one
minor_put : (old : Renews) (in_table : Bool) (kind : Kind) (end : List ℕ) → is_gap_kind kind ≡ false → is_solid old in_table kind ≡ false → list_all (is_minor old) (put_left old in_table kind end []) ≡ true
minor_put old in_table (Gap bytes) end g s = absurd (cc)
minor_put old in_table (Escaped bytes) end g s = refl
minor_put old in_table (OfGame pieces) end g s = go (has_more left) (is_count old (OfGame left)) refl s where
  left : List Piece
  left = left_pieces old in_table pieces

  go : (b c : Bool) → is_count old (OfGame left) ≡ c → cond c false b ≡ false → list_all (is_minor old) (cond b (record { kind = OfGame left; end = end } ∷ []) []) ≡ true
  go true true is e = ap (λ x. (false || x) && true) is
  go true false is e = absurd (cc)
  go false c is e = refl

all-append : (old : Renews) (one other : List Line) → list_all (is_minor old) one ≡ true → list_all (is_minor old) other ≡ true → list_all (is_minor old) (one ++ other) ≡ true
all-append old [] other h g = g
all-append old (line ∷ one) other h g = go (is_minor old line) h (λ rest. all-append old one other rest g) where
  go : (b : Bool) → (b && list_all (is_minor old) one) ≡ true → (list_all (is_minor old) one ≡ true → list_all (is_minor old) (one ++ other) ≡ true) → (b && list_all (is_minor old) (one ++ other)) ≡ true
  go true e more = more e
  go false e more = absurd (cc)

pub stays_minor : (old : Renews) (in_table : Bool) (lines : List Line) (line : Line) (now : Bool) → now ≡ tables_behind old in_table lines → is_gap_kind line.kind ≡ false → is_solid old now line.kind ≡ false → list_all (is_minor old) (without_tables old in_table lines) ≡ true → list_all (is_minor old) (without_tables old in_table (lines ++ line ∷ [])) ≡ true
stays_minor old in_table lines line now is g s h =
    ap (list_all (is_minor old)) (tables-append old in_table lines (line ∷ []) ∙ ap (λ t. without_tables old in_table lines ++ put_left old t line.kind line.end []) (sym is))
    ∙ all-append old (without_tables old in_table lines) (put_left old now line.kind line.end []) h (minor_put old now line.kind line.end g s)
