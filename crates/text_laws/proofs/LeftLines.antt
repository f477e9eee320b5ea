-- What is left of lines can stand in a text.
use Rattle.std.proofs.Common.{◌≡◌, ℕ, Bool, true, false, cond, ◌&&◌, List, [], ◌∷◌, ◌++◌, refl, sym, ◌∙◌, ap, subst, flat_map, map, inl, inr, ◌||◌, arith, append_assoc}
use Rattle.std.specs.List.{list_all, list_any, range_with_len}
use Rattle.pbn_deals.specs.DealValue.{is_word}
use Rattle.pbn_deals.specs.Lines.{is_blank_line}
use Rattle.pbn_deals.specs.Pieces.{Piece, bytes_of, ends_with_return, OfGame, LineIs, is_escaped_line, is_gap, is_of_game, is_in_comment, closes_comment, Line, Comment, HasPieces, at_line_end, space, section_data, quoted_text, unended_text, line_comment, brace_comment, open_comment, tag_pair, no_tag_pair, Kind}
use Rattle.pbn_deals.proofs.SomePieces.{bytes_of-pieces}
use Rattle.pbn_deals.proofs.RowsBack.{IsEnded, row_of, Follow, follow_none, follow_line}
use Rattle.whole_texts.specs.OldTables.{left_pieces, table_behind, has_more, without_tables, is_count, is_escaped_kind, without_counts, is_count_text, is_unknown_text, renews_pars}
use Rattle.text_laws.proofs.LeftPieces.{left_bytes, left_outside, open_left}
use Rattle.text_laws.proofs.LeftSigns.{not_blank, return_left, return_more, sign_ends, left_return, left_lacks, still_of_game}
use Rattle.pbn_deals.proofs.LinesOfText.{true_or_false}
use Rattle.tables.specs.declared.results.Renews.{Renews}
use Rattle.whole_texts.proofs.Ends.{Ended}
use Rattle.std.proofs.lemmas.Bool.{and_parts}
use Rattle.std.specs.Prelude.{codes, bytes_eq}
use Rattle.std.specs.Fmt.{decimal}
use Rattle.std.proofs.lemmas.Slice.Eq.{bytes_eq-Decides}
use Rattle.pbn_deals.specs.Reading.{EndsLine, OpensComment, meaning_of}
use Rattle.tables.specs.TablesText.{incomplete_text}

pub false_unless : (b : Bool) → (b ≡ true → ⊥) → b ≡ false
false_unless true n = absurd (n refl)
false_unless false n = refl

-- ---- without tables: ends
-- a carriage return at the end of what is left of a line
kind_return : (old : Renews) (in_table : Bool) {is_open last : Bool} {line : List ℕ} {pieces : List Piece} → LineIs is_open line (OfGame pieces) last → ends_with_return (left_bytes old in_table pieces) ≡ true → ends_with_return (flat_map bytes_of pieces) ≡ true
kind_return old in_table (is_of_game e b h) r = ap ends_with_return (bytes_of-pieces h) ∙ left_return old in_table h r
kind_return old in_table (is_in_comment l) r = r
kind_return old in_table (closes_comment text {pieces = pieces} e l h) r =
    let rest = left_return old in_table h (return_left (text ++ 125 ∷ []) (left_bytes old in_table pieces) (sign_ends text 125 refl) r) in
    return_more (text ++ 125 ∷ []) (flat_map bytes_of pieces) ((text ++ 125 ∷ []) ++ flat_map bytes_of pieces) refl (ap ends_with_return (bytes_of-pieces h) ∙ rest)

word_left : (bytes : List ℕ) → is_blank_line bytes ≡ false → is_word bytes ≡ true
word_left [] e = absurd (cc)
word_left (byte ∷ bytes) e = refl

some_front : (front rest : List ℕ) (sign : ℕ) → is_word ((front ++ sign ∷ []) ++ rest) ≡ true
some_front [] rest sign = refl
some_front (byte ∷ bytes) rest sign = refl

-- what is left has a byte
left_word : (old : Renews) (in_table : Bool) {is_open last : Bool} {line : List ℕ} {pieces : List Piece} → LineIs is_open line (OfGame pieces) last → has_more (left_pieces old in_table pieces) ≡ true → is_word (flat_map bytes_of pieces) ≡ true → is_word (left_bytes old in_table pieces) ≡ true
left_word old in_table {pieces = pieces} (is_of_game e b h) m w = word_left (left_bytes old in_table pieces) (not_blank refl (left_outside old in_table h) m)
left_word old in_table (is_in_comment l) m w = w
left_word old in_table (closes_comment text {pieces = pieces} e l h) m w = some_front text (left_bytes old in_table pieces) 125

pub ended_line : (old : Renews) (in_table : Bool) {is_open last : Bool} {line : List ℕ} {pieces : List Piece} (end : List ℕ) → LineIs is_open line (OfGame pieces) last → IsEnded (record { bytes = flat_map bytes_of pieces; end = end }) → IsEnded (record { bytes = left_bytes old in_table pieces; end = end })
ended_line old in_table {pieces = pieces} end l (lacks, inl e) = (left_lacks old in_table 10 pieces lacks, inl e)
ended_line old in_table {pieces = pieces} end l (lacks, inr (e, n)) =
    (left_lacks old in_table 10 pieces lacks, inr (e, false_unless (ends_with_return (left_bytes old in_table pieces)) (λ r. true_or_false (kind_return old in_table l r) n)))

no_lines : (lines : List Line) → map row_of lines ≡ [] → lines ≡ []
no_lines [] e = refl
no_lines (line ∷ lines) e = absurd (cc)

-- a line of a game, and what is left of the lines behind it
line_ended : (old : Renews) (in_table : Bool) {is_open last : Bool} {line : List ℕ} {pieces : List Piece} (end : List ℕ) (lines left : List Line) (b : Bool) → has_more (left_pieces old in_table pieces) ≡ b → LineIs is_open line (OfGame pieces) last → Ended (record { kind = OfGame pieces; end = end } ∷ lines) → (Ended lines → Ended left) → (lines ≡ [] → left ≡ []) → Ended (cond b (record { kind = OfGame (left_pieces old in_table pieces); end = end } ∷ left) left)
line_ended old in_table end lines left true m l (inl (is, more)) goes none = inl (ended_line old in_table end l is, goes more)
line_ended old in_table {pieces = pieces} end lines left true m l (inr ((lacks, e, w), n)) goes none =
    inr ((left_lacks old in_table 10 pieces lacks, e, left_word old in_table l m w), ap (map row_of) (none (no_lines lines n)))
line_ended old in_table end lines left false m l (inl (is, more)) goes none = goes more
line_ended old in_table end lines left false m l (inr (u, n)) goes none = subst Ended (sym (none (no_lines lines n))) tt

none_left : (old : Renews) (in_table : Bool) (lines : List Line) → lines ≡ [] → without_tables old in_table lines ≡ []
none_left old in_table [] e = refl
none_left old in_table (line ∷ lines) e = absurd (cc)

-- a line that stays as it is
same_ended : (line : Line) (lines left : List Line) → Ended (line ∷ lines) → (Ended lines → Ended left) → (lines ≡ [] → left ≡ []) → Ended (line ∷ left)
same_ended line lines left (inl (is, more)) goes none = inl (is, goes more)
same_ended line lines left (inr (u, n)) goes none = inr (u, ap (map row_of) (none (no_lines lines n)))

pub left_ended : (old : Renews) (in_table : Bool) {is_open last : Bool} {lines : List Line} → Follow is_open lines last → Ended lines → Ended (without_tables old in_table lines)
left_ended old in_table follow_none h = tt
left_ended old in_table (follow_line {kind = kind} {end} {lines} (is_escaped_line e) r) h = same_ended (record { kind = kind; end = end }) lines (without_tables old in_table lines) h (left_ended old in_table r) (none_left old in_table lines)
left_ended old in_table (follow_line {kind = kind} {end} {lines} (is_gap e b) r) h = same_ended (record { kind = kind; end = end }) lines (without_tables old in_table lines) h (left_ended old in_table r) (none_left old in_table lines)
left_ended old in_table (follow_line {end = end} {lines} (is_of_game {pieces = pieces} e b p) r) h =
    let behind = table_behind old in_table pieces in
    line_ended old in_table end lines (without_tables old behind lines) (has_more (left_pieces old in_table pieces)) refl (is_of_game e b p) h (left_ended old behind r) (none_left old behind lines)
left_ended old in_table (follow_line {kind = kind} {end} {lines} (is_in_comment l) r) h = same_ended (record { kind = kind; end = end }) lines (without_tables old in_table lines) h (left_ended old in_table r) (none_left old in_table lines)
left_ended old in_table (follow_line {end = end} {lines} (closes_comment text {pieces = pieces} e l p) r) h =
    let behind = table_behind old in_table pieces in
    line_ended old in_table end lines (without_tables old behind lines) true refl (closes_comment text e l p) h (left_ended old behind r) (none_left old behind lines)

counts_none : (old : Renews) (lines : List Line) → lines ≡ [] → without_counts old lines ≡ []
counts_none old [] e = refl
counts_none old (line ∷ lines) e = absurd (cc)

pub counts_ended : (old : Renews) (lines : List Line) → Ended lines → Ended (without_counts old lines)
counts_ended old [] h = tt
counts_ended old (line ∷ lines) h = go (is_count old line.kind && list_all (λ other. is_escaped_kind other.kind) (without_counts old lines)) (counts_ended old lines) h where
  go : (b : Bool) → (Ended lines → Ended (without_counts old lines)) → Ended (line ∷ lines) → Ended (cond b (without_counts old lines) (line ∷ without_counts old lines))
  go true more (inl (is, rest)) = more rest
  go true more (inr (u, n)) = subst Ended (sym (counts_none old lines (no_lines lines n))) tt
  go false more f = same_ended line lines (without_counts old lines) f more (counts_none old lines)

-- ---- without tables: what follows
game_line : (old : Renews) (in_table : Bool) {is_open last : Bool} {line : List ℕ} {pieces : List Piece} (end : List ℕ) (lines : List Line) (b : Bool) → has_more (left_pieces old in_table pieces) ≡ b → LineIs false line (OfGame pieces) is_open → HasPieces false line pieces is_open → Follow is_open lines last → Follow false (cond b (record { kind = OfGame (left_pieces old in_table pieces); end = end } ∷ lines) lines) last
game_line old in_table end lines true m (is_of_game e b h) h' r = follow_line (is_of_game (still_of_game old in_table h e) (not_blank refl (left_outside old in_table h) m) (left_outside old in_table h)) r
game_line old in_table {is_open} {last} end lines false m l h r =
    subst (λ o. Follow o lines last) (false_unless is_open (λ o. true_or_false (open_left old in_table o h) m)) r

pub left_follows : (old : Renews) (in_table : Bool) {is_open last : Bool} {lines : List Line} → Follow is_open lines last → Follow is_open (without_tables old in_table lines) last
left_follows old in_table follow_none = follow_none
left_follows old in_table (follow_line (is_escaped_line e) r) = follow_line (is_escaped_line e) (left_follows old in_table r)
left_follows old in_table (follow_line (is_gap e b) r) = follow_line (is_gap e b) (left_follows old in_table r)
left_follows old in_table (follow_line {end = end} {lines} (is_of_game {pieces = pieces} e b h) r) =
    game_line old in_table end (without_tables old (table_behind old in_table pieces) lines) (has_more (left_pieces old in_table pieces)) refl (is_of_game e b h) h (left_follows old (table_behind old in_table pieces) r)
left_follows old in_table (follow_line (is_in_comment l) r) = follow_line (is_in_comment l) (left_follows old in_table r)
left_follows old in_table (follow_line (closes_comment text {pieces = pieces} e l h) r) =
    follow_line (closes_comment text {line = text ++ 125 ∷ left_bytes old in_table pieces} refl l (left_outside old in_table h)) (left_follows old (table_behind old in_table pieces) r)

-- ---- lines that tell how many results were known
any_of : (p : ℕ → Bool) (counts : List ℕ) → list_any p counts ≡ true → (count : ℕ) × (p count ≡ true)
any_of p [] e = absurd (cc)
any_of p (count ∷ counts) e = go (p count) refl e (any_of p counts) where
  go : (b : Bool) → p count ≡ b → (b || list_any p counts) ≡ true → (list_any p counts ≡ true → (count : ℕ) × (p count ≡ true)) → (count : ℕ) × (p count ≡ true)
  go true f g more = (count, f)
  go false f g more = more g

-- a comment that goes: its first byte and its last
record IsOldText (bytes : List ℕ) : Type 0 where
  rest : List ℕ
  begins : bytes ≡ 59 ∷ rest
  front : List ℕ
  last : ℕ
  ends : bytes ≡ front ++ last ∷ []
  no_brace : last ≡ 125 → ⊥

count_text : (count : ℕ) → IsOldText (incomplete_text count)
unfolding incomplete_text
count_text count = record {
  rest = _;
  begins = refl;
  front = codes "; table incomplete: " ++ (decimal count ++ codes " of 2");
  last = 48;
  ends = sym (append_assoc (codes "; table incomplete: ") (decimal count ++ codes " of 2") (48 ∷ []) ∙ ap (λ x. codes "; table incomplete: " ++ x) (append_assoc (decimal count) (codes " of 2") (48 ∷ [])));
  no_brace = λ e. absurd (omega (arith, e));
}

unknown_text : (bytes : List ℕ) → is_unknown_text bytes ≡ true → IsOldText bytes
unknown_text bytes e = go (bytes_eq bytes (codes "; par unknown: no dealer")) refl e where
  go : (b : Bool) → bytes_eq bytes (codes "; par unknown: no dealer") ≡ b → (b || bytes_eq bytes (codes "; par unknown: no vulnerability")) ≡ true → IsOldText bytes
  go true f g =
      let is = (bytes_eq-Decides bytes (codes "; par unknown: no dealer")).0 f in
      record { rest = _; begins = is; front = codes "; par unknown: no deale"; last = 114; ends = is; no_brace = λ e. absurd (omega (arith, e)) }
  go false f g =
      let is = (bytes_eq-Decides bytes (codes "; par unknown: no vulnerability")).0 g in
      record { rest = _; begins = is; front = codes "; par unknown: no vulnerabilit"; last = 121; ends = is; no_brace = λ e. absurd (omega (arith, e)) }

count_is : (old : Renews) (bytes : List ℕ) → is_count old (OfGame (Comment bytes ∷ [])) ≡ true → IsOldText bytes
count_is old bytes e = go (is_count_text bytes) refl e where
  go : (b : Bool) → is_count_text bytes ≡ b → (b || (is_unknown_text bytes && renews_pars old)) ≡ true → IsOldText bytes
  go true f g =
      let found = any_of (λ count. bytes_eq bytes (incomplete_text count)) (range_with_len 0 20) f in
      subst IsOldText (sym ((bytes_eq-Decides bytes (incomplete_text found.0)).0 found.1)) (count_text found.0)
  go false f g = unknown_text bytes (and_parts (is_unknown_text bytes) (renews_pars old) g).0

last_same : (front front' : List ℕ) (sign sign' : ℕ) → front ++ sign ∷ [] ≡ front' ++ sign' ∷ [] → sign ≡ sign'
last_same [] [] sign sign' e = cc
last_same [] (x ∷ []) sign sign' e = absurd (cc)
last_same [] (x ∷ y ∷ xs) sign sign' e = absurd (cc)
last_same (x ∷ []) [] sign sign' e = absurd (cc)
last_same (x ∷ y ∷ xs) [] sign sign' e = absurd (cc)
last_same (x ∷ xs) (y ∷ ys) sign sign' e = let tails : xs ++ sign ∷ [] ≡ ys ++ sign' ∷ [] = cc in last_same xs ys sign sign' tails

alone : (old : Renews) (bytes : List ℕ) (pieces : List Piece) → is_count old (OfGame (Comment bytes ∷ pieces)) ≡ true → pieces ≡ []
alone old bytes [] e = refl
alone old bytes (piece ∷ pieces) e = absurd (cc)

closed : {in_data is_open : Bool} {line : List ℕ} {pieces : List Piece} → pieces ≡ [] → HasPieces in_data line pieces is_open → false ≡ is_open
closed e at_line_end = refl
closed e (space m r) = absurd (cc)
closed e (section_data d r) = absurd (cc)
closed e (quoted_text text m f l r) = absurd (cc)
closed e (unended_text m l) = absurd (cc)
closed e (line_comment m) = absurd (cc)
closed e (brace_comment text m f l r) = absurd (cc)
closed e (open_comment m l) = absurd (cc)
closed e (tag_pair inside m g f r) = absurd (cc)
closed e (no_tag_pair m g) = absurd (cc)

pieces_closed : (old : Renews) {is_open : Bool} {line : List ℕ} {pieces : List Piece} → HasPieces false line pieces is_open → is_count old (OfGame pieces) ≡ true → false ≡ is_open
pieces_closed old at_line_end c = refl
pieces_closed old (space m r) c = absurd (cc)
pieces_closed old (section_data d r) c = absurd (cc)
pieces_closed old (quoted_text text m f l r) c = absurd (cc)
pieces_closed old (unended_text m l) c = refl
pieces_closed old (line_comment m) c = refl
pieces_closed old (brace_comment {byte = byte} text {pieces = pieces} m f l r) c = closed (alone old (byte ∷ (text ++ 125 ∷ [])) pieces c) r
pieces_closed old (open_comment {byte = byte} {rest} m l) c =
    let is = count_is old (byte ∷ rest) c in
    let same : byte ∷ rest ≡ 59 ∷ is.rest = is.begins in
    let sign : byte ≡ 59 = cc in
    let means : EndsLine ≡ OpensComment = sym (ap meaning_of sign) ∙ m in
    absurd (cc)
pieces_closed old (tag_pair inside m g f r) c = absurd (cc)
pieces_closed old (no_tag_pair m g) c = refl

pub count_closed : (old : Renews) {is_open last : Bool} {line : List ℕ} {kind : Kind} → LineIs is_open line kind last → is_count old kind ≡ true → is_open ≡ last
count_closed old (is_escaped_line e) c = refl
count_closed old (is_gap e b) c = refl
count_closed old (is_of_game e b h) c = pieces_closed old h c
count_closed old (is_in_comment l) c = refl
count_closed old (closes_comment text {pieces = pieces} e l h) c =
    let none = alone old (text ++ 125 ∷ []) pieces c in
    let is = count_is old (text ++ 125 ∷ []) (subst (λ p. is_count old (OfGame (Comment (text ++ 125 ∷ []) ∷ p)) ≡ true) none c) in
    absurd (is.no_brace (sym (last_same text is.front 125 is.last is.ends)))

pub counts_follow : (old : Renews) {is_open last : Bool} {lines : List Line} → Follow is_open lines last → Follow is_open (without_counts old lines) last
counts_follow old follow_none = follow_none
counts_follow old (follow_line {is_open} {is_open'} {last} {kind = kind} {end} {lines} l r) = go (is_count old kind) refl (list_all (λ other. is_escaped_kind other.kind) (without_counts old lines)) (counts_follow old r) where
  go : (c : Bool) → is_count old kind ≡ c → (a : Bool) → Follow is_open' (without_counts old lines) last → Follow is_open (cond (c && a) (without_counts old lines) (record { kind = kind; end = end } ∷ without_counts old lines)) last
  go true c true more = subst (λ o. Follow o (without_counts old lines) last) (sym (count_closed old l c)) more
  go true c false more = follow_line l more
  go false c a more = follow_line l more
