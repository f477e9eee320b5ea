-- The lines that are written are those with their ends.
use Rattle.std.proofs.Common.{◌≡◌, ℕ, Bool, true, false, cond, ◌||◌, List, [], ◌∷◌, ◌++◌, Option, None, is_some, refl, sym, ◌∙◌, ap, subst, append-nil, flat_map, inl, inr}
use Rattle.std.specs.List.{list_any}
use Rattle.std.proofs.lemmas.Grind.{flat_map-append}
use Rattle.pbn_deals.specs.declared.boards.Board.{Board}
use Rattle.pbn_deals.specs.Pieces.{Piece, Space, Comment, Pair, Data, NoPair, Kind, Gap, Escaped, OfGame, Line, line_bytes}
use Rattle.pbn_deals.specs.Tags.{is_deal}
use Rattle.pbn_deals.proofs.RowsBack.{Follow}
use Rattle.tables.specs.TablesText.{Printed}
use Rattle.whole_texts.specs.LineEnds.{last_of, missing_end}
use Rattle.whole_texts.specs.OldTables.{is_old, left_pieces, has_more, put_left, table_behind_line, without_tables, is_count, is_escaped_kind, without_counts, left_of, is_deal_pair, is_deal_kind, has_deal}
use Rattle.whole_texts.specs.WholeText.{Game, behind, section_lines, if_none, with_more, ended_with}
use Rattle.whole_texts.specs.WholeText as said
use Rattle.whole_texts.specs.LeftText.{kind_left, tables_behind}
use Rattle.whole_texts.specs.FirstGame.{HasDealLine}
use Rattle.whole_texts.proofs.Ends.{Ended, front_ended, back_ended}
use Rattle.whole_texts.proofs.EndsBytes.{last-append}
use Rattle.whole_texts.proofs.SolidLines.{tables-append, solid_stays}
use Rattle.text_laws.specs.GivenEnds.{new_end, deal_end, with_ends, with_section, dealt_lines, games_lines}
use Rattle.text_laws.proofs.DealTags.{left_deal, count_no_deal}
use Rattle.text_laws.proofs.Ends.{left_of_ended, new_again}
use Rattle.text_laws.proofs.EndsBytes.{unended_missing, same_ends}
use Rattle.text_laws.proofs.WholeLines.{GamesFollow, lines_of_games}
use Rattle.tables.specs.declared.results.Renews.{Renews}

-- ---- lines without a Deal tag
or_parts : (a b : Bool) → (a || b) ≡ false → (a ≡ false) × (b ≡ false)
or_parts true b e = absurd (cc)
or_parts false b e = (refl, e)

pieces_no_deal : (old : Renews) (in_table : Bool) (pieces : List Piece) → list_any is_deal_pair pieces ≡ false → list_any is_deal_pair (left_pieces old in_table pieces) ≡ false
pieces_no_deal old in_table [] e = refl
pieces_no_deal old in_table (Space byte ∷ pieces) e = pieces_no_deal old in_table pieces e
pieces_no_deal old in_table (Comment bytes ∷ pieces) e = pieces_no_deal old in_table pieces e
pieces_no_deal old in_table (Pair name value bytes ∷ pieces) e =
    let both = or_parts (is_deal name) (list_any is_deal_pair pieces) e in
    go (is_old old name) both.0 (pieces_no_deal old true pieces both.1) (pieces_no_deal old false pieces both.1)
  where
    go : (b : Bool) → is_deal name ≡ false → list_any is_deal_pair (left_pieces old true pieces) ≡ false → list_any is_deal_pair (left_pieces old false pieces) ≡ false → list_any is_deal_pair (cond b (left_pieces old true pieces) (Pair name value bytes ∷ left_pieces old false pieces)) ≡ false
    go true d gone kept = gone
    go false d gone kept = ap (λ b. b || list_any is_deal_pair (left_pieces old false pieces)) d ∙ kept
pieces_no_deal old true (Data bytes ∷ pieces) e = pieces_no_deal old true pieces e
pieces_no_deal old false (Data bytes ∷ pieces) e = pieces_no_deal old false pieces e
pieces_no_deal old in_table (NoPair bytes ∷ pieces) e = pieces_no_deal old in_table pieces e

put_no_deal : (old : Renews) (in_table : Bool) (kind : Kind) (end : List ℕ) (lines : List Line) → is_deal_kind kind ≡ false → has_deal lines ≡ false → has_deal (put_left old in_table kind end lines) ≡ false
put_no_deal old in_table (Gap bytes) end lines d h = h
put_no_deal old in_table (Escaped bytes) end lines d h = h
put_no_deal old in_table (OfGame pieces) end lines d h = go (has_more (left_pieces old in_table pieces)) where
  go : (b : Bool) → has_deal (cond b (record { kind = OfGame (left_pieces old in_table pieces); end = end } ∷ lines) lines) ≡ false
  go true = ap (λ b. b || has_deal lines) (pieces_no_deal old in_table pieces d) ∙ h
  go false = h

tables_no_deal : (old : Renews) (in_table : Bool) (lines : List Line) → has_deal lines ≡ false → has_deal (without_tables old in_table lines) ≡ false
tables_no_deal old in_table [] h = refl
tables_no_deal old in_table (line ∷ lines) h =
    let both = or_parts (is_deal_kind line.kind) (has_deal lines) h in
    let behind = table_behind_line old in_table line.kind in
    put_no_deal old in_table line.kind line.end (without_tables old behind lines) both.0 (tables_no_deal old behind lines both.1)

-- ---- the line of the Deal tag stays
put_deal : (old : Renews) (in_table : Bool) (kind : Kind) (end : List ℕ) (lines : List Line) → is_deal_kind kind ≡ true → (put_left old in_table kind end lines ≡ record { kind = kind_left old in_table kind; end = end } ∷ lines) × (is_deal_kind (kind_left old in_table kind) ≡ true)
put_deal old in_table (Gap bytes) end lines d = absurd (cc)
put_deal old in_table (Escaped bytes) end lines d = absurd (cc)
put_deal old in_table (OfGame pieces) end lines d =
    let left = left_deal old in_table pieces d in
    (ap (λ b. cond b (record { kind = OfGame (left_pieces old in_table pieces); end = end } ∷ lines) lines) left.1, left.0)

not_count : (old : Renews) (kind : Kind) → is_deal_kind kind ≡ true → is_count old kind ≡ false
not_count old kind d = go (is_count old kind) refl where
  go : (b : Bool) → is_count old kind ≡ b → b ≡ false
  go true c = let x : true ≡ false = sym d ∙ count_no_deal old kind c in absurd (cc)
  go false c = refl

not_escaped : (kind : Kind) → is_deal_kind kind ≡ true → is_escaped_kind kind ≡ false
not_escaped (Gap bytes) d = refl
not_escaped (Escaped bytes) d = absurd (cc)
not_escaped (OfGame pieces) d = refl

record StaysDeal (old : Renews) (lines : List Line) (end : List ℕ) (after : List Line) : Type 0 where
  before : List Line
  kind : Kind
  behind : List Line
  parts : left_of old lines ≡ before ++ record { kind = kind; end = end } ∷ behind
  none_before : has_deal before ≡ false
  deal : is_deal_kind kind ≡ true
  last : after ≡ [] → behind ≡ []

deal_stays : (old : Renews) (lines : List Line) (end : List ℕ) (h : HasDealLine lines end) → StaysDeal old lines end h.after
deal_stays old lines end h =
    let in_table = tables_behind old false h.before in
    let line : Line = record { kind = h.kind; end = end } in
    let after = without_tables old (table_behind_line old in_table h.kind) h.after in
    let left : Line = record { kind = kind_left old in_table h.kind; end = end } in
    let before = without_tables old false h.before in
    let put = put_deal old in_table h.kind end after h.deal in
    record {
      before = before;
      kind = left.kind;
      behind = without_counts old after;
      parts =
          ap (left_of old) h.parts
          ∙ (ap (without_counts old) (tables-append old false h.before (line ∷ h.after) ∙ ap (λ l. before ++ l) put.0)
          ∙ solid_stays old before left after (not_count old left.kind put.1) (not_escaped left.kind put.1));
      none_before = tables_no_deal old false h.before h.none_before;
      deal = put.1;
      last = λ none. ap (λ l. without_counts old (without_tables old (table_behind_line old in_table h.kind) l)) none;
    }

-- ---- its end
deal_end-at : (other : List ℕ) (before : List Line) (line : Line) (after : List Line) → has_deal before ≡ false → is_deal_kind line.kind ≡ true → deal_end other (before ++ line ∷ after) ≡ if_none (new_end other line.kind) line.end
deal_end-at other [] line after none d = ap (λ b. cond b (if_none (new_end other line.kind) line.end) (deal_end other after)) d
deal_end-at other (first ∷ before) line after none d =
    let both = or_parts (is_deal_kind first.kind) (has_deal before) none in
    ap (λ b. cond b (if_none (new_end other first.kind) first.end) (deal_end other (before ++ line ∷ after))) both.0
    ∙ deal_end-at other before line after both.1 d

-- a line without an end is the last one
unended_last : (line : Line) (after : List Line) → line.end ≡ [] → Ended (line ∷ after) → after ≡ []
unended_last line [] none h = refl
unended_last line (next ∷ after) none (inl ((lacks, inl e), more)) = absurd (let x = sym none ∙ e in cc)
unended_last line (next ∷ after) none (inl ((lacks, inr (e, n)), more)) = absurd (let x = sym none ∙ e in cc)
unended_last line (next ∷ after) none (inr (u, m)) = absurd (cc)

-- ---- the line of the Deal tag
deal_line : (lines : List Line) → has_deal lines ≡ true → HasDealLine lines (said.deal_end lines)
deal_line [] d = absurd (cc)
deal_line (line ∷ lines) d = go (is_deal_kind line.kind) refl d (deal_line lines) where
  go : (b : Bool) → is_deal_kind line.kind ≡ b → (b || has_deal lines) ≡ true → (has_deal lines ≡ true → HasDealLine lines (said.deal_end lines)) → HasDealLine (line ∷ lines) (cond b line.end (said.deal_end lines))
  go true e f more = record { before = []; kind = line.kind; after = lines; parts = refl; none_before = refl; deal = e }
  go false e f more =
      let h = more f in
      record {
        before = line ∷ h.before;
        kind = h.kind;
        after = h.after;
        parts = ap (λ l. line ∷ l) h.parts;
        none_before = ap (λ b. b || has_deal h.before) e ∙ h.none_before;
        deal = h.deal;
      }

-- ---- the section
module _ (old : Renews) (other : List ℕ) (results : Printed) (lines : List Line) (follows : Follow false lines false) (ended : Ended lines) where
  abbrev left : List Line
  left = left_of old lines

  abbrev last : Option ℕ
  last = last_of None (flat_map line_bytes left)

  section_with : (end missing given : List ℕ) → deal_end other left ≡ given → missing_end last given ≡ missing → given ≡ if_none missing end → ended_with missing end results left ≡ with_section other results left
  section_with end missing given is m g = sym (
      ap (λ d. with_ends d left ++ section_lines d results) is
      ∙ (ap (λ l. l ++ section_lines given results) (sym (same_ends given left (left_of_ended old follows ended)))
      ∙ (ap (λ x. with_more x left ++ section_lines given results) m
      ∙ ap (λ e. with_more missing left ++ section_lines e results) g)))

  section_same : (end : List ℕ) → HasDealLine lines end → said.with_section other end results left ≡ with_section other results left
  section_same (byte ∷ bytes) h =
      let end = byte ∷ bytes in
      let stays = deal_stays old lines end h in
      let at = ap (deal_end other) stays.parts ∙ deal_end-at other stays.before (record { kind = stays.kind; end = end }) stays.behind stays.none_before stays.deal in
      section_with end (missing_end last end) end at refl refl
  section_same [] h =
      let stays = deal_stays old lines [] h in
      let line : Line = record { kind = stays.kind; end = [] } in
      let own : Line = record { kind = h.kind; end = [] } in
      let none = stays.last (unended_last own h.after refl (back_ended h.before (own ∷ h.after) (subst Ended h.parts ended))) in
      let whole : left ≡ stays.before ++ line ∷ [] = stays.parts ∙ ap (λ b. stays.before ++ line ∷ b) none in
      let line_ended = back_ended stays.before (line ∷ []) (subst Ended whole (left_of_ended old follows ended)) in
      let front = last_of None (flat_map line_bytes stays.before) in
      let last_is : last ≡ last_of front (line_bytes line) =
      ap (λ l. last_of None (flat_map line_bytes l)) whole
      ∙ (ap (last_of None) (flat_map-append line_bytes stays.before (line ∷ []))
      ∙ (last-append None (flat_map line_bytes stays.before) (line_bytes line ++ [])
      ∙ ap (last_of front) (append-nil (line_bytes line)))) in
      let missing : (end : List ℕ) → missing_end last end ≡ new_end end stays.kind = λ end. ap (λ l. missing_end l end) last_is ∙ unended_missing front end line line_ended refl in
      let given = new_end other stays.kind in
      let at : deal_end other left ≡ given = ap (deal_end other) stays.parts ∙ deal_end-at other stays.before line stays.behind stays.none_before stays.deal in
      section_with [] (missing_end last other) given at (missing given ∙ (new_again other stays.kind ∙ sym (missing other))) (sym (missing other))

-- ---- the games
module _ (old : Renews) (other : List ℕ) (results : ℕ → Printed) where
  dealt_same : (boards : List (ℕ × Board)) (lines : List Line) → Follow false lines false → Ended lines → has_deal lines ≡ true → said.dealt_lines old other results boards lines ≡ dealt_lines old other results boards lines
  dealt_same [] lines f h d = refl
  dealt_same (numbered ∷ more) lines f h d = ap (λ l. cond (is_some numbered.1.deal) l (left_of old lines)) (section_same old other (results numbered.0) lines f h (said.deal_end lines) (deal_line lines d))

  pub games_same : (boards : List (ℕ × Board)) (games : List Game) → GamesFollow false games → Ended (lines_of_games games) → said.games_lines old other results boards games ≡ games_lines old other results boards games
  games_same boards [] f h = refl
  games_same boards (game ∷ games) f h =
      let here = front_ended (game.lines ++ game.gap) (lines_of_games games) h in
      let rest = back_ended (game.lines ++ game.gap) (lines_of_games games) h in
      go (has_deal game.lines) refl (front_ended game.lines game.gap here) (games_same (behind boards) games f.2 rest) (games_same boards games f.2 rest)
    where
      go : (b : Bool) → has_deal game.lines ≡ b → Ended game.lines → said.games_lines old other results (behind boards) games ≡ games_lines old other results (behind boards) games → said.games_lines old other results boards games ≡ games_lines old other results boards games → cond b (said.dealt_lines old other results boards game.lines ++ (game.gap ++ said.games_lines old other results (behind boards) games)) (game.lines ++ (game.gap ++ said.games_lines old other results boards games)) ≡ cond b (dealt_lines old other results boards game.lines ++ (game.gap ++ games_lines old other results (behind boards) games)) (game.lines ++ (game.gap ++ games_lines old other results boards games))
      go true d e next same =
          ap (λ l. l ++ (game.gap ++ said.games_lines old other results (behind boards) games)) (dealt_same boards game.lines f.0 e d)
          ∙ ap (λ r. dealt_lines old other results boards game.lines ++ (game.gap ++ r)) next
      go false d e next same = ap (λ r. game.lines ++ (game.gap ++ r)) same
