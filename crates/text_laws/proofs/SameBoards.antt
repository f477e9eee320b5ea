-- The lines that are written of a text have its boards.
use Rattle.std.specs.Prelude.{map, codes}
use Rattle.tables.specs.declared.pars.BoardPar.{BoardPar}
use Rattle.tables.specs.declared.pars.BoardPar.TheVariants.{Known, NoDealer, NoVulnerability}
use Rattle.std.proofs.Common.{◌≡◌, ℕ, ◌+◌, Bool, true, false, cond, ◌&&◌, List, [], ◌∷◌, ◌++◌, length, Option, Some, None, Ok, is_some, refl, subst, arith, flat_map}
use Rattle.std.specs.List.{list_all}
use Rattle.cards.specs.declared.seats.Seat.{Seat}
use Rattle.cards.specs.declared.suits.Trump.{Trump}
use Rattle.pbn_deals.specs.declared.boards.Board.{Board}
use Rattle.pbn_deals.specs.Tags.{is_board}
use Rattle.pbn_deals.specs.Games.{Tags, no_tags, boards_of, TakesTag, board_tag, deal_tag, other_tag}
use Rattle.pbn_deals.specs.Pieces.{Piece, Space, Comment, Pair, Data, NoPair, Gap, Escaped, OfGame, Line}
use Rattle.pbn_deals.specs.LineBoards.{AddsTag, AddsPieces, adds_nothing, adds_pair, adds_silent, HaveBoards, at_text_end, behind_gap, behind_escaped, behind_line}
use Rattle.tables.specs.TablesText.{Results, Printed, entries, row_text, is_complete, published_count, incomplete_text}
use Rattle.whole_texts.specs.OldTables.{is_old, left_pieces, table_behind, has_more, without_tables, is_count, is_escaped_kind, without_counts, left_of, has_deal}
use Rattle.whole_texts.specs.WholeText.{Game, put_line, games_of, as_data, row_lines, entry_lines, table_pair, table_lines, with_end, par_kinds, section_lines, behind}
use Rattle.text_laws.specs.GivenEnds.{deal_end, with_ends, with_section, dealt_lines, games_lines}
use Rattle.tables.specs.declared.results.Renews.{Renews}
use Rattle.text_laws.proofs.DealTags.{no_deal, old_length, same_length}

no_board : (old : Renews) (name : List ℕ) → is_old old name ≡ true → is_board name ≡ true → ⊥
no_board old name t b = let one = old_length old name t in let other = same_length (codes "BOARD") name b in absurd (omega (arith, one, other))

module _ (old : Renews) (count : ℕ) where
  table_adds : {number : ℕ} {tags tags' : Tags} {name value : List ℕ} → is_old old name ≡ true → TakesTag number count tags name value (Ok tags') → tags' ≡ tags
  table_adds {name = name} t (board_tag b k) = absurd (no_board old name t b)
  table_adds {name = name} t (deal_tag b d k) = absurd (no_deal old name t d)
  table_adds t (other_tag b d) = refl

  -- ---- pieces
  pair_adds : (b : Bool) {tags tags' last : Tags} {name value : List ℕ} (bytes : List ℕ) (pieces : List Piece) → is_old old name ≡ b → AddsTag count tags name value tags' → AddsPieces count tags' (left_pieces old true pieces) last → AddsPieces count tags' (left_pieces old false pieces) last → AddsPieces count tags (cond b (left_pieces old true pieces) (Pair name value bytes ∷ left_pieces old false pieces)) last
  pair_adds true {last = last} bytes pieces t a gone kept = subst (λ g. AddsPieces count g (left_pieces old true pieces) last) (table_adds t (a 0)) gone
  pair_adds false bytes pieces t a gone kept = adds_pair a kept

  left_adds : (in_table : Bool) {tags last : Tags} (pieces : List Piece) → AddsPieces count tags pieces last → AddsPieces count tags (left_pieces old in_table pieces) last
  left_adds in_table [] adds_nothing = adds_nothing
  left_adds in_table (Pair name value bytes ∷ pieces) (adds_pair t a) = pair_adds (is_old old name) bytes pieces refl t (left_adds true pieces a) (left_adds false pieces a)
  left_adds in_table (Pair name value bytes ∷ pieces) (adds_silent s a) = absurd (cc)
  left_adds in_table (Space byte ∷ pieces) (adds_silent s a) = adds_silent refl (left_adds in_table pieces a)
  left_adds in_table (Comment bytes ∷ pieces) (adds_silent s a) = adds_silent refl (left_adds in_table pieces a)
  left_adds true (Data bytes ∷ pieces) (adds_silent s a) = left_adds true pieces a
  left_adds false (Data bytes ∷ pieces) (adds_silent s a) = adds_silent refl (left_adds false pieces a)
  left_adds in_table (NoPair bytes ∷ pieces) (adds_silent s a) = absurd (cc)

  -- nothing but blanks
  blanks_add : {tags last : Tags} (pieces : List Piece) → has_more pieces ≡ false → AddsPieces count tags pieces last → last ≡ tags
  blanks_add [] m adds_nothing = refl
  blanks_add (Space byte ∷ pieces) m (adds_silent s a) = blanks_add pieces m a
  blanks_add (Comment bytes ∷ pieces) m a = absurd (cc)
  blanks_add (Pair name value bytes ∷ pieces) m a = absurd (cc)
  blanks_add (Data bytes ∷ pieces) m a = absurd (cc)
  blanks_add (NoPair bytes ∷ pieces) m a = absurd (cc)

  -- a line of how many results were known
  count_adds : {tags last : Tags} (pieces : List Piece) → is_count old (OfGame pieces) ≡ true → AddsPieces count tags pieces last → last ≡ tags
  count_adds [] c adds_nothing = refl
  count_adds (Comment bytes ∷ []) c (adds_silent s adds_nothing) = refl
  count_adds (Comment bytes ∷ piece ∷ pieces) c a = absurd (cc)
  count_adds (Space byte ∷ pieces) c a = absurd (cc)
  count_adds (Pair name value bytes ∷ pieces) c a = absurd (cc)
  count_adds (Data bytes ∷ pieces) c a = absurd (cc)
  count_adds (NoPair bytes ∷ pieces) c a = absurd (cc)

  -- ---- the lines of a game
  pub data AddsLines : Tags → List Line → Tags → Type 0 where
    adds_none : {tags : Tags} → AddsLines tags [] tags
    adds_escaped :
        {tags last : Tags} {bytes end : List ℕ} {lines : List Line} →
        AddsLines tags lines last → AddsLines tags (record { kind = Escaped bytes; end = end } ∷ lines) last
    adds_line :
        {tags tags' last : Tags} {pieces : List Piece} {end : List ℕ} {lines : List Line} →
        AddsPieces count tags pieces tags' → AddsLines tags' lines last →
        AddsLines tags (record { kind = OfGame pieces; end = end } ∷ lines) last

  line_adds : (b : Bool) {tags tags' last : Tags} (pieces : List Piece) (end : List ℕ) (lines : List Line) → has_more pieces ≡ b → AddsPieces count tags pieces tags' → AddsLines tags' lines last → AddsLines tags (cond b (record { kind = OfGame pieces; end = end } ∷ lines) lines) last
  line_adds true pieces end lines m a more = adds_line a more
  line_adds false {last = last} pieces end lines m a more = subst (λ g. AddsLines g lines last) (blanks_add pieces m a) more

  lines_add : (in_table : Bool) {tags last : Tags} {lines : List Line} → AddsLines tags lines last → AddsLines tags (without_tables old in_table lines) last
  lines_add in_table adds_none = adds_none
  lines_add in_table (adds_escaped r) = adds_escaped (lines_add in_table r)
  lines_add in_table (adds_line {pieces = pieces} {end} {lines} a r) =
      line_adds (has_more (left_pieces old in_table pieces)) (left_pieces old in_table pieces) end (without_tables old (table_behind old in_table pieces) lines) refl (left_adds in_table pieces a) (lines_add (table_behind old in_table pieces) r)

  counts_add : {tags last : Tags} {lines : List Line} → AddsLines tags lines last → AddsLines tags (without_counts old lines) last
  counts_add adds_none = adds_none
  counts_add (adds_escaped r) = adds_escaped (counts_add r)
  counts_add {tags} {last} (adds_line {tags' = tags'} {pieces} {end} {lines} a r) = go (is_count old (OfGame pieces)) refl (list_all (λ other. is_escaped_kind other.kind) (without_counts old lines)) (counts_add r) where
    go : (c : Bool) → is_count old (OfGame pieces) ≡ c → (b : Bool) → AddsLines tags' (without_counts old lines) last → AddsLines tags (cond (c && b) (without_counts old lines) (record { kind = OfGame pieces; end = end } ∷ without_counts old lines)) last
    go true c true more = subst (λ g. AddsLines g (without_counts old lines) last) (count_adds pieces c a) more
    go true c false more = adds_line a more
    go false c b more = adds_line a more

  left_of_adds : {tags last : Tags} {lines : List Line} → AddsLines tags lines last → AddsLines tags (left_of old lines) last
  left_of_adds h = counts_add (lines_add false h)

  ends_add : (end : List ℕ) {tags last : Tags} {lines : List Line} → AddsLines tags lines last → AddsLines tags (with_ends end lines) last
  ends_add end adds_none = adds_none
  ends_add end (adds_escaped adds_none) = adds_escaped adds_none
  ends_add end (adds_escaped (adds_escaped r)) = adds_escaped (ends_add end (adds_escaped r))
  ends_add end (adds_escaped (adds_line a r)) = adds_escaped (ends_add end (adds_line a r))
  ends_add end (adds_line a adds_none) = adds_line a adds_none
  ends_add end (adds_line a (adds_escaped r)) = adds_line a (ends_add end (adds_escaped r))
  ends_add end (adds_line a (adds_line b r)) = adds_line a (ends_add end (adds_line b r))

  lines_append : {tags tags' last : Tags} {lines others : List Line} → AddsLines tags lines tags' → AddsLines tags' others last → AddsLines tags (lines ++ others) last
  lines_append adds_none r = r
  lines_append (adds_escaped h) r = adds_escaped (lines_append h r)
  lines_append (adds_line a h) r = adds_line a (lines_append h r)

  -- ---- a section
  data_adds : {tags : Tags} (bytes : List ℕ) → AddsPieces count tags (as_data bytes) tags
  data_adds [] = adds_nothing
  data_adds (byte ∷ bytes) = adds_silent refl (data_adds bytes)

  rows_add : (end : List ℕ) (results : Results) {tags : Tags} (some : List (Seat × Trump)) → AddsLines tags (flat_map (entry_lines end results) some) tags
  rows_add end results [] = adds_none
  rows_add end results {tags} (entry ∷ some) = go (results entry.0 entry.1) (rows_add end results some) where
    go : (result : Option ℕ) → AddsLines tags (flat_map (entry_lines end results) some) tags → AddsLines tags (row_lines end entry.0 entry.1 result ++ flat_map (entry_lines end results) some) tags
    go None more = more
    go (Some tricks) more = adds_line (data_adds (row_text entry.0 entry.1 tricks)) more

  table_lines_add : (end : List ℕ) (results : Results) (tags : Tags) → AddsLines tags (table_lines end results) tags
  table_lines_add end results tags = go (is_complete results) where
    go : (b : Bool) → AddsLines tags (cond b (record { kind = OfGame (table_pair ∷ []); end = end } ∷ flat_map (entry_lines end results) entries) (record { kind = OfGame (Comment (incomplete_text (published_count results)) ∷ []); end = end } ∷ [])) tags
    go true = adds_line (adds_pair (λ number. other_tag refl refl) adds_nothing) (rows_add end results entries)
    go false = adds_line (adds_silent refl adds_nothing) adds_none

  pars_add : (end : List ℕ) (par : Option BoardPar) (tags : Tags) → AddsLines tags (map (with_end end) (par_kinds par)) tags
  pars_add end None tags = adds_none
  pars_add end (Some (Known dealer vulnerable score contracts)) tags = adds_line (adds_pair (λ number. other_tag refl refl) adds_nothing) (adds_line (adds_pair (λ number. other_tag refl refl) adds_nothing) adds_none)
  pars_add end (Some NoDealer) tags = adds_line (adds_silent refl adds_nothing) adds_none
  pars_add end (Some NoVulnerability) tags = adds_line (adds_silent refl adds_nothing) adds_none

  section_adds : (end : List ℕ) (printed : Printed) (tags : Tags) → AddsLines tags (section_lines end printed) tags
  section_adds end printed tags = lines_append (pars_add end printed.par tags) (table_lines_add end printed.results tags)

  pub dealt_adds : (other : List ℕ) (results : ℕ → Printed) (boards : List (ℕ × Board)) {tags last : Tags} {lines : List Line} → AddsLines tags lines last → AddsLines tags (dealt_lines old other results boards lines) last
  dealt_adds other results [] h = left_of_adds h
  dealt_adds other results (numbered ∷ more) {tags} {last} {lines} h = go (is_some numbered.1.deal) where
    end : List ℕ
    end = deal_end other (left_of old lines)

    go : (b : Bool) → AddsLines tags (cond b (with_section other (results numbered.0) (left_of old lines)) (left_of old lines)) last
    go true = lines_append (ends_add end (left_of_adds h)) (section_adds end (results numbered.0) last)
    go false = left_of_adds h

-- ---- games
pub data GamesHave (old : Renews) : ℕ → Tags → List Game → List Board → Type 0 where
  last_game :
      {count : ℕ} {tags tags' : Tags} {lines : List Line} →
      AddsLines old count tags lines tags' → GamesHave old count tags (record { lines = lines; gap = [] } ∷ []) (boards_of tags')
  next_game :
      {count : ℕ} {tags tags' : Tags} {lines : List Line} {bytes end : List ℕ} {games : List Game} {boards : List Board} →
      AddsLines old count tags lines tags' → GamesHave old (count + length (boards_of tags')) no_tags games boards →
      GamesHave old count tags (record { lines = lines; gap = record { kind = Gap bytes; end = end } ∷ [] } ∷ games) (boards_of tags' ++ boards)

put_escaped : (old : Renews) {count : ℕ} {tags : Tags} (bytes end : List ℕ) {games : List Game} {boards : List Board} → GamesHave old count tags games boards → GamesHave old count tags (put_line (record { kind = Escaped bytes; end = end }) games) boards
put_escaped old bytes end (last_game a) = last_game (adds_escaped a)
put_escaped old bytes end (next_game a g) = next_game (adds_escaped a) g

put_of_game : (old : Renews) {count : ℕ} {tags tags' : Tags} {pieces : List Piece} (end : List ℕ) {games : List Game} {boards : List Board} → AddsPieces count tags pieces tags' → GamesHave old count tags' games boards → GamesHave old count tags (put_line (record { kind = OfGame pieces; end = end }) games) boards
put_of_game old end p (last_game a) = last_game (adds_line p a)
put_of_game old end p (next_game a g) = next_game (adds_line p a) g

pub games_have : (old : Renews) {count : ℕ} {tags : Tags} {lines : List Line} {boards : List Board} → HaveBoards count tags lines boards → GamesHave old count tags (games_of lines) boards
games_have old at_text_end = last_game adds_none
games_have old (behind_gap h) = next_game adds_none (games_have old h)
games_have old (behind_escaped {bytes = bytes} {end} h) = put_escaped old bytes end (games_have old h)
games_have old (behind_line {end = end} a h) = put_of_game old end a (games_have old h)

lines_before : (old : Renews) {count : ℕ} {tags tags' : Tags} {lines rest : List Line} {boards : List Board} → AddsLines old count tags lines tags' → HaveBoards count tags' rest boards → HaveBoards count tags (lines ++ rest) boards
lines_before old adds_none r = r
lines_before old (adds_escaped h) r = behind_escaped (lines_before old h r)
lines_before old (adds_line a h) r = behind_line a (lines_before old h r)

pub whole_have : (old : Renews) (other : List ℕ) (results : ℕ → Printed) (numbered : List (ℕ × Board)) {count : ℕ} {tags : Tags} {games : List Game} {boards : List Board} → GamesHave old count tags games boards → HaveBoards count tags (games_lines old other results numbered games) boards
whole_have old other results numbered {count} {tags} (last_game {tags' = tags'} {lines} a) = go (has_deal lines) where
  go : (b : Bool) → HaveBoards count tags (cond b (dealt_lines old other results numbered lines ++ ([] ++ [])) (lines ++ ([] ++ []))) (boards_of tags')
  go true = lines_before old (dealt_adds old count other results numbered a) at_text_end
  go false = lines_before old a at_text_end
whole_have old other results numbered {count} {tags} (next_game {tags' = tags'} {lines} {bytes} {end} {games} {boards} a g) = go (has_deal lines) (whole_have old other results (behind numbered) g) (whole_have old other results numbered g) where
  gap : List Line
  gap = record { kind = Gap bytes; end = end } ∷ []

  go : (b : Bool) → HaveBoards (count + length (boards_of tags')) no_tags (games_lines old other results (behind numbered) games) boards → HaveBoards (count + length (boards_of tags')) no_tags (games_lines old other results numbered games) boards → HaveBoards count tags (cond b (dealt_lines old other results numbered lines ++ (gap ++ games_lines old other results (behind numbered) games)) (lines ++ (gap ++ games_lines old other results numbered games))) (boards_of tags' ++ boards)
  go true next same = lines_before old (dealt_adds old count other results numbered a) (behind_gap next)
  go false next same = lines_before old a (behind_gap same)
