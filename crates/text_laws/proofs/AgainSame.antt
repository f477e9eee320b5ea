-- What is written stays as it is, where its tables are written anew with the same results.
use Rattle.std.proofs.Common.{◌≡◌, ℕ, Bool, true, false, cond, ◌&&◌, ◌||◌, List, [], ◌∷◌, ◌++◌, is_some, refl, sym, ◌∙◌, ap, subst, append_assoc, append-nil, flat_map, inl, inr}
use Rattle.std.specs.List.{list_any, list_all, enumerate_from}
use Rattle.std.proofs.lemmas.List.{append_cancel_right}
use Rattle.pbn_deals.specs.declared.boards.Board.{Board}
use Rattle.pbn_deals.specs.Games.{Tags}
use Rattle.pbn_deals.specs.Lines.{without_mark}
use Rattle.pbn_deals.specs.Pieces.{ends_with_return, Kind, Gap, Escaped, OfGame, body_of, Line, line_bytes, mark_of, HasLines}
use Rattle.pbn_deals.proofs.LinesOfText.{marked}
use Rattle.tables.specs.TablesText.{Printed}
use Rattle.whole_texts.specs.OldTables.{left_pieces, has_more, put_left, table_behind_line, without_tables, is_count, is_escaped_kind, without_counts, left_of, is_deal_pair, is_deal_kind, has_deal}
use Rattle.whole_texts.specs.WholeText.{Game, put_line, games_of, section_lines, if_none, first_end, behind}
use Rattle.text_laws.specs.GivenEnds.{new_end, deal_end, with_ends, with_section, dealt_lines, games_lines, whole_lines}
use Rattle.text_laws.specs.Laws.{RenewsPrinted, StayTheSame}
use Rattle.whole_texts.specs.LineEnds.{IsLineEnd}
use Rattle.whole_texts.proofs.Ends.{Ended, AllEnded, back_ended, front_ended}
use Rattle.text_laws.proofs.Ends.{left_of_ended, has_end, new_again, row_end}
use Rattle.text_laws.proofs.WholeLines.{GamesFollow, games_follow, games_whole, lines_of_games, given_ends, deal_ended, first_ended}
use Rattle.text_laws.proofs.SameBoards.{AddsLines, adds_none, adds_escaped, adds_line, dealt_adds, GamesHave, last_game, next_game, games_have}
use Rattle.text_laws.proofs.CleanLines.{left_of_clean, ends_clean, counts_twice, counts_ends, section_goes, left_twice}
use Rattle.text_laws.proofs.WrittenLines.{have_boards, lines_follow, lines_ended, lines_whole, out_lines, ends_are_given, given_text}
use Rattle.tables.specs.declared.results.Renews.{Renews}
use Rattle.text_laws.proofs.DealTags.{count_no_deal, left_deal}

abbrev any_deal : List Line → Bool
any_deal lines = list_any (λ line. is_deal_kind line.kind) lines

or_right : (a b : Bool) → b ≡ true → (a || b) ≡ true
or_right true b e = refl
or_right false b e = e

put_deal : (old : Renews) (in_table : Bool) (kind : Kind) (end : List ℕ) (lines rest : List Line) → (is_deal_kind kind || any_deal lines) ≡ true → (any_deal lines ≡ true → any_deal rest ≡ true) → any_deal (put_left old in_table kind end rest) ≡ true
put_deal old in_table (Gap bytes) end lines rest e more = more e
put_deal old in_table (Escaped bytes) end lines rest e more = more e
put_deal old in_table (OfGame pieces) end lines rest e more = go (list_any is_deal_pair pieces) refl (has_more (left_pieces old in_table pieces)) refl e where
  go : (d : Bool) → list_any is_deal_pair pieces ≡ d → (b : Bool) → has_more (left_pieces old in_table pieces) ≡ b → (d || any_deal lines) ≡ true → any_deal (cond b (record { kind = OfGame (left_pieces old in_table pieces); end = end } ∷ rest) rest) ≡ true
  go true d true m f = ap (λ x. x || any_deal rest) (left_deal old in_table pieces d).0
  go true d false m f = let k = (left_deal old in_table pieces d).1 in absurd (let x : true ≡ false = sym k ∙ m in cc)
  go false d true m f = or_right (list_any is_deal_pair (left_pieces old in_table pieces)) (any_deal rest) (more f)
  go false d false m f = more f

tables_deal : (old : Renews) (in_table : Bool) (lines : List Line) → any_deal lines ≡ true → any_deal (without_tables old in_table lines) ≡ true
tables_deal old in_table [] e = e
tables_deal old in_table (line ∷ lines) e = put_deal old in_table line.kind line.end lines (without_tables old (table_behind_line old in_table line.kind) lines) e (tables_deal old (table_behind_line old in_table line.kind) lines)

counts_deal : (old : Renews) (lines : List Line) → any_deal lines ≡ true → any_deal (without_counts old lines) ≡ true
counts_deal old [] e = e
counts_deal old (line ∷ lines) e = go (is_count old line.kind) refl (list_all (λ other. is_escaped_kind other.kind) (without_counts old lines)) (is_deal_kind line.kind) refl e (counts_deal old lines) where
  go : (c : Bool) → is_count old line.kind ≡ c → (a d : Bool) → is_deal_kind line.kind ≡ d → (d || any_deal lines) ≡ true → (any_deal lines ≡ true → any_deal (without_counts old lines) ≡ true) → any_deal (cond (c && a) (without_counts old lines) (line ∷ without_counts old lines)) ≡ true
  go true c true true d f more = let x : true ≡ false = sym d ∙ count_no_deal old line.kind c in absurd (cc)
  go true c true false d f more = more f
  go true c false true d f more = ap (λ x. x || any_deal (without_counts old lines)) d
  go true c false false d f more = or_right (is_deal_kind line.kind) (any_deal (without_counts old lines)) (more f)
  go false c a true d f more = ap (λ x. x || any_deal (without_counts old lines)) d
  go false c a false d f more = or_right (is_deal_kind line.kind) (any_deal (without_counts old lines)) (more f)

pub left_of_deal : (old : Renews) (lines : List Line) → has_deal lines ≡ true → has_deal (left_of old lines) ≡ true
left_of_deal old lines e = counts_deal old (without_tables old false lines) (tables_deal old false lines e)

ends_deal : (end : List ℕ) (lines : List Line) → any_deal (with_ends end lines) ≡ any_deal lines
ends_deal end [] = refl
ends_deal end (line ∷ []) = refl
ends_deal end (line ∷ next ∷ lines) = ap (λ b. is_deal_kind line.kind || b) (ends_deal end (next ∷ lines))

append_deal : (lines others : List Line) → any_deal lines ≡ true → any_deal (lines ++ others) ≡ true
append_deal [] others e = absurd (cc)
append_deal (line ∷ lines) others e = go (is_deal_kind line.kind) e (append_deal lines others) where
  go : (d : Bool) → (d || any_deal lines) ≡ true → (any_deal lines ≡ true → any_deal (lines ++ others) ≡ true) → (d || any_deal (lines ++ others)) ≡ true
  go true f more = refl
  go false f more = more f

pub dealt_deal : (old : Renews) (other : List ℕ) (results : ℕ → Printed) (boards : List (ℕ × Board)) (lines : List Line) → has_deal lines ≡ true → has_deal (dealt_lines old other results boards lines) ≡ true
dealt_deal old other results [] lines e = left_of_deal old lines e
dealt_deal old other results (numbered ∷ more) lines e = go (is_some numbered.1.deal) where
  end : List ℕ
  end = deal_end other (left_of old lines)

  go : (b : Bool) → has_deal (cond b (with_section other (results numbered.0) (left_of old lines)) (left_of old lines)) ≡ true
  go true = append_deal (with_ends end (left_of old lines)) (section_lines end (results numbered.0)) (ends_deal end (left_of old lines) ∙ left_of_deal old lines e)
  go false = left_of_deal old lines e

ends_stay : (end : List ℕ) (lines : List Line) → AllEnded lines → with_ends end lines ≡ lines
ends_stay end [] h = refl
ends_stay end (line ∷ []) h = ap (λ e. record { kind = line.kind; end = e } ∷ []) (has_end (new_end end line.kind) line.end (row_end line h.0))
ends_stay end (line ∷ next ∷ lines) h = ap (λ l. line ∷ l) (ends_stay end (next ∷ lines) h.1)

new_is_end : (other : List ℕ) (kind : Kind) → IsLineEnd other → IsLineEnd (new_end other kind)
new_is_end other kind e = go (ends_with_return (body_of kind)) where
  go : (b : Bool) → IsLineEnd (cond b (13 ∷ 10 ∷ []) other)
  go true = inl refl
  go false = e

-- the last line
last_again : (other other' : List ℕ) (line : Line) → IsLineEnd other → Ended (line ∷ []) → if_none (new_end other' line.kind) (if_none (new_end (if_none (new_end other line.kind) line.end) line.kind) line.end) ≡ if_none (new_end other line.kind) line.end
last_again other other' line e (inl (is, more)) =
    let own = row_end line is in
    ap (if_none (new_end other' line.kind)) (has_end (new_end (if_none (new_end other line.kind) line.end) line.kind) line.end own) ∙ (has_end (new_end other' line.kind) line.end own ∙ sym (has_end (new_end other line.kind) line.end own))
last_again other other' line e (inr ((lacks, none, w), m)) =
    let given = new_end other line.kind in
    let first : if_none (new_end (if_none given line.end) line.kind) line.end ≡ given =
    ap (λ x. if_none (new_end (if_none given x) line.kind) x) none ∙ new_again other line.kind in
    ap (if_none (new_end other' line.kind)) first ∙ (has_end (new_end other' line.kind) given (new_is_end other line.kind e) ∙ sym (ap (if_none given) none))

deal_again : (other other' : List ℕ) (lines : List Line) → IsLineEnd other → Ended lines → any_deal lines ≡ true → deal_end other' (with_ends (deal_end other lines) lines) ≡ deal_end other lines
deal_again other other' [] e h d = absurd (cc)
deal_again other other' (line ∷ []) e h d = go (is_deal_kind line.kind) d where
  go : (b : Bool) → (b || false) ≡ true → cond b (if_none (new_end other' line.kind) (if_none (new_end (cond b (if_none (new_end other line.kind) line.end) other) line.kind) line.end)) other' ≡ cond b (if_none (new_end other line.kind) line.end) other
  go true f = last_again other other' line e h
  go false f = absurd (cc)
deal_again other other' (line ∷ next ∷ lines) e (inr (u, n)) d = absurd (cc)
deal_again other other' (line ∷ next ∷ lines) e (inl (is, more)) d = go (is_deal_kind line.kind) d (deal_again other other' (next ∷ lines) e more) where
  rest : List ℕ
  rest = deal_end other (next ∷ lines)

  go : (b : Bool) → (b || any_deal (next ∷ lines)) ≡ true → (any_deal (next ∷ lines) ≡ true → deal_end other' (with_ends rest (next ∷ lines)) ≡ rest) → cond b (if_none (new_end other' line.kind) line.end) (deal_end other' (with_ends (cond b (if_none (new_end other line.kind) line.end) rest) (next ∷ lines))) ≡ cond b (if_none (new_end other line.kind) line.end) rest
  go true f later = has_end (new_end other' line.kind) line.end (row_end line is) ∙ sym (has_end (new_end other line.kind) line.end (row_end line is))
  go false f later = later f

-- ---- a game with a Deal tag
dealt_again : (old : Renews) (other other' : List ℕ) (results : ℕ → Printed) (boards : List (ℕ × Board)) (lines : List Line) → RenewsPrinted old results → IsLineEnd other → Ended (left_of old lines) → has_deal lines ≡ true → dealt_lines old other' results boards (dealt_lines old other results boards lines) ≡ dealt_lines old other results boards lines
dealt_again old other other' results [] lines renews e h d = left_twice old lines
dealt_again old other other' results (numbered ∷ more) lines renews e h d = go (is_some numbered.1.deal) where
  those : Printed
  those = results numbered.0

  left : List Line
  left = left_of old lines

  end : List ℕ
  end = deal_end other left

  kept : List Line
  kept = with_ends end left

  is_end : IsLineEnd end
  is_end = deal_ended other left e h

  goes : left_of old (kept ++ section_lines end those) ≡ kept
  goes = section_goes old end those kept (renews numbered.0) (ends_clean old end left (left_of_clean old lines)) (counts_ends old end left (counts_twice old (without_tables old false lines)))

  again : deal_end other' kept ≡ end
  again = deal_again other other' left e h (left_of_deal old lines d)

  go : (b : Bool) → cond b (with_section other' those (left_of old (cond b (with_section other those left) left))) (left_of old (cond b (with_section other those left) left)) ≡ cond b (with_section other those left) left
  go true =
      ap (with_section other' those) goes
      ∙ (ap (λ x. with_ends x kept ++ section_lines x those) again
      ∙ ap (λ k. k ++ section_lines end those) (ends_stay end kept (given_ends end left is_end h)))
  go false = left_twice old lines

-- ---- games
-- lines without a gap stand in one game
adds_games : (old : Renews) {count : ℕ} {tags last : Tags} {lines : List Line} → AddsLines old count tags lines last → (rest : List Line) (game : Game) (games : List Game) → games_of rest ≡ game ∷ games → games_of (lines ++ rest) ≡ record { lines = lines ++ game.lines; gap = game.gap } ∷ games
adds_games old adds_none rest game games e = e
adds_games old (adds_escaped {bytes = bytes} {end} r) rest game games e = ap (put_line (record { kind = Escaped bytes; end = end })) (adds_games old r rest game games e)
adds_games old (adds_line {pieces = pieces} {end} a r) rest game games e = ap (put_line (record { kind = OfGame pieces; end = end })) (adds_games old r rest game games e)

pub games_back : (old : Renews) {count : ℕ} {tags : Tags} {games : List Game} {boards : List Board} → GamesHave old count tags games boards → games_of (lines_of_games games) ≡ games
games_back old (last_game {lines = lines} a) =
    ap games_of (append-nil (lines ++ []))
    ∙ (adds_games old a [] (record { lines = []; gap = [] }) [] refl ∙ ap (λ l. record { lines = l; gap = [] } ∷ []) (append-nil lines))
games_back old (next_game {lines = lines} {bytes} {end} {games} a g) =
    let gap : Line = record { kind = Gap bytes; end = end } in
    ap games_of (append_assoc lines (gap ∷ []) (lines_of_games games))
    ∙ (adds_games old a (gap ∷ lines_of_games games) (record { lines = []; gap = gap ∷ [] }) games (ap (λ g. record { lines = []; gap = gap ∷ [] } ∷ g) (games_back old g))
    ∙ ap (λ l. record { lines = l; gap = gap ∷ [] } ∷ games) (append-nil lines))

-- the games that are written
abbrev pub game_written : (old : Renews) → List ℕ → (ℕ → Printed) → List (ℕ × Board) → Game → Game
game_written old other results boards game = record { lines = cond (has_deal game.lines) (dealt_lines old other results boards game.lines) game.lines; gap = game.gap }

abbrev boards_behind : List (ℕ × Board) → Game → List (ℕ × Board)
boards_behind boards game = cond (has_deal game.lines) (behind boards) boards

abbrev pub games_written : (old : Renews) → List ℕ → (ℕ → Printed) → List (ℕ × Board) → List Game → List Game
games_written old other results boards [] = []
games_written old other results boards (game ∷ games) = game_written old other results boards game ∷ games_written old other results (boards_behind boards game) games

pub written_lines : (old : Renews) (other : List ℕ) (results : ℕ → Printed) (boards : List (ℕ × Board)) (games : List Game) → lines_of_games (games_written old other results boards games) ≡ games_lines old other results boards games
written_lines old other results boards [] = refl
written_lines old other results boards (game ∷ games) = go (has_deal game.lines) (written_lines old other results (behind boards) games) (written_lines old other results boards games) where
  go : (b : Bool) → lines_of_games (games_written old other results (behind boards) games) ≡ games_lines old other results (behind boards) games → lines_of_games (games_written old other results boards games) ≡ games_lines old other results boards games → (cond b (dealt_lines old other results boards game.lines) game.lines ++ game.gap) ++ lines_of_games (games_written old other results (cond b (behind boards) boards) games) ≡ cond b (dealt_lines old other results boards game.lines ++ (game.gap ++ games_lines old other results (behind boards) games)) (game.lines ++ (game.gap ++ games_lines old other results boards games))
  go true next same = append_assoc (dealt_lines old other results boards game.lines) game.gap (lines_of_games (games_written old other results (behind boards) games)) ∙ ap (λ r. dealt_lines old other results boards game.lines ++ (game.gap ++ r)) next
  go false next same = append_assoc game.lines game.gap (lines_of_games (games_written old other results boards games)) ∙ ap (λ r. game.lines ++ (game.gap ++ r)) same

-- they are games of lines with tags
line_of : (old : Renews) (other : List ℕ) (results : ℕ → Printed) (numbered : List (ℕ × Board)) {count : ℕ} {tags last : Tags} (lines : List Line) → AddsLines old count tags lines last → AddsLines old count tags (cond (has_deal lines) (dealt_lines old other results numbered lines) lines) last
line_of old other results numbered {count} {tags} {last} lines a = go (has_deal lines) where
  go : (b : Bool) → AddsLines old count tags (cond b (dealt_lines old other results numbered lines) lines) last
  go true = dealt_adds old count other results numbered a
  go false = a

pub written_have : (old : Renews) (other : List ℕ) (results : ℕ → Printed) (numbered : List (ℕ × Board)) {count : ℕ} {tags : Tags} {games : List Game} {boards : List Board} → GamesHave old count tags games boards → GamesHave old count tags (games_written old other results numbered games) boards
written_have old other results numbered (last_game {lines = lines} a) = last_game (line_of old other results numbered lines a)
written_have old other results numbered (next_game {lines = lines} {games = games} a g) = next_game (line_of old other results numbered lines a) (written_have old other results (cond (has_deal lines) (behind numbered) numbered) g)

-- what was written of each game stays
abbrev pub GamesEnded : (old : Renews) → List Game → Type 0
GamesEnded old [] = Unit {0}
GamesEnded old (game ∷ games) = Ended (left_of old game.lines) × GamesEnded old games

again_lines : (old : Renews) (other other' : List ℕ) (results : ℕ → Printed) (boards : List (ℕ × Board)) (games : List Game) → RenewsPrinted old results → IsLineEnd other → GamesEnded old games → games_lines old other' results boards (games_written old other results boards games) ≡ games_lines old other results boards games
again_lines old other other' results boards [] renews e h = refl
again_lines old other other' results boards (game ∷ games) renews e h = go (has_deal game.lines) refl (again_lines old other other' results (behind boards) games renews e h.1) (again_lines old other other' results boards games renews e h.1) where
  go : (b : Bool) → has_deal game.lines ≡ b → games_lines old other' results (behind boards) (games_written old other results (behind boards) games) ≡ games_lines old other results (behind boards) games → games_lines old other' results boards (games_written old other results boards games) ≡ games_lines old other results boards games → games_lines old other' results boards (record { lines = cond b (dealt_lines old other results boards game.lines) game.lines; gap = game.gap } ∷ games_written old other results (cond b (behind boards) boards) games) ≡ cond b (dealt_lines old other results boards game.lines ++ (game.gap ++ games_lines old other results (behind boards) games)) (game.lines ++ (game.gap ++ games_lines old other results boards games))
  go true d next same =
      let dealt = dealt_lines old other results boards game.lines in
      ap (λ b. cond b (dealt_lines old other' results boards dealt ++ (game.gap ++ games_lines old other' results (behind boards) (games_written old other results (behind boards) games))) (dealt ++ (game.gap ++ games_lines old other' results boards (games_written old other results (behind boards) games)))) (dealt_deal old other results boards game.lines d)
      ∙ (ap (λ l. l ++ (game.gap ++ games_lines old other' results (behind boards) (games_written old other results (behind boards) games))) (dealt_again old other other' results boards game.lines renews e h.0 d)
      ∙ ap (λ r. dealt ++ (game.gap ++ r)) next)
  go false d next same =
      ap (λ b. cond b (dealt_lines old other' results boards game.lines ++ (game.gap ++ games_lines old other' results (behind boards) (games_written old other results boards games))) (game.lines ++ (game.gap ++ games_lines old other' results boards (games_written old other results boards games)))) d
      ∙ ap (λ r. game.lines ++ (game.gap ++ r)) same

pub games_ended : (old : Renews) (games : List Game) → GamesFollow false games → Ended (lines_of_games games) → GamesEnded old games
games_ended old [] f h = tt
games_ended old (game ∷ games) f h =
    let here = front_ended (game.lines ++ game.gap) (lines_of_games games) h in
    (left_of_ended old f.0 (front_ended game.lines game.gap here), games_ended old games f.2 (back_ended (game.lines ++ game.gap) (lines_of_games games) h))

-- ---- the text
pub stay_the_same : StayTheSame
stay_the_same old text boards results written answer small renews whole =
    let lines = whole.lines in
    let numbered = enumerate_from 0 boards in
    let out = whole_lines old boards results lines in
    let have = games_have old (have_boards text boards lines answer whole.read) in
    let gs = games_written old (first_end lines) results numbered (games_of lines) in
    let flat : lines_of_games gs ≡ out = written_lines old (first_end lines) results numbered (games_of lines) in
    let back : games_of out ≡ gs = ap games_of (sym flat) ∙ games_back old (written_have old (first_end lines) results numbered have) in
    let ended = games_ended old (games_of lines) (games_follow refl (lines_follow text lines whole.read)) (subst Ended (sym (games_whole lines)) (lines_ended text lines whole.read)) in
    let same : whole_lines old boards results out ≡ out =
    ap (games_lines old (first_end out) results numbered) back
    ∙ again_lines old (first_end lines) (first_end out) results numbered (games_of lines) renews (first_ended lines (lines_ended text lines whole.read)) ended in
    let is : written ≡ mark_of text ++ flat_map line_bytes out = given_text old text boards results written whole in
    let read : HasLines written out = subst (λ t. HasLines t out) (sym is) (out_lines old text boards results lines answer small whole.read) in
    let rest : without_mark written ≡ flat_map line_bytes out = lines_whole written out read in
    let mark : mark_of text ≡ mark_of written =
    append_cancel_right (mark_of text) (mark_of written) (flat_map line_bytes out) (sym is ∙ (marked written ∙ ap (λ r. mark_of written ++ r) rest)) in
    record {
      lines = out;
      read = read;
      is = is ∙ (ap (λ m. m ++ flat_map line_bytes out) mark ∙ ap (λ l. mark_of written ++ flat_map line_bytes l) (sym (ends_are_given old written boards results out read ∙ same)));
    }
