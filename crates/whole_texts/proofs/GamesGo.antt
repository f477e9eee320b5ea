-- What is written of games, game by game.
use Rattle.std.proofs.Common.{◌≡◌, ℕ, ◌+◌, ◌<◌, ◌≤◌, Bool, true, false, cond, ◌||◌, List, [], ◌∷◌, ◌++◌, length, get_or, Option, None, Some, is_some, refl, sym, ◌∙◌, ap, subst, append-nil, flat_map, inl, inr, arith}
use Rattle.std.specs.Borrow.{Bor}
use Rattle.std.specs.List.{list_any, enumerate_from}
use Rattle.std.proofs.lemmas.Grind.{flat_map-append}
use Rattle.std.proofs.Math.Dec.{ltb}
use Rattle.std.proofs.lemmas.Bool.{ltb-true}
use Rattle.std.proofs.lemmas.List.{drop_all, drop_more}
use Rattle.std.proofs.lemmas.List.FromFn.{get_or-enumerate_from, length-enumerate_from}
use Rattle.cards.specs.Devices.{Device, Adds, AddsBeginning}
use Rattle.pbn_deals.specs.declared.boards.Board.{Board}
use Rattle.pbn_deals.specs.Pieces.{rows_of, Line, line_bytes, AreLines}
use Rattle.pbn_deals.specs.Pieces as seen
use Rattle.tables.specs.TablesText.{Printed, section_text}
use Rattle.whole_texts.specs.FirstGame.{HasDealLine, IsDealEnd, EndsGame, HasGameLines, IsFirstGame}
use Rattle.whole_texts.specs.LineEnds.{last_of, missing_end}
use Rattle.whole_texts.specs.LeftText.{without_any_count, tables_behind}
use Rattle.whole_texts.specs.OldTables.{without_tables, left_of, is_deal_kind, has_deal}
use Rattle.whole_texts.specs.WholeText.{Game, put_line, is_gap_kind, games_of, if_none, deal_end, with_section, dealt_lines, behind, games_lines}
use Rattle.whole_texts.specs.WrittenGame.{boards_from, game_lines, boards_behind}
use Rattle.whole_texts.specs.declared.games.GameText.{GameText}
use Rattle.whole_texts.proofs.DealLines.{deal_end_is, section_bytes}
use Rattle.whole_texts.proofs.LinesGo.{LeftText}
use Rattle.whole_texts.proofs.Gone.{Gone, none_gone, more_gone, fault_in, all_gone}
use Rattle.tables.specs.declared.results.Renews.{Renews}

-- ---- games of lines
lines_in_game : (own rest : List Line) (game : Game) (games : List Game) → list_any (λ line. is_gap_kind line.kind) own ≡ false → games_of rest ≡ game ∷ games → games_of (own ++ rest) ≡ record { lines = own ++ game.lines; gap = game.gap } ∷ games
lines_in_game [] rest game games n e = e
lines_in_game (line ∷ own) rest game games n e = go (is_gap_kind line.kind) n (lines_in_game own rest game games) where
  go : (b : Bool) → (b || list_any (λ line. is_gap_kind line.kind) own) ≡ false → (list_any (λ line. is_gap_kind line.kind) own ≡ false → games_of rest ≡ game ∷ games → games_of (own ++ rest) ≡ record { lines = own ++ game.lines; gap = game.gap } ∷ games) → cond b (record { lines = []; gap = line ∷ [] } ∷ games_of (own ++ rest)) (put_line line (games_of (own ++ rest))) ≡ record { lines = line ∷ (own ++ game.lines); gap = game.gap } ∷ games
  go true f more = absurd (cc)
  go false f more = ap (put_line line) (more f e)

module _ (old : Renews) (other : List ℕ) (results : ℕ → Printed) where
  game_text : (boards : List (ℕ × Board)) (own gap : List Line) (games : List Game) → games_lines old other results boards (record { lines = own; gap = gap } ∷ games) ≡ game_lines old other results boards own ++ (gap ++ games_lines old other results (boards_behind boards own) games)
  game_text boards own gap games = go (has_deal own) where
    go : (b : Bool) → cond b (dealt_lines old other results boards own ++ (gap ++ games_lines old other results (behind boards) games)) (own ++ (gap ++ games_lines old other results boards games)) ≡ cond b (dealt_lines old other results boards own) own ++ (gap ++ games_lines old other results (cond b (behind boards) boards) games)
    go true = refl
    go false = refl

  nothing_left : (boards : List (ℕ × Board)) → games_lines old other results boards (games_of []) ≡ []
  nothing_left boards = refl

  first_game_text : (boards : List (ℕ × Board)) (own gap more : List Line) → list_any (λ line. is_gap_kind line.kind) own ≡ false → EndsGame gap more → games_lines old other results boards (games_of (own ++ (gap ++ more))) ≡ game_lines old other results boards own ++ (gap ++ games_lines old other results (boards_behind boards own) (games_of more))
  first_game_text boards own gap more n (inl (line, is, g)) =
      let rest = ap (λ b. cond b (record { lines = []; gap = line ∷ [] } ∷ games_of more) (put_line line (games_of more))) g in
      let games : games_of (own ++ (gap ++ more)) ≡ record { lines = own; gap = gap } ∷ games_of more =
      ap (λ l. games_of (own ++ (l ++ more))) is
      ∙ (lines_in_game own (line ∷ more) (record { lines = []; gap = line ∷ [] }) (games_of more) n rest
      ∙ (ap (λ l. record { lines = l; gap = line ∷ [] } ∷ games_of more) (append-nil own) ∙ ap (λ l. record { lines = own; gap = l } ∷ games_of more) (sym is))) in
      ap (games_lines old other results boards) games ∙ game_text boards own gap (games_of more)
  first_game_text boards own gap more n (inr (none, no_more)) =
      let games : games_of (own ++ (gap ++ more)) ≡ record { lines = own; gap = [] } ∷ [] =
      ap (λ l. games_of (own ++ l)) (ap (λ g. g ++ more) none ∙ no_more)
      ∙ (lines_in_game own [] (record { lines = []; gap = [] }) [] n refl
      ∙ ap (λ l. record { lines = l; gap = [] } ∷ []) (append-nil own)) in
      ap (games_lines old other results boards) games
      ∙ (game_text boards own [] []
      ∙ (ap (λ l. game_lines old other results boards own ++ ([] ++ games_lines old other results (boards_behind boards own) (games_of l))) (sym no_more)
      ∙ ap (λ g. game_lines old other results boards own ++ (g ++ games_lines old other results (boards_behind boards own) (games_of more))) (sym none)))

-- ---- what is left of a game, in its two parts
pub left_text : (old : Renews) (lines : List Line) (game : GameText) (h : HasGameLines old lines game) → flat_map line_bytes (left_of old lines) ≡ LeftText old false false h.front ++ LeftText old true (tables_behind old false h.front) h.back
left_text old lines game h =
    ap (flat_map line_bytes) h.left
    ∙ flat_map-append line_bytes (without_tables old false h.front) (without_any_count old (without_tables old (tables_behind old false h.front) h.back))

-- ---- the board of a game
deal_line_has : (lines : List Line) (end : List ℕ) → HasDealLine lines end → has_deal lines ≡ true
deal_line_has lines end h = ap has_deal h.parts ∙ go h.before where
  line : Line
  line = record { kind = h.kind; end = end }

  or_true : (a b : Bool) → b ≡ true → (a || b) ≡ true
  or_true true b e = refl
  or_true false b e = e

  go : (before : List Line) → has_deal (before ++ line ∷ h.after) ≡ true
  go [] = ap (λ b. b || has_deal h.after) h.deal
  go (first ∷ before) = or_true (is_deal_kind first.kind) (has_deal (before ++ line ∷ h.after)) (go before)

module _ (boards : List Board) (place : ℕ) where
  pub no_board : length boards ≤ place → boards_from boards place ≡ []
  no_board h = drop_all place (enumerate_from 0 boards) (omega (arith, h, length-enumerate_from 0 boards))

  next_board : (board : Board) → place < length boards → board ≡ get_or boards place board → boards_from boards place ≡ (place, board) ∷ boards_from boards (place + 1)
  next_board board h is =
      let same : 0 + place ≡ place = omega arith in
      drop_more (enumerate_from 0 boards) place (0, board) (omega (arith, h, length-enumerate_from 0 boards))
      ∙ ap (λ n. n ∷ boards_from boards (place + 1))
      (get_or-enumerate_from 0 boards place (0, board) h ∙ (ap (λ n. (n, get_or boards place board)) same ∙ ap (λ b. (place, b)) (sym is)))

pub board_at : (all : List Board) (place : ℕ) (boards : List Board) (board : Board) → boards ≡ all → ltb place (length boards) ≡ true → board ≡ get_or boards place board → boards_from all place ≡ (place, board) ∷ boards_from all (place + 1)
board_at all place boards board same within is =
    let less = ltb-true place (length boards) within in
    next_board all place board (omega (arith, less, ap length same)) (is ∙ ap (λ b. get_or b place board) same)

module _ (old : Renews) (other : List ℕ) (results : ℕ → Printed) (lines : List Line) where
  pub same_game : (boards : List (ℕ × Board)) → has_deal lines ≡ false → (lines ≡ game_lines old other results boards lines) × (boards ≡ boards_behind boards lines)
  same_game boards d = (sym (ap (λ b. cond b (dealt_lines old other results boards lines) lines) d), sym (ap (λ b. cond b (behind boards) boards) d))

  module _ (end : List ℕ) (h : HasDealLine lines end) where
    dealt : (boards : List (ℕ × Board)) → (game_lines old other results boards lines ≡ dealt_lines old other results boards lines) × (boards_behind boards lines ≡ behind boards)
    dealt boards = let d = deal_line_has lines end h in (ap (λ b. cond b (dealt_lines old other results boards lines) lines) d, ap (λ b. cond b (behind boards) boards) d)

    pub game_without_board : (boards : List (ℕ × Board)) → boards ≡ [] → (left_of old lines ≡ game_lines old other results boards lines) × (boards ≡ boards_behind boards lines)
    game_without_board boards none =
        (sym ((dealt boards).0 ∙ ap (λ b. dealt_lines old other results b lines) none), none ∙ sym ((dealt boards).1 ∙ ap behind none))

    pub game_with_board : (boards more : List (ℕ × Board)) (place : ℕ) (board : Board) → boards ≡ (place, board) ∷ more → (cond (is_some board.deal) (with_section other (deal_end lines) (results place) (left_of old lines)) (left_of old lines) ≡ game_lines old other results boards lines) × (more ≡ boards_behind boards lines)
    game_with_board boards more place board is =
        (sym ((dealt boards).0 ∙ ap (λ b. dealt_lines old other results b lines) is), sym ((dealt boards).1 ∙ ap behind is))

-- no Deal tag
pub no_deal_tag : (lines : List Line) (deal_end : Option (Bor (List ℕ))) → deal_end ≡ None → IsDealEnd deal_end lines → has_deal lines ≡ false
no_deal_tag lines deal_end is h = subst (λ d. IsDealEnd d lines) is h

pub deal_tag : (lines : List Line) (deal_end : Option (Bor (List ℕ))) (end : Bor (List ℕ)) → deal_end ≡ Some end → IsDealEnd deal_end lines → HasDealLine lines end.now
deal_tag lines deal_end end is h = subst (λ d. IsDealEnd d lines) is h

-- ---- the bytes of a game with a Deal tag
abbrev pub left_bytes : (old : Renews) → List Line → List ℕ
left_bytes old lines = flat_map line_bytes (left_of old lines)

-- the section of a board, behind what is left of its lines
abbrev pub section_behind : (old : Renews) → List ℕ → List Line → List ℕ → Printed → List ℕ
section_behind old other lines end results =
    missing_end (last_of None (left_bytes old lines)) (if_none other end)
    ++ section_text (if_none (missing_end (last_of None (left_bytes old lines)) (if_none other end)) end) results

module _ (old : Renews) (other : List ℕ) (results : ℕ → Printed) (lines : List Line) (end : List ℕ) (h : HasDealLine lines end) where
  with_board : (boards more : List (ℕ × Board)) (place : ℕ) (board : Board) → boards ≡ (place, board) ∷ more → flat_map line_bytes (cond (is_some board.deal) (with_section other (deal_end lines) (results place) (left_of old lines)) (left_of old lines)) ≡ flat_map line_bytes (game_lines old other results boards lines)
  with_board boards more place board is = ap (flat_map line_bytes) (game_with_board old other results lines end h boards more place board is).0

  section_is : (place : ℕ) → flat_map line_bytes (with_section other (deal_end lines) (results place) (left_of old lines)) ≡ left_bytes old lines ++ section_behind old other lines end (results place)
  section_is place = ap (λ e. flat_map line_bytes (with_section other e (results place) (left_of old lines))) (deal_end_is lines end h) ∙ section_bytes other end (results place) (left_of old lines)

  -- a board with a deal
  pub dealt_bytes : (boards more : List (ℕ × Board)) (place : ℕ) (board : Board) → boards ≡ (place, board) ∷ more → is_some board.deal ≡ true → left_bytes old lines ++ section_behind old other lines end (results place) ≡ flat_map line_bytes (game_lines old other results boards lines)
  dealt_bytes boards more place board is d =
      sym (section_is place)
      ∙ (ap (λ b. flat_map line_bytes (cond b (with_section other (deal_end lines) (results place) (left_of old lines)) (left_of old lines))) (sym d)
      ∙ with_board boards more place board is)

  -- one without
  pub undealt_bytes : (boards more : List (ℕ × Board)) (place : ℕ) (board : Board) → boards ≡ (place, board) ∷ more → is_some board.deal ≡ false → left_bytes old lines ≡ flat_map line_bytes (game_lines old other results boards lines)
  undealt_bytes boards more place board is d =
      ap (λ b. flat_map line_bytes (cond b (with_section other (deal_end lines) (results place) (left_of old lines)) (left_of old lines))) (sym d)
      ∙ with_board boards more place board is

  -- and in any case they begin with what is left
  pub begins_left : (boards : List (ℕ × Board)) → (rest : List ℕ) × (flat_map line_bytes (game_lines old other results boards lines) ≡ left_bytes old lines ++ rest)
  begins_left [] = ([], ap (flat_map line_bytes) (sym (game_without_board old other results lines end h [] refl).0) ∙ sym (append-nil (left_bytes old lines)))
  begins_left ((place, board) ∷ more) = go (is_some board.deal) refl where
    boards : List (ℕ × Board)
    boards = (place, board) ∷ more

    go : (b : Bool) → is_some board.deal ≡ b → (rest : List ℕ) × (flat_map line_bytes (game_lines old other results boards lines) ≡ left_bytes old lines ++ rest)
    go true d = (section_behind old other lines end (results place), sym (dealt_bytes boards more place board refl d))
    go false d = ([], sym (undealt_bytes boards more place board refl d) ∙ sym (append-nil (left_bytes old lines)))

-- ---- game by game
pub record GamesGo (old : Renews) (start now : Device) (other : List ℕ) (boards : List Board) (results : ℕ → Printed) (all : List ℕ) (place : ℕ) (rest : List ℕ) : Type 0 where
  pub others : List Line
  pub last : Option ℕ
  pub has : AreLines false (rows_of rest) others false
  pub gone : Gone start now None last all (flat_map line_bytes (games_lines old other results (boards_from boards place) (games_of others)))

module _ (old : Renews) {start now : Device} {other : List ℕ} {boards : List Board} {results : ℕ → Printed} {all : List ℕ} {place : ℕ} {rest : List ℕ} {game : GameText}
    (go : GamesGo old start now other boards results all place rest) (first : IsFirstGame old rest go.others game) where
  abbrev pub here : List (ℕ × Board)
  here = boards_from boards place

  abbrev pub own_text : List ℕ
  own_text = flat_map line_bytes (game_lines old other results here first.own)

  abbrev pub rest_text : List ℕ
  rest_text = flat_map line_bytes (games_lines old other results (boards_behind here first.own) (games_of first.more))

  goes : Gone start now None go.last all (own_text ++ (game.gap.now ++ rest_text))
  goes =
      let later = games_lines old other results (boards_behind here first.own) (games_of first.more) in
      subst (λ t. Gone start now None go.last all t)
      (ap (λ l. flat_map line_bytes (games_lines old other results here (games_of l))) first.all
      ∙ (ap (flat_map line_bytes) (first_game_text old other results here first.own first.gap first.more first.no_gap first.ends)
      ∙ (flat_map-append line_bytes (game_lines old other results here first.own) (first.gap ++ later)
      ∙ ap (λ t. own_text ++ t) (flat_map-append line_bytes first.gap later ∙ ap (λ g. g ++ rest_text) (sym first.gap_bytes)))))
      go.gone

  pub fault_in_game : {later : Device} → AddsBeginning now later own_text → AddsBeginning start later all
  fault_in_game a = fault_in own_text (game.gap.now ++ rest_text) goes a

  module _ {later : Device} (written : Adds now later own_text) where
    at_gap : Gone start later None (last_of go.last own_text) all (game.gap.now ++ rest_text)
    at_gap = more_gone own_text (game.gap.now ++ rest_text) goes written refl

    pub fault_in_gap : {latest : Device} → AddsBeginning later latest game.gap.now → AddsBeginning start latest all
    fault_in_gap a = fault_in game.gap.now rest_text at_gap a

    pub one_game_more : {latest : Device} (next : ℕ) → Adds later latest game.gap.now → boards_from boards next ≡ boards_behind here first.own → GamesGo old start latest other boards results all next game.rest.now
    one_game_more {latest} next a is = record {
      others = first.more;
      last = last_of (last_of go.last own_text) game.gap.now;
      has = first.rest_lines;
      gone =
          subst (λ b. Gone start latest None (last_of (last_of go.last own_text) game.gap.now) all (flat_map line_bytes (games_lines old other results b (games_of first.more)))) (sym is)
          (more_gone game.gap.now rest_text at_gap a refl);
    }

pub games_begin : (old : Renews) (start : Device) (other : List ℕ) (boards : List Board) (results : ℕ → Printed) (text : List ℕ) (lines : List Line) → AreLines false (rows_of text) lines false → GamesGo old start start other boards results (flat_map line_bytes (games_lines old other results (enumerate_from 0 boards) (games_of lines))) 0 text
games_begin old start other boards results text lines h = record {
  others = lines;
  last = None;
  has = h;
  gone = none_gone start None (flat_map line_bytes (games_lines old other results (enumerate_from 0 boards) (games_of lines)));
}

pub games_gone : (old : Renews) {start now : Device} {other : List ℕ} {boards : List Board} {results : ℕ → Printed} {all : List ℕ} {place : ℕ} {rest : List ℕ} → GamesGo old start now other boards results all place rest → rest ≡ [] → Adds start now all
games_gone old {start} {now} {other} {boards} {results} {all} {place} go none =
    let no_more = no_lines (subst (λ t. AreLines false (rows_of t) go.others false) none go.has) in
    (all_gone (subst (λ t. Gone start now None go.last all t) (ap (λ l. flat_map line_bytes (games_lines old other results (boards_from boards place) (games_of l))) no_more) go.gone)).0
  where
    no_lines : {o last : Bool} {some : List Line} → AreLines o [] some last → some ≡ []
    no_lines seen.no_more = refl

-- a text without bytes
pub no_bytes : (text : List ℕ) → length text ≡ 0 → text ≡ []
no_bytes [] e = refl
no_bytes (byte ∷ bytes) e = absurd (omega (arith, e))
