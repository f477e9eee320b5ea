-- Games, one by one.
use Rattle.std.proofs.Common.{◌≡◌, ℕ, Bool, true, false, cond, List, [], ◌∷◌, ◌++◌, map, Option, None, Some, is_some, All, refl, sym, ◌∙◌, ap, subst, append_assoc, append-nil, length, arith}
use Rattle.std.specs.Borrow.{Bor}
use Rattle.std.specs.List.{filter}
use Rattle.std.specs.Option.{option_copied}
use Rattle.std.proofs.lemmas.Grind.{flat_map-append}
use Rattle.std.proofs.lemmas.List.Elements.{All-nil, All-push}
use Rattle.std.proofs.lemmas.List.Splits.{slice_split_at, slice_split_none}
use Rattle.pbn_deals.specs.Pieces.{Piece, Kind, LineIs, is_escaped_line, is_gap, is_of_game, is_in_comment, closes_comment, Row, rows_of, Line, AreLines, no_more}
use Rattle.pbn_deals.proofs.RowsInTurn.{HasFirst, has_first, no_rows}
use Rattle.board_conditions.specs.declared.game_texts.GameText.{GameText}
use Rattle.board_conditions.specs.Games.{Game, is_gap_kind, games_of, pieces_of, game_pieces, has_deal, board_games}
use Rattle.board_conditions.specs.Values.{AreValues, IsFirstGame}

-- ---- the lines of a game
-- the lines that were read, and those of the rest of the text
pub record SoFar (lines : List Line) (last : Bool) (game : GameText) : Type 0 where
  pub own : Game
  pub others : List Line
  pub all : lines ≡ own ++ others
  pub no_gap : All (λ line. is_gap_kind line.kind ≡ false) own
  pub are : AreValues (game_pieces own) game.is_open game
  pub has : AreLines game.is_open (rows_of game.rest.now) others last

abbrev pub At : GameText → Bor (List ℕ) → GameText
At game rest = record { board = game.board; deal = game.deal; dealer = game.dealer; vulnerable = game.vulnerable; event = game.event; section = game.section; site = game.site; date = game.date; is_open = game.is_open; rest = rest }

pub moved : {pieces : List Piece} {is_open : Bool} (game : GameText) (rest : Bor (List ℕ)) → AreValues pieces is_open game → AreValues pieces is_open (At game rest)
moved game rest h = record { board = h.board; deal = h.deal; dealer = h.dealer; vulnerable = h.vulnerable; event = h.event; section = h.section; site = h.site; date = h.date; opened = h.opened }

pub none_yet : (text : Bor (List ℕ)) (lines : List Line) (last : Bool) (game : GameText) → AreValues [] false game → game.rest ≡ text → AreLines false (rows_of text.now) lines last → SoFar lines last game
none_yet text lines last game h rest read = record {
  own = [];
  others = lines;
  all = refl;
  no_gap = All-nil (λ (line : Line). is_gap_kind line.kind ≡ false);
  are = subst (λ o. AreValues [] o game) (sym h.opened) h;
  has = subst (λ (r : Bor (List ℕ)). AreLines game.is_open (rows_of r.now) lines last) (sym rest) (subst (λ o. AreLines o (rows_of text.now) lines last) (sym h.opened) read);
}

pub pieces_more : (own : Game) (line : Line) → game_pieces own ++ pieces_of line.kind ≡ game_pieces (own ++ line ∷ [])
pieces_more own line =
    ap (λ l. game_pieces own ++ l) (sym (append-nil (pieces_of line.kind))) ∙ sym (flat_map-append (λ line. pieces_of line.kind) own (line ∷ []))

pub gap_closed : {is_open last : Bool} {bytes : List ℕ} {kind : Kind} → LineIs is_open bytes kind last → is_gap_kind kind ≡ true → last ≡ false
gap_closed (is_escaped_line e) g = absurd (cc)
gap_closed (is_gap e b) g = refl
gap_closed (is_of_game e b h) g = absurd (cc)
gap_closed (is_in_comment l) g = absurd (cc)
gap_closed (closes_comment text e l h) g = absurd (cc)

module _ {lines : List Line} {last : Bool} {game : GameText} {row : Row} (after : Bor (List ℕ)) (s : SoFar lines last game) (rows : rows_of game.rest.now ≡ row ∷ rows_of after.now) where
  pub next_line : HasFirst game.is_open row (rows_of after.now) s.others last
  next_line = has_first (subst (λ r. AreLines game.is_open r s.others last) rows s.has)

  abbrev line : Line
  line = record { kind = next_line.kind; end = row.end }

  pub one_line_more : (next : GameText) → (is_gap_kind next_line.kind ≡ false) × AreValues (game_pieces s.own ++ pieces_of next_line.kind) next_line.behind next → SoFar lines last (At next after)
  one_line_more next (no_gap, are) = record {
    own = s.own ++ line ∷ [];
    others = next_line.others;
    all = s.all ∙ (ap (λ l. s.own ++ l) next_line.all ∙ sym (append_assoc s.own (line ∷ []) next_line.others));
    no_gap = All-push (λ (line : Line). is_gap_kind line.kind ≡ false) s.own line s.no_gap no_gap;
    are =
        moved next after
        (subst (λ l. AreValues l next.is_open next) (pieces_more s.own line)
        (subst (λ o. AreValues (game_pieces s.own ++ pieces_of next_line.kind) o next) (sym are.opened) are));
    has = subst (λ o. AreLines o (rows_of after.now) next_line.others last) (sym are.opened) next_line.are;
  }

  pub ends_at_gap : is_gap_kind next_line.kind ≡ true → IsFirstGame lines (At game after)
  ends_at_gap gap = record {
    game = s.own;
    later = games_of next_line.others;
    parts =
        ap games_of (s.all ∙ ap (λ l. s.own ++ l) next_line.all)
        ∙ slice_split_at (λ (line : Line). is_gap_kind line.kind) s.own line next_line.others s.no_gap gap;
    is_open = game.is_open;
    are = moved game after s.are;
    more = next_line.others;
    last = last;
    read = subst (λ o. AreLines o (rows_of after.now) next_line.others last) (gap_closed next_line.is gap) next_line.are;
    boards = refl;
  }

no_lines : AreLines false (rows_of []) [] false
no_lines = no_more

pub ends_with_text : {lines : List Line} {last : Bool} {game : GameText} → SoFar lines last game → game.rest.now ≡ [] → IsFirstGame lines game
ends_with_text {lines} {last} {game} s none =
    let no_others = (no_rows (subst (λ t. AreLines game.is_open (rows_of t) s.others last) none s.has)).0 in
    record {
      game = s.own;
      later = [];
      parts =
          ap games_of (s.all ∙ (ap (λ l. s.own ++ l) no_others ∙ append-nil s.own))
          ∙ slice_split_none (λ (line : Line). is_gap_kind line.kind) s.own s.no_gap;
      is_open = game.is_open;
      are = s.are;
      more = [];
      last = false;
      read = subst (λ t. AreLines false (rows_of t) [] false) (sym none) no_lines;
      boards = refl;
    }

-- ---- the games of a text
-- what was read of the games so far, and the lines of the rest of the text
pub record ReadSoFar {X : Type 0} (of : Game → X) (lines : List Line) (list : List X) (rest : List ℕ) : Type 0 where
  pub more : List Line
  pub last : Bool
  pub read : AreLines false (rows_of rest) more last
  pub all : map of (board_games lines) ≡ list ++ map of (board_games more)

some_copied : {X : Type 0} (o : Option (Bor X)) → is_some (option_copied o) ≡ is_some o
some_copied None = refl
some_copied (Some x) = refl

module _ {X : Type 0} (of : Game → X) {lines : List Line} {list : List X} {rest : List ℕ} (s : ReadSoFar of lines list rest) {game : GameText} (first : IsFirstGame s.more game) where
  abbrev later : List X
  later = map of (board_games first.more)

  has_board : (b : Bool) → is_some game.deal ≡ b → map of (board_games lines) ≡ list ++ cond b (of first.game ∷ later) later
  has_board b is =
      let deal = sym (ap is_some first.are.deal) ∙ (some_copied game.deal ∙ is) in
      s.all
      ∙ ap (λ l. list ++ l)
      (ap (λ g. map of (filter has_deal g)) first.parts
      ∙ (ap (λ l. map of (cond (has_deal first.game) (first.game ∷ l) l)) first.boards
      ∙ (ap (λ d. map of (cond d (first.game ∷ board_games first.more) (board_games first.more))) deal ∙ in_cond b)))
    where
      in_cond : (b : Bool) → map of (cond b (first.game ∷ board_games first.more) (board_games first.more)) ≡ cond b (of first.game ∷ later) later
      in_cond true = refl
      in_cond false = refl

  pub board_more : (found : X) → is_some game.deal ≡ true → found ≡ of first.game → ReadSoFar of lines (list ++ found ∷ []) game.rest.now
  board_more found deal is = record {
    more = first.more;
    last = first.last;
    read = first.read;
    all = has_board true deal ∙ (ap (λ c. list ++ c ∷ later) (sym is) ∙ sym (append_assoc list (found ∷ []) later));
  }

  pub no_board : is_some game.deal ≡ false → ReadSoFar of lines list game.rest.now
  no_board deal = record { more = first.more; last = first.last; read = first.read; all = has_board false deal }

pub read_all : {X : Type 0} (of : Game → X) {lines : List Line} {list : List X} {rest : List ℕ} → ReadSoFar of lines list rest → rest ≡ [] → list ≡ map of (board_games lines)
read_all of {lines} {list} {rest} s none =
    let no_others = (no_rows (subst (λ t. AreLines false (rows_of t) s.more s.last) none s.read)).0 in
    sym (s.all ∙ (ap (λ l. list ++ map of (board_games l)) no_others ∙ append-nil list))

pub no_bytes : (text : List ℕ) → length text ≡ 0 → text ≡ []
no_bytes [] e = refl
no_bytes (byte ∷ bytes) e = absurd (omega (arith, e))
