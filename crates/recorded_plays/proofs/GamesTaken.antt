-- Games, one by one.
use Rattle.std.proofs.Common.{◌≡◌, ℕ, Bool, true, false, cond, ◌||◌, List, [], ◌∷◌, ◌++◌, Option, None, Some, is_some, unwrap_or, Result, Ok, Err, All, codes, refl, sym, ◌∙◌, ap, subst, append_assoc, append-nil}
use Rattle.std.specs.Borrow.{Bor}
use Rattle.std.specs.List.{filter}
use Rattle.std.specs.Option.{option_copied, option_or}
use Rattle.std.proofs.lemmas.Grind.{flat_map-append}
use Rattle.std.proofs.lemmas.List.Elements.{All-nil, All-push}
use Rattle.std.proofs.lemmas.List.Splits.{slice_split_at, slice_split_none}
use Rattle.pbn_deals.specs.Pieces.{Piece, Kind, Row, rows_of, Line, AreLines, no_more}
use Rattle.pbn_deals.proofs.RowsInTurn.{HasFirst, has_first, no_rows}
use Rattle.board_conditions.specs.Games.{Game, is_gap_kind, games_of, pieces_of, game_pieces, first_named, value_in}
use Rattle.board_conditions.proofs.Named.{named-append}
use Rattle.board_conditions.proofs.GamesTaken.{gap_closed}
use Rattle.recorded_plays.specs.declared.game_texts.GameText.{GameText}
use Rattle.recorded_plays.specs.declared.plays.RecordedGame.{RecordedGame}
use Rattle.recorded_plays.specs.declared.plays.RecordedPlay.{RecordedPlay}
use Rattle.recorded_plays.specs.declared.plays.Lack.{Lack}
use Rattle.recorded_plays.specs.declared.plays.Lack.TheVariants as lacking
use Rattle.recorded_plays.specs.declared.tags.Tags.{Tags}
use Rattle.recorded_plays.specs.declared.tags.Parts.{Parts}
use Rattle.recorded_plays.specs.Follow.{IsRead}
use Rattle.recorded_plays.specs.Sections.{line_pieces, lined_pieces, section_of}
use Rattle.recorded_plays.specs.Games.{SaysGame, HasPlay, Lacks, GivesDeal, is_recorded, recorded_games, AreGames}
use Rattle.recorded_plays.specs.Values.{AreValues, AreTags, TakesLine, PartsSaid, SayParts, IsFirstGame}
use Rattle.recorded_plays.proofs.LinesTaken.{LineMore}

-- ---- the tags of a game
-- the blanks before the lines add no tag
pub lined : (capitals : List ℕ) (game : Game) → first_named capitals (lined_pieces game) ≡ value_in game capitals
lined capitals [] = refl
lined capitals (line ∷ game) =
    named-append capitals (line_pieces line) (lined_pieces game)
    ∙ (ap (option_or (first_named capitals (pieces_of line.kind))) (lined capitals game)
    ∙ sym (named-append capitals (pieces_of line.kind) (game_pieces game)))

some_copied : {X : Type 0} (o : Option (Bor X)) → is_some (option_copied o) ≡ is_some o
some_copied None = refl
some_copied (Some x) = refl

is_there : (capitals : List ℕ) (game : Game) (o : Option (Bor (List ℕ))) → option_copied o ≡ first_named capitals (lined_pieces game) → is_some o ≡ is_some (value_in game capitals)
is_there capitals game o h = sym (some_copied o) ∙ ap is_some (h ∙ lined capitals game)

module _ (game : Game) (is_open : Bool) (found : GameText) (h : AreValues (lined_pieces game) is_open found) where
  recorded_is : (is_some found.tags.deal || is_some found.tags.play) ≡ is_recorded game
  recorded_is =
      ap (λ b. b || is_some found.tags.play) (is_there (codes "DEAL") game found.tags.deal h.tags.deal)
      ∙ ap (λ b. is_some (value_in game (codes "DEAL")) || b) (is_there (codes "PLAY") game found.tags.play h.tags.play)

  pub by_deal : (b : Bool) → b ≡ is_some found.tags.deal → b ≡ true → b ≡ is_recorded game
  by_deal b is true_is = true_is ∙ (ap (λ d. d || is_some found.tags.play) (sym (sym is ∙ true_is)) ∙ recorded_is)

  pub by_play : (b d : Bool) → d ≡ is_some found.tags.deal → d ≡ false → b ≡ is_some found.tags.play → b ≡ is_recorded game
  by_play b d is false_is play_is = play_is ∙ (ap (λ e. e || is_some found.tags.play) (sym (sym is ∙ false_is)) ∙ recorded_is)

-- ---- the lines of a game
-- the lines that were read, and those of the rest of the text
pub record SoFar (lines : List Line) (last : Bool) (game : GameText) (rest : List ℕ) : Type 0 where
  pub own : Game
  pub others : List Line
  pub all : lines ≡ own ++ others
  pub no_gap : All (λ line. is_gap_kind line.kind ≡ false) own
  pub are : AreValues (lined_pieces own) game.is_open game
  pub has : AreLines game.is_open (rows_of rest) others last

pub none_yet : (text : List ℕ) (lines : List Line) (last : Bool) (game : GameText) → AreValues [] false game → AreLines false (rows_of text) lines last → SoFar lines last game text
none_yet text lines last game h read = record {
  own = [];
  others = lines;
  all = refl;
  no_gap = All-nil (λ (line : Line). is_gap_kind line.kind ≡ false);
  are = subst (λ o. AreValues [] o game) (sym h.opened) h;
  has = subst (λ o. AreLines o (rows_of text) lines last) (sym h.opened) read;
}

pieces_more : (own : Game) (line : Line) → lined_pieces own ++ line_pieces line ≡ lined_pieces (own ++ line ∷ [])
pieces_more own line =
    ap (λ l. lined_pieces own ++ l) (sym (append-nil (line_pieces line))) ∙ sym (flat_map-append line_pieces own (line ∷ []))

module _ {lines : List Line} {last : Bool} {game : GameText} {row : Row} {rest : List ℕ} (after : List ℕ) (s : SoFar lines last game rest) (rows : rows_of rest ≡ row ∷ rows_of after) where
  pub next_line : HasFirst game.is_open row (rows_of after) s.others last
  next_line = has_first (subst (λ r. AreLines game.is_open r s.others last) rows s.has)

  abbrev line : Line
  line = record { kind = next_line.kind; end = row.end }

  pub one_line_more : (next : GameText) → LineMore (lined_pieces s.own) next_line.kind next_line.behind next → SoFar lines last next after
  one_line_more next (no_gap, are) = record {
    own = s.own ++ line ∷ [];
    others = next_line.others;
    all = s.all ∙ (ap (λ l. s.own ++ l) next_line.all ∙ sym (append_assoc s.own (line ∷ []) next_line.others));
    no_gap = All-push (λ (line : Line). is_gap_kind line.kind ≡ false) s.own line s.no_gap no_gap;
    are =
        subst (λ l. AreValues l next.is_open next) (pieces_more s.own line)
        (subst (λ o. AreValues (lined_pieces s.own ++ line_pieces line) o next) (sym are.opened) are);
    has = subst (λ o. AreLines o (rows_of after) next_line.others last) (sym are.opened) next_line.are;
  }

  pub ends_at_gap : (next : GameText) → (is_gap_kind next_line.kind ≡ true) × AreValues (lined_pieces s.own) false next → IsFirstGame lines next after
  ends_at_gap next (gap, are) = record {
    game = s.own;
    later = games_of next_line.others;
    parts =
        ap games_of (s.all ∙ ap (λ l. s.own ++ l) next_line.all)
        ∙ slice_split_at (λ (line : Line). is_gap_kind line.kind) s.own line next_line.others s.no_gap gap;
    is_open = false;
    are = are;
    more = next_line.others;
    last = last;
    read = subst (λ o. AreLines o (rows_of after) next_line.others last) (gap_closed next_line.is gap) next_line.are;
    games = refl;
  }

no_lines : AreLines false (rows_of []) [] false
no_lines = no_more

pub ends_with_text : {lines : List Line} {last : Bool} {game : GameText} {rest : List ℕ} → SoFar lines last game rest → rest ≡ [] → IsFirstGame lines game rest
ends_with_text {lines} {last} {game} {rest} s none =
    let no_others = (no_rows (subst (λ t. AreLines game.is_open (rows_of t) s.others last) none s.has)).0 in
    record {
      game = s.own;
      later = [];
      parts =
          ap games_of (s.all ∙ (ap (λ l. s.own ++ l) no_others ∙ append-nil s.own))
          ∙ slice_split_none (λ (line : Line). is_gap_kind line.kind) s.own s.no_gap;
      is_open = game.is_open;
      are = s.are;
      more = [];
      last = false;
      read = subst (λ t. AreLines false (rows_of t) [] false) (sym none) no_lines;
      games = refl;
    }

-- ---- the games of a text
-- what was read of the games so far, and the lines of the rest of the text
pub record ReadSoFar (lines : List Line) (list : List RecordedGame) (rest : List ℕ) : Type 0 where
  pub more : List Line
  pub last : Bool
  pub read : AreLines false (rows_of rest) more last
  pub done : List Game
  pub all : recorded_games lines ≡ done ++ recorded_games more
  pub are : AreGames done list

pub nothing_read : (text : List ℕ) (lines : List Line) (last : Bool) → AreLines false (rows_of text) lines last → ReadSoFar lines [] text
nothing_read text lines last h = record { more = lines; last = last; read = h; done = []; all = refl; are = tt }

games_push : (games : List Game) (list : List RecordedGame) (game : Game) (found : RecordedGame) → AreGames games list → SaysGame game found → AreGames (games ++ game ∷ []) (list ++ found ∷ [])
games_push [] [] game found h says = (says, tt)
games_push [] (one ∷ list) game found h says = absurd h
games_push (one ∷ games) [] game found h says = absurd h
games_push (one ∷ games) (other ∷ list) game found (first, rest) says = (first, games_push games list game found rest says)

module _ {lines : List Line} {list : List RecordedGame} {rest after : List ℕ} (s : ReadSoFar lines list rest) {text : GameText} (first : IsFirstGame s.more text after) where
  next_games : (b : Bool) → is_recorded first.game ≡ b → recorded_games s.more ≡ cond b (first.game ∷ recorded_games first.more) (recorded_games first.more)
  next_games b is =
      ap (filter is_recorded) first.parts
      ∙ (ap (λ g. cond (is_recorded first.game) (first.game ∷ g) g) first.games
      ∙ ap (λ c. cond c (first.game ∷ recorded_games first.more) (recorded_games first.more)) is)

  pub game_more : (found : RecordedGame) → is_recorded first.game ≡ true → SaysGame first.game found → ReadSoFar lines (list ++ found ∷ []) after
  game_more found is says = record {
    more = first.more;
    last = first.last;
    read = first.read;
    done = s.done ++ first.game ∷ [];
    all =
        s.all ∙ (ap (λ g. s.done ++ g) (next_games true is)
        ∙ sym (append_assoc s.done (first.game ∷ []) (recorded_games first.more)));
    are = games_push s.done list first.game found s.are says;
  }

  pub no_game : is_recorded first.game ≡ false → ReadSoFar lines list after
  no_game is = record {
    more = first.more;
    last = first.last;
    read = first.read;
    done = s.done;
    all = s.all ∙ ap (λ g. s.done ++ g) (next_games false is);
    are = s.are;
  }

pub read_all : {lines : List Line} {list : List RecordedGame} {rest : List ℕ} → ReadSoFar lines list rest → rest ≡ [] → AreGames (recorded_games lines) list
read_all {lines} {list} {rest} s none =
    let no_others = (no_rows (subst (λ t. AreLines false (rows_of t) s.more s.last) none s.read)).0 in
    subst (λ g. AreGames g list) (sym (s.all ∙ (ap (λ l. s.done ++ recorded_games l) no_others ∙ append-nil s.done))) s.are

-- what was taken, by the answer that it goes on, or not
pub goes_on : (E : Type 0) (answer : Bool) (pieces : List Piece) (kind : Kind) (last : Bool) (game : GameText) → TakesLine {E = E} (Ok answer) pieces kind last game → answer ≡ true → LineMore pieces kind last game
goes_on E true pieces kind last game h is = h
goes_on E false pieces kind last game h is = absurd (cc)

pub goes_not : (E : Type 0) (answer : Bool) (pieces : List Piece) (kind : Kind) (last : Bool) (game : GameText) → TakesLine {E = E} (Ok answer) pieces kind last game → answer ≡ false → (is_gap_kind kind ≡ true) × AreValues pieces false game
goes_not E true pieces kind last game h is = absurd (cc)
goes_not E false pieces kind last game h is = h

-- ---- the play of a game
pub unwrap_now : (o : Option (Bor (List ℕ))) (other found : Bor (List ℕ)) (value : Option (List ℕ)) → found ≡ unwrap_or o other → other.now ≡ [] → option_copied o ≡ value → found.now ≡ unwrap_or value []
unwrap_now None other found value e none is = ap (λ (b : Bor (List ℕ)). b.now) e ∙ (none ∙ ap (λ v. unwrap_or v []) is)
unwrap_now (Some x) other found value e none is = ap (λ (b : Bor (List ℕ)). b.now) e ∙ ap (λ v. unwrap_or v []) is

abbrev Said : Game → Result Parts Lack → Type 0
Said game found =
    PartsSaid (value_in game (codes "CONTRACT")) (value_in game (codes "PLAY")) (value_in game (codes "DEAL")) (value_in game (codes "DECLARER")) found

pub said : (game : Game) (tags : Tags) (found : Result Parts Lack) → AreTags (lined_pieces game) tags → SayParts tags found → Said game found
said game tags found h says =
    subst (λ v. PartsSaid (value_in game (codes "CONTRACT")) (value_in game (codes "PLAY")) (value_in game (codes "DEAL")) v found) (h.declarer ∙ lined (codes "DECLARER") game)
    (subst (λ v. PartsSaid (value_in game (codes "CONTRACT")) (value_in game (codes "PLAY")) v (option_copied tags.declarer) found) (h.deal ∙ lined (codes "DEAL") game)
    (subst (λ v. PartsSaid (value_in game (codes "CONTRACT")) v (option_copied tags.deal) (option_copied tags.declarer) found) (h.play ∙ lined (codes "PLAY") game)
    (subst (λ v. PartsSaid v (option_copied tags.play) (option_copied tags.deal) (option_copied tags.declarer) found) (h.contract ∙ lined (codes "CONTRACT") game) says)))

pub lacks : (game : Game) (lack : Lack) → Said game (Err lack) → Lacks game lack
lacks game lacking.PassedOut h = h
lacks game lacking.Play h = h
lacks game lacking.Deal h = h
lacks game lacking.Contract h = h
lacks game lacking.Declarer h = h

pub has_play : (game : Game) (parts : Parts) (play : RecordedPlay) → Said game (Ok parts) → play.deal ≡ parts.deal → play.trump ≡ parts.trump → play.declarer ≡ parts.declarer → IsRead parts.first (section_of game) play → HasPlay game play
has_play game parts play (bid, column, deal, trump, declarer) deal_is trump_is declarer_is reads = record {
  bid = bid;
  first = parts.first;
  column = column;
  deal = subst (λ d. GivesDeal (value_in game (codes "DEAL")) d) (sym deal_is) deal;
  trump = trump ∙ ap Some (sym trump_is);
  declarer = declarer ∙ ap Some (sym declarer_is);
  reads = reads;
}
