-- What has been read of a game.
use Rattle.std.specs.Prelude.{◌≡◌, ◌++◌, Bool, true, false, List, ◌∷◌, Option, None, Some, codes}
use Rattle.std.specs.List.{filter}
use Rattle.std.specs.Option.{option_copied}
use Rattle.pbn_deals.specs.Pieces.{Piece, Kind, Line, rows_of, AreLines}
use Rattle.board_conditions.specs.declared.game_texts.GameText.{GameText}
use Rattle.board_conditions.specs.Games.{Game, first_kept, first_named, is_gap_kind, pieces_of, games_of, game_pieces, has_deal}
use Rattle.board_conditions.specs.Games.{board_games}
use Rattle.board_conditions.specs.Titles.{first_title}
use Rattle.board_conditions.specs.Words.{says_dealer, says_vulnerability}

-- those of these pieces; the flag tells that a brace comment is open behind them
pub record AreValues (pieces : List Piece) (is_open : Bool) (found : GameText) : Type 0 where
  pub board : option_copied found.board ≡ first_named (codes "BOARD") pieces
  pub deal : option_copied found.deal ≡ first_named (codes "DEAL") pieces
  pub dealer : option_copied found.dealer ≡ first_kept says_dealer (codes "DEALER") pieces
  pub vulnerable : option_copied found.vulnerable ≡ first_kept says_vulnerability (codes "VULNERABLE") pieces
  pub event : option_copied found.event ≡ first_title (codes "EVENT") pieces
  pub section : option_copied found.section ≡ first_title (codes "SECTION") pieces
  pub site : option_copied found.site ≡ first_title (codes "SITE") pieces
  pub date : option_copied found.date ≡ first_title (codes "DATE") pieces
  pub opened : found.is_open ≡ is_open

-- after one line more, unless it ends the game
abbrev pub EndsOrAdds : List Piece → Kind → Bool → Option GameText → Type 0
EndsOrAdds pieces kind last None = is_gap_kind kind ≡ true
EndsOrAdds pieces kind last (Some found) =
    (is_gap_kind kind ≡ false) × AreValues (pieces ++ pieces_of kind) last found

-- the first game of these lines, and the text of the games after it
pub record IsFirstGame (lines : List Line) (found : GameText) : Type 0 where
  pub game : Game
  pub later : List Game
  pub parts : games_of lines ≡ game ∷ later
  pub is_open : Bool
  pub are : AreValues (game_pieces game) is_open found
  pub more : List Line
  pub last : Bool
  pub read : AreLines false (rows_of found.rest.now) more last
  pub boards : filter has_deal later ≡ board_games more
