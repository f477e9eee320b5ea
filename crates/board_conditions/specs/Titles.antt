-- Where and when the boards of a text were played, by the tag pairs of its games.
use Rattle.std.specs.Prelude.{◌≡◌, ℕ, Bool, false, not, ◌||◌, List, [], map, Option, codes, bytes_eq}
use Rattle.std.specs.Option.{option_copied}
use Rattle.pbn_deals.specs.Lines.{without_mark}
use Rattle.pbn_deals.specs.Pieces.{Piece, rows_of, Line, AreLines}
use Rattle.board_conditions.specs.declared.titles.Titles.{Titles}
use Rattle.board_conditions.specs.Games.{Game, first_kept, game_pieces, board_games}

pub record TitleValues : Type 0 where
  pub event : Option (List ℕ)
  pub section : Option (List ℕ)
  pub site : Option (List ℕ)
  pub date : Option (List ℕ)

-- a value that is empty, `?` or `#` (that of the game before) says no title
abbrev pub is_title : List ℕ → Bool
is_title value = not (bytes_eq value [] || (bytes_eq value (codes "?") || bytes_eq value (codes "#")))

-- the first title in tag pairs with this name, which is given in capitals
abbrev pub first_title : List ℕ → List Piece → Option (List ℕ)
first_title = first_kept is_title

abbrev pub title_in : Game → List ℕ → Option (List ℕ)
title_in game capitals = first_title capitals (game_pieces game)

abbrev pub titles_of : Game → TitleValues
titles_of game = record {
  event = title_in game (codes "EVENT");
  section = title_in game (codes "SECTION");
  site = title_in game (codes "SITE");
  date = title_in game (codes "DATE");
}

-- the titles as the program holds them
abbrev pub titles_said : Titles → TitleValues
titles_said titles = record {
  event = option_copied titles.event;
  section = option_copied titles.section;
  site = option_copied titles.site;
  date = option_copied titles.date;
}

-- one for each board of the text, in the order of the boards
pub record HasTitles (text : List ℕ) (list : List TitleValues) : Type 0 where
  pub lines : List Line
  pub is_open : Bool
  pub read : AreLines false (rows_of (without_mark text)) lines is_open
  pub are : list ≡ map titles_of (board_games lines)

-- those of the whole text, as if all of its games were one
pub record HasFirstTitles (text : List ℕ) (titles : TitleValues) : Type 0 where
  pub lines : List Line
  pub is_open : Bool
  pub read : AreLines false (rows_of (without_mark text)) lines is_open
  pub are : titles ≡ titles_of lines
