-- The conditions of the boards of a text, by the tag pairs of its games.
use Rattle.std.specs.Prelude.{◌≡◌, ℕ, Bool, true, false, List, [], map, Option, None, Some, is_some, unwrap_or}
use Rattle.std.specs.Prelude.{if◌then◌else◌, codes}
use Rattle.std.specs.List.{filter, filter_map, flat_map, slice_get, slice_split}
use Rattle.pbn_deals.specs.Lines.{without_mark}
use Rattle.pbn_deals.specs.Pieces.{Piece, Space, Comment, Pair, Data, NoPair, Kind, Gap, Escaped, OfGame, rows_of, Line}
use Rattle.pbn_deals.specs.Pieces.{AreLines}
use Rattle.pbn_deals.specs.Tags.{is_same_name}
use Rattle.board_conditions.specs.declared.conditions.Conditions.{Conditions}
use Rattle.board_conditions.specs.Numbers.{number_of, dealers, vulnerabilities, in_turn}
use Rattle.board_conditions.specs.Words.{dealer_said, says_dealer, says_vulnerability, vulnerability_said}

-- ---- games
abbrev pub Game : Type 0
Game = List Line

abbrev pub is_gap_kind : Kind → Bool
is_gap_kind (Gap bytes) = true
is_gap_kind (Escaped bytes) = false
is_gap_kind (OfGame pieces) = false

-- a line that holds only blanks ends a game
abbrev pub games_of : List Line → List Game
games_of lines = slice_split (λ line. is_gap_kind line.kind) lines

abbrev pub pieces_of : Kind → List Piece
pieces_of (Gap bytes) = []
pieces_of (Escaped bytes) = []
pieces_of (OfGame pieces) = pieces

abbrev pub game_pieces : Game → List Piece
game_pieces game = flat_map (λ line. pieces_of line.kind) game

-- ---- the tag pairs of a game
-- the value of a tag pair with this name, which is given in capitals
abbrev pub value_named : List ℕ → Piece → Option (List ℕ)
value_named capitals (Space byte) = None
value_named capitals (Comment bytes) = None
value_named capitals (Pair name value bytes) = if is_same_name capitals name then Some value else None
value_named capitals (Data bytes) = None
value_named capitals (NoPair bytes) = None

-- the first value in the tag pairs with this name that is kept
abbrev pub first_kept : (List ℕ → Bool) → List ℕ → List Piece → Option (List ℕ)
first_kept is_kept capitals pieces = slice_get (filter is_kept (filter_map (value_named capitals) pieces)) 0

-- the value of the first tag pair with this name
abbrev pub first_named : List ℕ → List Piece → Option (List ℕ)
first_named capitals pieces = slice_get (filter_map (value_named capitals) pieces) 0

abbrev pub value_in : Game → List ℕ → Option (List ℕ)
value_in game capitals = first_named capitals (game_pieces game)

abbrev pub has_deal : Game → Bool
has_deal game = is_some (value_in game (codes "DEAL"))

abbrev pub name_in : Game → List ℕ
name_in game = unwrap_or (value_in game (codes "BOARD")) []

-- ---- conditions
-- the values of the game's tags for them, the first of each that says something
abbrev pub dealer_in : Game → Option (List ℕ)
dealer_in game = first_kept says_dealer (codes "DEALER") (game_pieces game)

abbrev pub vulnerability_in : Game → Option (List ℕ)
vulnerability_in game = first_kept says_vulnerability (codes "VULNERABLE") (game_pieces game)

-- What the tag's value says. Without one, the board's number says it. A value that is handed on from another game (`#`),
-- or that PBN doesn't know, leaves it open.
abbrev pub settled : {X : Type 0} → (List ℕ → Option X) → Option (List ℕ) → Option X → Option X
settled said None by_number = by_number
settled said (Some value) by_number = said value

abbrev pub conditions_of : Game → Conditions
conditions_of game = record {
  dealer = settled dealer_said (dealer_in game) (in_turn dealers (number_of (name_in game)));
  vulnerable =
      settled vulnerability_said (vulnerability_in game) (in_turn vulnerabilities (number_of (name_in game)));
}

-- the boards of a text are its games with a Deal tag
abbrev pub board_games : List Line → List Game
board_games lines = filter has_deal (games_of lines)

-- one for each board of the text, in the order of the boards
pub record HasConditions (text : List ℕ) (list : List Conditions) : Type 0 where
  pub lines : List Line
  pub is_open : Bool
  pub read : AreLines false (rows_of (without_mark text)) lines is_open
  pub are : list ≡ map conditions_of (board_games lines)
