-- The recorded plays of a text, game by game.
use Rattle.std.specs.Prelude.{◌≡◌, ℕ, ◌||◌, Bool, true, false, List, [], ◌∷◌, Option, None, Some, is_some, IsSome}
use Rattle.std.specs.Prelude.{unwrap_or, Result, Ok, Err, codes, option_and_then}
use Rattle.std.specs.List.{filter}
use Rattle.std.specs.Option.{option_map_or}
use Rattle.cards.specs.declared.suits.Trump.{Trump}
use Rattle.cards.specs.declared.seats.Seat.{Seat}
use Rattle.cards.specs.Deal.{Deal}
use Rattle.pbn_deals.specs.Lines.{without_mark}
use Rattle.pbn_deals.specs.Pieces.{rows_of, Line, AreLines}
use Rattle.pbn_deals.specs.LayoutValue.{SaysLayout}
use Rattle.pbn_deals.specs.declared.faults.PbnFault.{PbnFault}
use Rattle.board_conditions.specs.Games.{Game, games_of, value_in, name_in}
use Rattle.recorded_plays.specs.declared.plays.RecordedPlay.{RecordedPlay}
use Rattle.recorded_plays.specs.declared.plays.RecordedGame.{RecordedGame}
use Rattle.recorded_plays.specs.declared.plays.Lack.{Lack}
use Rattle.recorded_plays.specs.declared.plays.Lack.TheVariants as lack
use Rattle.recorded_plays.specs.Words.{seat_said, trump_said, says_passed_out}
use Rattle.recorded_plays.specs.Sections.{section_of}
use Rattle.recorded_plays.specs.Follow.{IsRead}

-- ---- the parts of a game
abbrev pub is_passed_out : Game → Bool
is_passed_out game = option_map_or says_passed_out (value_in game (codes "CONTRACT")) false

-- the seat of the Play section's first column
abbrev pub column_in : Game → Option Seat
column_in game = option_and_then seat_said (value_in game (codes "PLAY"))

abbrev pub trump_in : Game → Option Trump
trump_in game = option_and_then trump_said (value_in game (codes "CONTRACT"))

abbrev pub declarer_in : Game → Option Seat
declarer_in game = option_and_then seat_said (value_in game (codes "DECLARER"))

-- the value is there, and says this deal
abbrev pub GivesDeal : Option (List ℕ) → Deal → Type 0
GivesDeal None deal = ⊥
GivesDeal (Some value) deal = SaysLayout value (Ok deal)

-- there is no value, or it says none
abbrev pub GivesNoDeal : Option (List ℕ) → Type 0
GivesNoDeal None = Unit {0}
GivesNoDeal (Some value) = (fault : PbnFault) × SaysLayout value (Err fault)

-- ---- what is read of a game
pub record HasPlay (game : Game) (play : RecordedPlay) : Type 0 where
  pub bid : is_passed_out game ≡ false
  pub first : Seat
  pub column : column_in game ≡ Some first
  pub deal : GivesDeal (value_in game (codes "DEAL")) play.deal
  pub trump : trump_in game ≡ Some play.trump
  pub declarer : declarer_in game ≡ Some play.declarer
  pub reads : IsRead first (section_of game) play

-- the first of the parts that a game lacks
abbrev pub Lacks : Game → Lack → Type 0
Lacks game lack.PassedOut = is_passed_out game ≡ true
Lacks game lack.Play = (is_passed_out game ≡ false) × (column_in game ≡ None)
Lacks game lack.Deal =
    (is_passed_out game ≡ false) × IsSome (column_in game) × GivesNoDeal (value_in game (codes "DEAL"))
Lacks game lack.Contract =
    (is_passed_out game ≡ false) ×
    IsSome (column_in game) ×
    ((deal : Deal) × GivesDeal (value_in game (codes "DEAL")) deal) ×
    (trump_in game ≡ None)
Lacks game lack.Declarer =
    (is_passed_out game ≡ false) ×
    IsSome (column_in game) ×
    ((deal : Deal) × GivesDeal (value_in game (codes "DEAL")) deal) ×
    IsSome (trump_in game) ×
    (declarer_in game ≡ None)

abbrev pub SaysPlay : Game → Result RecordedPlay Lack → Type 0
SaysPlay game (Ok play) = HasPlay game play
SaysPlay game (Err lack) = Lacks game lack

pub record SaysGame (game : Game) (found : RecordedGame) : Type 0 where
  pub board : found.board.now ≡ name_in game
  pub contract : found.contract.now ≡ unwrap_or (value_in game (codes "CONTRACT")) []
  pub play : SaysPlay game found.play

-- ---- the games of a text
-- a game that has a Deal tag or a Play tag
abbrev pub is_recorded : Game → Bool
is_recorded game = is_some (value_in game (codes "DEAL")) || is_some (value_in game (codes "PLAY"))

abbrev pub recorded_games : List Line → List Game
recorded_games lines = filter is_recorded (games_of lines)

-- each in its place
abbrev pub AreGames : List Game → List RecordedGame → Type 0
AreGames [] [] = Unit {0}
AreGames [] (found ∷ list) = ⊥
AreGames (game ∷ games) [] = ⊥
AreGames (game ∷ games) (found ∷ list) = SaysGame game found × AreGames games list

-- one for each such game of the text, in the order of the games
pub record HasPlays (text : List ℕ) (list : List RecordedGame) : Type 0 where
  pub lines : List Line
  pub is_open : Bool
  pub read : AreLines false (rows_of (without_mark text)) lines is_open
  pub are : AreGames (recorded_games lines) list
