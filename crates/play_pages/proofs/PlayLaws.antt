-- The plays of the games of a text: their cards are legal.
use Rattle.std.proofs.Common.{ℕ, List, [], ◌∷◌, Result, Ok, Err, IfSome, Vec, Global}
use Rattle.std.specs.Prelude.{IfOk}
use Rattle.std.specs.declared.alloc.AllocError.{AllocError}
use Rattle.std.proofs.lemmas.List.Elements.{All-nil, All-cons}
use Rattle.board_conditions.specs.Games.{Game}
use Rattle.recorded_plays.specs.declared.plays.RecordedPlay.{RecordedPlay}
use Rattle.recorded_plays.specs.declared.plays.RecordedGame.{RecordedGame}
use Rattle.recorded_plays.specs.declared.plays.Lack.{Lack}
use Rattle.recorded_plays.specs.Games.{AreGames, SaysPlay, HasPlays, recorded_games}
use Rattle.play_pages.specs.Lines.{play_of, IsLegalPlay}
use Rattle.play_pages.specs.Tasks.{AreLegal}

legal_one : (game : Game) (play : Result RecordedPlay Lack) → SaysPlay game play → IfSome (play_of play) IsLegalPlay
legal_one game (Ok play) says = says.reads.legal
legal_one game (Err lack) says = tt

pub legal_games : (games : List Game) (list : List RecordedGame) → AreGames games list → AreLegal list
legal_games [] [] are = All-nil (λ (game : RecordedGame). IfSome (play_of game.play) IsLegalPlay)
legal_games [] (found ∷ list) are = absurd are
legal_games (game ∷ games) [] are = absurd are
legal_games (game ∷ games) (found ∷ list) are =
    All-cons (λ (game : RecordedGame). IfSome (play_of game.play) IsLegalPlay) found list (legal_one game found.play are.0.play) (legal_games games list are.1)

pub legal_of : (text : List ℕ) (answer : Result (Vec RecordedGame Global) AllocError) →
    IfOk answer (λ games. HasPlays text games.items) → IfOk answer (λ games. AreLegal games.items)
legal_of text (Ok games) has = legal_games (recorded_games has.lines) games.items has.are
legal_of text (Err fault) has = tt
