-- Each text is read as lines and their pieces, in one way.
use Rattle.std.specs.Prelude.{ℕ, List, Ok}
use Rattle.pbn_deals.specs.LineBoards.{AreTextLines, HaveBoards}
use Rattle.pbn_deals.specs.declared.boards.Board.{Board}
use Rattle.pbn_deals.specs.Games.{no_tags}
use Rattle.pbn_deals.specs.Pieces.{Line, HasLines}
use Rattle.pbn_deals.specs.Reading.{TextAnswers}

abbrev pub TextsAreLines : Type 0
TextsAreLines = (text : List ℕ) → AreTextLines text

-- The boards that a text says are those of its lines, and a text whose lines have boards says them.
pub record AreBoardsOfLines : Type 0 where
  pub said :
      (text : List ℕ) (boards : List Board) → TextAnswers text (Ok boards) →
      (lines : List Line) × HasLines text lines × HaveBoards 0 no_tags lines boards
  pub says :
      (text : List ℕ) (lines : List Line) (boards : List Board) →
      HasLines text lines → HaveBoards 0 no_tags lines boards → TextAnswers text (Ok boards)
