-- What is printed of boards is read back as the same boards.
use Rattle.std.specs.Prelude.{ℕ, ◌≤◌, List, length, All, Ok, IfSome}
use Rattle.cards.specs.declared.seats.Seat.{Seat}
use Rattle.cards.specs.declared.suits.Trump.{Trump}
use Rattle.pbn_deals.specs.declared.boards.Board.{Board}
use Rattle.pbn_deals.specs.Games.{greatest_count}
use Rattle.pbn_deals.specs.Reading.{TextAnswers}
use Rattle.pbn_deals.specs.Printable.{IsPrintable}
use Rattle.tables.specs.ParText.{IsSmallPar}
use Rattle.tables.specs.TablesText.{Printed, tables_text}

-- a result is at most 13, and the numbers of a par are small
pub record AreTricks (printed : ℕ → Printed) : Type 0 where
  pub at_most :
      (board : ℕ) (declarer : Seat) (denomination : Trump) →
      IfSome ((printed board).results declarer denomination) (λ tricks. tricks ≤ 13)
  pub pars : (board : ℕ) → IfSome (printed board).par IsSmallPar

-- the boards that are read from their printed text are the boards, whatever is printed of them
abbrev pub AreReadBack : Type 0
AreReadBack =
    (boards : List Board) (printed : ℕ → Printed) →
    All IsPrintable boards → AreTricks printed → length boards ≤ greatest_count →
    TextAnswers (tables_text boards printed) (Ok boards)

-- the boards that any text says are read back from what is printed of them, whatever that is
abbrev pub SaidBoardsAreReadBack : Type 0
SaidBoardsAreReadBack =
    (text : List ℕ) (boards : List Board) (printed : ℕ → Printed) →
    TextAnswers text (Ok boards) → AreTricks printed →
    TextAnswers (tables_text boards printed) (Ok boards)
