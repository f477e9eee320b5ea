-- The boards of a PBN text: each can stand in a Board and a Deal tag.
use Rattle.std.specs.Prelude.{◌≡◌, ◌≤◌, ℕ, List, length, Option, None, Some, All, Ok, false}
use Rattle.cards.specs.Deal.{Deal, IsLayout, size_of}
use Rattle.pbn_deals.specs.declared.boards.Board.{Board}
use Rattle.pbn_deals.specs.Tags.{is_inherited}
use Rattle.pbn_deals.specs.Games.{greatest_count}
use Rattle.pbn_deals.specs.Reading.{TextAnswers, Lacks}
use Rattle.cards.specs.Bytes as ascii

-- the deal of a board in a tournament: 13 cards a hand
pub record IsWholeDeal (deal : Deal) : Type 0 where
  pub layout : IsLayout deal
  pub size : size_of deal ≡ 13

-- no deal, or a whole one
abbrev pub IsBoardDeal : Option Deal → Type 0
IsBoardDeal None = Unit {0}
IsBoardDeal (Some deal) = IsWholeDeal deal

-- A Board tag can hold the board's name, which has no line feed and no quote and does not begin with `#`.
pub record IsPrintable (board : Board) : Type 0 where
  pub one_line : Lacks ascii.line_feed board.name
  pub no_quote : Lacks ascii.quote board.name
  pub own_name : is_inherited board.name ≡ false
  pub deal : IsBoardDeal board.deal

-- the boards of a text are printable, and no more than a text may have
abbrev pub BoardsArePrintable : Type 0
BoardsArePrintable =
    (text : List ℕ) (boards : List Board) →
    TextAnswers text (Ok boards) → All IsPrintable boards × (length boards ≤ greatest_count)
