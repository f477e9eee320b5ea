-- Each text has one list of conditions and of titles, those of its boards. The text of the tables keeps the conditions
-- of its pars.
use Rattle.std.specs.Prelude.{◌≡◌, ℕ, List, map, length, Ok, All, Option, None, Some, ⊤}
use Rattle.std.specs.List.{AllZip, enumerate_from}
use Rattle.pbn_deals.specs.declared.boards.Board.{Board}
use Rattle.pbn_deals.specs.Pieces.{Line, HasLines}
use Rattle.pbn_deals.specs.Printable.{IsPrintable}
use Rattle.pbn_deals.specs.Reading.{TextAnswers}
use Rattle.board_conditions.specs.declared.conditions.Conditions.{Conditions}
use Rattle.board_conditions.specs.Games.{name_in, conditions_of, board_games, HasConditions}
use Rattle.board_conditions.specs.Titles.{TitleValues, titles_of, HasTitles, HasFirstTitles}
use Rattle.tables.specs.declared.pars.BoardPar.{BoardPar}
use Rattle.tables.specs.declared.pars.BoardPar.TheVariants.{Known, NoDealer, NoVulnerability}
use Rattle.tables.specs.TablesText.{Printed, tables_text}
use Rattle.text_laws.specs.ReadBack.{AreTricks}

-- a text has one list of conditions
pub record HasOneList (text : List ℕ) : Type 0 where
  pub list : List Conditions
  pub has : HasConditions text list
  pub one : (other : List Conditions) → HasConditions text other → other ≡ list

abbrev pub TextsHaveOneList : Type 0
TextsHaveOneList = (text : List ℕ) → HasOneList text

-- a text has one list of titles, and one head
pub record HasOneTitles (text : List ℕ) : Type 0 where
  pub list : List TitleValues
  pub has : HasTitles text list
  pub one : (other : List TitleValues) → HasTitles text other → other ≡ list
  pub head : TitleValues
  pub has_head : HasFirstTitles text head
  pub one_head : (other : TitleValues) → HasFirstTitles text other → other ≡ head

abbrev pub TextsHaveOneTitles : Type 0
TextsHaveOneTitles = (text : List ℕ) → HasOneTitles text

-- the boards are those of the games with a Deal tag, in their order, and so are the conditions
pub record AreOfBoards (text : List ℕ) (boards : List Board) (list : List Conditions) : Type 0 where
  pub lines : List Line
  pub read : HasLines text lines
  pub names : map (λ board. board.name) boards ≡ map name_in (board_games lines)
  pub conditions : list ≡ map conditions_of (board_games lines)
  pub as_many : length list ≡ length boards

abbrev pub BoardsHaveConditions : Type 0
BoardsHaveConditions =
    (text : List ℕ) (boards : List Board) (list : List Conditions) →
    TextAnswers text (Ok boards) → HasConditions text list → AreOfBoards text boards list

-- and so are the titles
pub record AreTitlesOfBoards (text : List ℕ) (boards : List Board) (list : List TitleValues) : Type 0 where
  pub lines : List Line
  pub read : HasLines text lines
  pub names : map (λ board. board.name) boards ≡ map name_in (board_games lines)
  pub titles : list ≡ map titles_of (board_games lines)
  pub as_many : length list ≡ length boards

abbrev pub BoardsHaveTitles : Type 0
BoardsHaveTitles =
    (text : List ℕ) (boards : List Board) (list : List TitleValues) →
    TextAnswers text (Ok boards) → HasTitles text list → AreTitlesOfBoards text boards list

-- ---- what is printed
-- the conditions are those from which the par was taken, if it is printed and known
abbrev pub AreOfPar : Option BoardPar → Conditions → Type 0
AreOfPar None conditions = ⊤
AreOfPar (Some (Known dealer vulnerable score contracts)) conditions =
    conditions ≡ record { dealer = Some dealer; vulnerable = Some vulnerable }
AreOfPar (Some NoDealer) conditions = ⊤
AreOfPar (Some NoVulnerability) conditions = ⊤

-- the page, read as a text, has the conditions of each board's par
abbrev pub KeepsConditions : (ℕ → Printed) → List Board → List ℕ → Type 0
KeepsConditions printed boards page =
    (list : List Conditions) → HasConditions page list →
    AllZip (λ numbered conditions. AreOfPar (printed numbered.0).par conditions) (enumerate_from 0 boards) list

abbrev pub PagesKeepConditions : Type 0
PagesKeepConditions =
    (boards : List Board) (printed : ℕ → Printed) →
    All IsPrintable boards → AreTricks printed → KeepsConditions printed boards (tables_text boards printed)
