-- What is printed of boards is read, line by line, as their names, their deals and their results, each once.
use Rattle.std.specs.Prelude.{◌≡◌, ℕ, ◌<◌, true, ◌&&◌, List, [], ◌∷◌, length, map, filter, All, Option, None, Some}
use Rattle.std.specs.Prelude.{Ok, Bool, false}
use Rattle.std.specs.List.{enumerate_from}
use Rattle.cards.specs.declared.seats.Seat.{Seat}
use Rattle.cards.specs.declared.suits.Suit.TheVariants.{Spades, Hearts, Diamonds, Clubs}
use Rattle.cards.specs.declared.suits.Trump.{Trump}
use Rattle.cards.specs.declared.suits.Trump.TheVariants as trump
use Rattle.cards.specs.Seats.{is_same_seat, seat_letter}
use Rattle.pbn_deals.specs.declared.boards.Board.{Board}
use Rattle.pbn_deals.specs.Games.{SaysDeal}
use Rattle.pbn_deals.specs.Lines.{lines_of}
use Rattle.pbn_deals.specs.Printable.{IsPrintable}
use Rattle.par.specs.Texts.{score_text, contracts_text}
use Rattle.tables.specs.ConditionTags.{sides_shown}
use Rattle.tables.specs.declared.pars.BoardPar.{BoardPar}
use Rattle.tables.specs.declared.pars.BoardPar.TheVariants.{Known, NoDealer, NoVulnerability}
use Rattle.tables.specs.TablesText.{Results, Printed, published_count, is_complete, tables_text}
use Rattle.text_laws.specs.ReadBack.{AreTricks}
use Rattle.text_laws.specs.PageReading.{Row, Table, Rows, Incomplete, ParSaid, Nothing, Values, DealerUnknown}
use Rattle.text_laws.specs.PageReading.{VulnerabilityUnknown, ConditionsSaid, Unsaid, Said, Section, Block, page_in}

abbrev pub is_same_denomination : Trump → Trump → Bool
is_same_denomination trump.Nt trump.Nt = true
is_same_denomination (trump.Suit Spades) (trump.Suit Spades) = true
is_same_denomination (trump.Suit Hearts) (trump.Suit Hearts) = true
is_same_denomination (trump.Suit Diamonds) (trump.Suit Diamonds) = true
is_same_denomination (trump.Suit Clubs) (trump.Suit Clubs) = true
is_same_denomination _ _ = false

abbrev pub is_row_of : Seat → Trump → Row → Bool
is_row_of declarer denomination row =
    is_same_seat declarer row.declarer && is_same_denomination denomination row.denomination

-- the numbers in all rows of a declarer and a denomination
abbrev pub numbers_in : List Row → Seat → Trump → List ℕ
numbers_in rows declarer denomination = map (λ row. row.tricks) (filter (is_row_of declarer denomination) rows)

-- the one row of a declarer and a denomination has their result
pub record IsWrittenOnce (results : Results) (rows : List Row) (declarer : Seat) (denomination : Trump) : Type 0 where
  pub tricks : ℕ
  pub result : results declarer denomination ≡ Some tricks
  pub once : numbers_in rows declarer denomination ≡ tricks ∷ []

-- twenty rows, in which each result stands once; or how many of the twenty there are, where some are not known
abbrev pub SaysResults : Results → Table → Type 0
SaysResults results (Rows rows) =
    (length rows ≡ 20) × ((declarer : Seat) (denomination : Trump) → IsWrittenOnce results rows declarer denomination)
SaysResults results (Incomplete count) = (count ≡ published_count results) × (count < 20)

-- what is said of a par that is printed, or not
abbrev pub par_said : Option BoardPar → ParSaid
par_said None = Nothing
par_said (Some (Known dealer vulnerable score contracts)) = Values (score_text score) (contracts_text contracts.items)
par_said (Some NoDealer) = DealerUnknown
par_said (Some NoVulnerability) = VulnerabilityUnknown

-- what is said of the conditions of a par that is printed and known
abbrev pub conditions_said : Option BoardPar → ConditionsSaid
conditions_said None = Unsaid
conditions_said (Some (Known dealer vulnerable score contracts)) = Said (seat_letter dealer) (sides_shown vulnerable)
conditions_said (Some NoDealer) = Unsaid
conditions_said (Some NoVulnerability) = Unsaid

-- the par and the results that are printed
pub record SaysSection (printed : Printed) (section : Section) : Type 0 where
  pub par : section.par ≡ par_said printed.par
  pub table : SaysResults printed.results section.table

-- the board's name, a value of which a Deal tag says the board's deal and no other, and the board's par with its
-- conditions, and results
pub record SaysBoard (board : Board) (printed : Printed) (block : Block) : Type 0 where
  pub name : block.name ≡ board.name
  pub deal : (line : ℕ) → SaysDeal line block.deal (Ok board.deal)
  pub conditions : block.conditions ≡ conditions_said printed.par
  pub section : SaysSection printed block.section

-- a block for each board, in their order, and no other
abbrev pub SayBoards : (ℕ → Printed) → List (ℕ × Board) → List Block → Type 0
SayBoards printed [] [] = Unit {0}
SayBoards printed (numbered ∷ more) (block ∷ blocks) =
    SaysBoard numbered.1 (printed numbered.0) block × SayBoards printed more blocks
SayBoards printed _ _ = ⊥

-- the page is read as blocks that say the boards and what is printed of them
abbrev pub TableTextsAreRead : Type 0
TableTextsAreRead =
    (boards : List Board) (printed : ℕ → Printed) →
    All IsPrintable boards → AreTricks printed →
    (blocks : List Block) × (page_in (lines_of (tables_text boards printed)) ≡ Some blocks)
    × SayBoards printed (enumerate_from 0 boards) blocks

-- the same par, and the same results, where they are all known, and else as many
pub record SaySame (one other : Printed) : Type 0 where
  pub pars : par_said one.par ≡ par_said other.par
  pub counts : published_count one.results ≡ published_count other.results
  pub numbers :
      is_complete one.results ≡ true → (declarer : Seat) (denomination : Trump) →
      one.results declarer denomination ≡ other.results declarer denomination

-- the same section, and the same conditions of its par
pub record SaySameBlock (one other : Printed) : Type 0 where
  pub conditions : conditions_said one.par ≡ conditions_said other.par
  pub section : SaySame one other

-- one page says one list of boards, and of each of them the same
abbrev pub PagesSayOneThing : Type 0
PagesSayOneThing =
    (boards others : List Board) (printed printed' : ℕ → Printed) →
    All IsPrintable boards → All IsPrintable others → AreTricks printed → AreTricks printed' →
    tables_text boards printed ≡ tables_text others printed' →
    (boards ≡ others) × ((place : ℕ) → place < length boards → SaySameBlock (printed place) (printed' place))
