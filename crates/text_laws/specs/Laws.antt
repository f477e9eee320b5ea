-- What holds of each text that is written so.
use Rattle.std.specs.Prelude.{◌≡◌, ℕ, Bool, true, false, List, [], ◌∷◌, ◌++◌, map, Some, is_some, Ok, ◌⊎◌, All, IfSome}
use Rattle.std.specs.Prelude.{if◌then◌else◌}
use Rattle.std.specs.List.{flat_map, enumerate_from}
use Rattle.pbn_deals.specs.declared.boards.Board.{Board}
use Rattle.pbn_deals.specs.Pieces.{body_of, Line, line_bytes, mark_of, HasLines}
use Rattle.pbn_deals.specs.Reading.{TextAnswers}
use Rattle.tables.specs.TablesText.{Printed, section_text}
use Rattle.text_laws.specs.PageReading.{Section, section_in}
use Rattle.text_laws.specs.ReadBack.{AreTricks}
use Rattle.text_laws.specs.WrittenOnce.{SaysSection}
use Rattle.whole_texts.specs.LineEnds.{IsLineEnd}
use Rattle.whole_texts.specs.OldTables.{renews_pars, has_deal, left_of}
use Rattle.whole_texts.specs.WholeText.{Game, games_of, WholeText}
use Rattle.tables.specs.declared.results.Renews.{Renews}

-- one text is written of each that is read as boards
pub record IsWrittenOne (old : Renews) (text : List ℕ) (boards : List Board) (results : ℕ → Printed) : Type 0 where
  pub written : List ℕ
  pub whole : WholeText old text boards results written
  pub one : (other : List ℕ) → WholeText old text boards results other → other ≡ written

abbrev pub AreWrittenOne : Type 0
AreWrittenOne =
    (old : Renews) (text : List ℕ) (boards : List Board) (results : ℕ → Printed) →
    TextAnswers text (Ok boards) → IsWrittenOne old text boards results

-- what is written is read as the same boards, with the same names and deals
abbrev pub KeepBoards : Type 0
KeepBoards =
    (old : Renews) (text : List ℕ) (boards : List Board) (results : ℕ → Printed) (written : List ℕ) →
    TextAnswers text (Ok boards) → AreTricks results → WholeText old text boards results written →
    TextAnswers written (Ok boards)

-- pars are printed only where old ones go
abbrev pub RenewsPrinted : Renews → (ℕ → Printed) → Type 0
RenewsPrinted old printed = (place : ℕ) → IfSome (printed place).par (λ par. renews_pars old ≡ true)

-- what is written stays as it is, where its tables are written anew with the same results
abbrev pub StayTheSame : Type 0
StayTheSame =
    (old : Renews) (text : List ℕ) (boards : List Board) (results : ℕ → Printed) (written : List ℕ) →
    TextAnswers text (Ok boards) → AreTricks results → RenewsPrinted old results →
    WholeText old text boards results written →
    WholeText old written boards results written

-- ---- nothing is lost
-- what is written, segment by segment: bytes of the text, and bytes that were put between them
pub data Segment : Type 0 where
  OfText : List ℕ → Segment
  Put : List ℕ → Segment

abbrev pub segment_bytes : Segment → List ℕ
segment_bytes (OfText bytes) = bytes
segment_bytes (Put bytes) = bytes

abbrev pub text_bytes : Segment → List ℕ
text_bytes (OfText bytes) = bytes
text_bytes (Put bytes) = []

-- what is put is a section of some place, or the end of the last line
abbrev pub IsPut : (ℕ → Printed) → Segment → Type 0
IsPut results (OfText bytes) = Unit {0}
IsPut results (Put bytes) =
    (end : List ℕ) × IsLineEnd end × ((bytes ≡ end) ⊎ ((place : ℕ) × (bytes ≡ section_text end (results place))))

-- the lines of a text without its old tables
abbrev pub game_without : Renews → Game → List Line
game_without old game = (if has_deal game.lines then left_of old game.lines else game.lines) ++ game.gap

abbrev pub lines_without : Renews → List Line → List Line
lines_without old lines = flat_map (game_without old) (games_of lines)

-- Without what was put, what is written is the text without its old tables, to the byte.
pub record LosesNothing (old : Renews) (text : List ℕ) (results : ℕ → Printed) (written : List ℕ) : Type 0 where
  pub lines : List Line
  pub read : HasLines text lines
  pub segments : List Segment
  pub whole : written ≡ flat_map segment_bytes segments
  pub kept : flat_map text_bytes segments ≡ mark_of text ++ flat_map line_bytes (lines_without old lines)
  pub put : All (IsPut results) segments

abbrev pub LoseNothing : Type 0
LoseNothing =
    (old : Renews) (text : List ℕ) (boards : List Board) (results : ℕ → Printed) (written : List ℕ) →
    WholeText old text boards results written → LosesNothing old text results written

-- ---- each number once
abbrev pub bodies : List Line → List (List ℕ)
bodies lines = map (λ line. body_of line.kind) lines

-- The last lines of a game are read as a section that says this par, if it is printed, and these results, or how many
-- of them are known. Before them stands nothing that would go.
pub record ShowsOnce (old : Renews) (printed : Printed) (lines : List Line) : Type 0 where
  pub before : List Line
  pub shown : List Line
  pub parts : lines ≡ before ++ shown
  pub none_before : left_of old before ≡ before
  pub section : Section
  pub read : section_in (bodies shown) ≡ Some section
  pub says : SaysSection printed section

-- the one or the other
abbrev pub Where : Bool → Type 0 → Type 0 → Type 0
Where true One Other = One
Where false One Other = Other

-- a game shows the results of its board, where the board has a deal, and else none
abbrev pub ShowsBoard : Renews → (ℕ → Printed) → ℕ × Board → List Line → Type 0
ShowsBoard old results numbered lines =
    Where (is_some numbered.1.deal) (ShowsOnce old (results numbered.0) lines) (left_of old lines ≡ lines)

-- the games with a Deal tag show those of the boards, in their order, and there are no more
abbrev pub ShowGames : Renews → (ℕ → Printed) → List (ℕ × Board) → List Game → Type 0
ShowGames old results [] [] = Unit {0}
ShowGames old results (numbered ∷ more) [] = ⊥
ShowGames old results [] (game ∷ games) = (has_deal game.lines ≡ false) × ShowGames old results [] games
ShowGames old results (numbered ∷ more) (game ∷ games) =
    Where (has_deal game.lines) (ShowsBoard old results numbered game.lines × ShowGames old results more games)
    (ShowGames old results (numbered ∷ more) games)

-- Read by its lines, what is written has one section in each game with a Deal tag whose board has a deal: one table, or
-- one line of how many results are known.
abbrev pub ShowEachOnce : Type 0
ShowEachOnce =
    (old : Renews) (text : List ℕ) (boards : List Board) (results : ℕ → Printed) (written : List ℕ) →
    TextAnswers text (Ok boards) → AreTricks results → WholeText old text boards results written →
    (lines : List Line) × HasLines written lines × ShowGames old results (enumerate_from 0 boards) (games_of lines)
