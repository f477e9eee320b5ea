-- What the steps of a reader do to the answer for the lines that follow, unless memory runs out.
use Rattle.std.specs.Prelude.{◌≡◌, ℕ, ◌+◌, List, ◌∷◌, ◌++◌, length, Option, Some, None, Result, Ok, Err, Bool, true}
use Rattle.std.specs.Prelude.{false}
use Rattle.pbn_deals.specs.declared.boards.Board.{Board}
use Rattle.pbn_deals.specs.declared.readers.Reader.{Reader}
use Rattle.pbn_deals.specs.declared.faults.PbnFault.{PbnFault}
use Rattle.pbn_deals.specs.Games.{no_tags, boards_of}
use Rattle.pbn_deals.specs.Reading.{Scans, Ends, Stops, Answers, put_boards}
use Rattle.pbn_deals.specs.Views.{tags_seen, UnlessMemory}

-- the answer for the lines from this number on, by what has been read
abbrev pub AnswersFrom : ℕ → Reader → List (List ℕ) → Result (List Board) PbnFault → Type 0
AnswersFrom number reader lines answer =
    Answers number reader.opened (tags_seen reader.tags) (length reader.boards.items) lines answer

-- the game's board was added, and no tag has come of the next
pub record AddsBoard (old new : Reader) : Type 0 where
  pub boards : new.boards.items ≡ old.boards.items ++ boards_of (tags_seen old.tags)
  pub tags : tags_seen new.tags ≡ no_tags
  pub opened : new.opened ≡ old.opened

abbrev pub EndsGame : {X : Type 0} → Result X PbnFault → Reader → Reader → Type 0
EndsGame (Ok done) old new = AddsBoard old new
EndsGame (Err fault) old new = UnlessMemory fault ⊥

-- where the `{` of a comment that is open stands
abbrev pub opened_at : Bool → ℕ → Option ℕ
opened_at true number = Some number
opened_at false number = None

-- the rest of a line was read
pub record ReadsRest (number : ℕ) (rest : List ℕ) (old new : Reader) : Type 0 where
  pub is_open : Bool
  pub boards : new.boards.items ≡ old.boards.items
  pub opened : new.opened ≡ opened_at is_open number
  pub reads :
      Scans number (length old.boards.items) false (tags_seen old.tags) rest (Ends (tags_seen new.tags) is_open)

abbrev pub TakesRest : {X : Type 0} → Result X PbnFault → ℕ → List ℕ → Reader → Reader → Type 0
TakesRest (Ok done) number rest old new = ReadsRest number rest old new
TakesRest (Err fault) number rest old new =
    UnlessMemory fault (Scans number (length old.boards.items) false (tags_seen old.tags) rest (Stops fault))

-- a line was read: the answer for it and what follows is that for what follows, after the board that it ends
pub record ReadsWhole (number : ℕ) (line : List ℕ) (old new : Reader) : Type 0 where
  pub added : List Board
  pub boards : new.boards.items ≡ old.boards.items ++ added
  pub goes :
      (lines : List (List ℕ)) (answer : Result (List Board) PbnFault) →
      AnswersFrom (number + 1) new lines answer →
      AnswersFrom number old (line ∷ lines) (put_boards added answer)

abbrev pub TakesLine : {X : Type 0} → Result X PbnFault → ℕ → List ℕ → Reader → Reader → Type 0
TakesLine (Ok done) number line old new = ReadsWhole number line old new
TakesLine (Err fault) number line old new =
    UnlessMemory fault ((lines : List (List ℕ)) → AnswersFrom number old (line ∷ lines) (Err fault))
