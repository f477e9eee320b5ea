-- Two PBN texts, one after another: what a blank line keeps apart is read apart.
use Rattle.std.specs.Prelude.{◌≤◌, ℕ, ◌+◌, List, ◌∷◌, ◌++◌, length, None, ◌⊎◌, Result, Ok, Err}
use Rattle.pbn_deals.specs.declared.boards.Board.{Board}
use Rattle.pbn_deals.specs.declared.faults.PbnFault.{PbnFault}
use Rattle.pbn_deals.specs.declared.faults.PbnFault.TheVariants.{TagForm, OpenComment, SecondDeal, DealForm, CardTwice}
use Rattle.pbn_deals.specs.declared.faults.PbnFault.TheVariants.{HandSize, Inherited, TooManyBoards, OutOfMemory}
use Rattle.pbn_deals.specs.Games.{no_tags, greatest_count}
use Rattle.pbn_deals.specs.Lines.{lines_of, without_mark}
use Rattle.pbn_deals.specs.Reading.{Answers, TextAnswers}
use Rattle.cards.specs.Bytes as ascii

-- the text ends outside a comment, or has a fault before its end
abbrev pub EndsOutside : List ℕ → Type 0
EndsOutside text = (line : ℕ) → TextAnswers text (Err (OpenComment line)) → ⊥

-- the end of the first text's last line, a blank line, and the second text without its byte order mark
abbrev pub joined : List ℕ → List ℕ → List ℕ
joined first second = first ++ ascii.line_feed ∷ ascii.line_feed ∷ without_mark second

-- how many lines stand before the second text: those of the first and the blank one
abbrev pub lines_before : List ℕ → ℕ
lines_before first = length (lines_of (without_mark first)) + 1

-- a fault of a text that so many lines stand before
abbrev pub counted_on : ℕ → PbnFault → PbnFault
counted_on lines (TagForm line) = TagForm (lines + line)
counted_on lines (OpenComment line) = OpenComment (lines + line)
counted_on lines (SecondDeal line) = SecondDeal (lines + line)
counted_on lines (DealForm line) = DealForm (lines + line)
counted_on lines (CardTwice line) = CardTwice (lines + line)
counted_on lines (HandSize line) = HandSize (lines + line)
counted_on lines (Inherited line) = Inherited (lines + line)
counted_on lines (TooManyBoards line) = TooManyBoards (lines + line)
counted_on lines OutOfMemory = OutOfMemory

-- the answer for a text that so many boards stand before: they count with its own
abbrev pub AnswersAfter : ℕ → List ℕ → Result (List Board) PbnFault → Type 0
AnswersAfter count text answer = Answers 1 None no_tags count (lines_of (without_mark text)) answer

-- the text has more boards than a text may have
abbrev pub HasTooMany : List ℕ → Type 0
HasTooMany text = (line : ℕ) × TextAnswers text (Err (TooManyBoards line))

-- The boards of the first text and then those of the second, or the fault that comes first, its line counted on.
pub record AreReadInTurn (first second : List ℕ) : Type 0 where
  pub both_read :
      (boards others : List Board) →
      TextAnswers first (Ok boards) → TextAnswers second (Ok others) → length boards + length others ≤ greatest_count →
      TextAnswers (joined first second) (Ok (boards ++ others))
  pub first_refused : (fault : PbnFault) → TextAnswers first (Err fault) → TextAnswers (joined first second) (Err fault)
  pub second_refused :
      (boards : List Board) (fault : PbnFault) →
      TextAnswers first (Ok boards) → TextAnswers second (Err fault) →
      TextAnswers (joined first second) (Err (counted_on (lines_before first) fault)) ⊎ HasTooMany (joined first second)
  pub second_after :
      (boards : List Board) (fault : PbnFault) →
      TextAnswers first (Ok boards) → AnswersAfter (length boards) second (Err fault) →
      TextAnswers (joined first second) (Err (counted_on (lines_before first) fault))

-- two texts are read in turn where the first ends outside a comment
abbrev pub TextsAreReadInTurn : Type 0
TextsAreReadInTurn = (first second : List ℕ) → EndsOutside first → AreReadInTurn first second
