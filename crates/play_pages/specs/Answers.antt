-- The numbers of plays that a solver's answers show.
use Rattle.std.specs.Prelude.{◌≡◌, ℕ, List, Bool, true, false, Option, None, Some, IfSome, Result, Ok, Err}
use Rattle.cards.specs.declared.faults.OutOfMemory.{OutOfMemory}
use Rattle.play_claims.specs.Solvers.{MayFindPlay}
use Rattle.play_claims.specs.declared.claims.PlayBundle.{PlayBundle}
use Rattle.play_evidence.specs.Sections.{PlaySectionShape, MakesPlaySection, shape_of}
use Rattle.play_values.specs.PlayValues.{IsValueAt}
use Rattle.certified_plays.specs.declared.searching.PlayFound.{PlayFound}
use Rattle.certified_plays.specs.Searches.{FindsPlay}
use Rattle.certified_plays.specs.Values.{ShownPlay, value_at}
use Rattle.recorded_plays.specs.declared.plays.RecordedPlay.{RecordedPlay}
use Rattle.recorded_plays.specs.declared.plays.RecordedGame.{RecordedGame}
use Rattle.recorded_plays.specs.Follow.{opening_of}
use Rattle.play_pages.specs.declared.lines.PlayLines.{PlayLines}
use Rattle.play_pages.specs.declared.queries.PlayQuery.{PlayQuery}
use Rattle.play_pages.specs.Lines.{Numbers, recorded_of, AreLinesOf, play_at}

-- the numbers that are known of a play whose values these are, if it has any
abbrev pub numbers_in : Option ShownPlay → Numbers
numbers_in None count = None
numbers_in (Some shown) count = value_at shown count

-- the values that an answer shows: none if memory ran out in the call
abbrev pub values_of : Result PlayFound OutOfMemory → Option ShownPlay
values_of (Ok found) = Some found.values
values_of (Err fault) = None

abbrev pub shown_by : Result PlayFound OutOfMemory → Numbers
shown_by answer = numbers_in (values_of answer)

-- each number that is known is the value after its first cards, double dummy
abbrev pub AreTrue : RecordedPlay → Numbers → Type 0
AreTrue play numbers = (count : ℕ) → IfSome (numbers count) (IsValueAt (recorded_of play) count)

-- ---- evidence that is kept
-- the section of a play with these claims and nodes
abbrev pub section_of : RecordedPlay → PlayBundle → PlaySectionShape
section_of play bundle =
    shape_of (opening_of play).deal (opening_of play).leader (opening_of play).trump play.cards.items bundle

-- what is kept of an answer, if its evidence is to be kept: its section, if it makes one
abbrev pub IsKeptOf : Result PlayFound OutOfMemory → Bool → RecordedPlay → Option PlaySectionShape → Type 0
IsKeptOf (Err fault) keeps play section = section ≡ None
IsKeptOf (Ok found) false play section = section ≡ None
IsKeptOf (Ok found) true play section = MakesPlaySection (section_of play found.bundle) section

-- the numbers that are known by an answer: if its evidence is to be kept and makes no section, none
abbrev pub numbers_by : Result PlayFound OutOfMemory → Bool → Option PlaySectionShape → Numbers
numbers_by (Err fault) keeps section = numbers_in None
numbers_by (Ok found) false section = numbers_in (Some found.values)
numbers_by (Ok found) true None = numbers_in None
numbers_by (Ok found) true (Some section) = numbers_in (Some found.values)

-- the lines of a play by an answer whose evidence is kept
pub record AreKeptLines (play : RecordedPlay) (found : PlayFound) (lines : PlayLines) : Type 0 where
  pub kept : MakesPlaySection (section_of play found.bundle) lines.section
  pub are : AreLinesOf (recorded_of play) (numbers_by (Ok found) true lines.section) lines

-- ---- the lines of plays
-- The lines of a play. Their numbers are those that one answer shows, which the solver may give within the budget.
pub record AreFoundLines (may_find : MayFindPlay) (query : PlayQuery) (play : RecordedPlay) (lines : PlayLines)
    : Type 0 where
  pub answer : Result PlayFound OutOfMemory
  pub finds : FindsPlay may_find (recorded_of play) query.budget answer
  pub kept : IsKeptOf answer query.keeps play lines.section
  pub true_are : AreTrue play (shown_by answer)
  pub are : AreLinesOf (recorded_of play) (numbers_by answer query.keeps lines.section) lines

-- the lines of each game that has a play, by its place
abbrev pub AreFoundOn : MayFindPlay → PlayQuery → List RecordedGame → (ℕ → PlayLines) → Type 0
AreFoundOn may_find query games lines =
    (place : ℕ) → IfSome (play_at games place) (λ play. AreFoundLines may_find query play (lines place))
