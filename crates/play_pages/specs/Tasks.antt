-- The search as tasks, which several threads work on: one for each game.
use Rattle.std.specs.Prelude.{◌≡◌, ℕ, ◌⊎◌, List, [], All, Contains, Option, None, Some, IfSome, IfOk, Result}
use Rattle.std.specs.Prelude.{slice_index_or}
use Rattle.std.specs.declared.alloc.AllocError.{AllocError}
use Rattle.std.proofs.Common.{Vec, Global}
use Rattle.play_claims.specs.Solvers.{MayFindPlay}
use Rattle.recorded_plays.specs.declared.plays.RecordedGame.{RecordedGame}
use Rattle.play_pages.specs.declared.lines.PlayLines.{PlayLines}
use Rattle.play_pages.specs.declared.queries.PlayQuery.{PlayQuery}
use Rattle.play_pages.specs.Lines.{play_of, play_at, IsLegalPlay}
use Rattle.play_pages.specs.Answers.{AreFoundLines}

-- the lines of a play without cards of which nothing is known
abbrev pub no_lines : PlayLines
no_lines = record { start = None; lines = record { items = [] }; end = None; section = None }

-- the lines that were noted for a game
abbrev pub lines_if : Option PlayLines → PlayLines
lines_if None = no_lines
lines_if (Some lines) = lines

abbrev pub lines_in : List (Option PlayLines) → ℕ → PlayLines
lines_in found place = lines_if (slice_index_or found place None)

-- the cards of the games' plays are legal
abbrev pub AreLegal : List RecordedGame → Type 0
AreLegal = All (λ game. IfSome (play_of game.play) IsLegalPlay)

-- the lines that a task found, if its game has a play
abbrev pub IsDone : MayFindPlay → PlayQuery → List RecordedGame → ℕ → PlayLines → Type 0
IsDone may_find query games task lines =
    IfSome (play_at games task) (λ play. AreFoundLines may_find query play lines)

-- tasks that are done, with their numbers
abbrev pub AreDone : MayFindPlay → PlayQuery → List RecordedGame → List (ℕ × PlayLines) → Type 0
AreDone may_find query games done = All (λ one. IsDone may_find query games one.0 one.1) done

-- the tasks that a thread has taken, if its memory sufficed
abbrev pub IsShare : MayFindPlay → PlayQuery → List RecordedGame → Result (Vec (ℕ × PlayLines) Global) AllocError
    → Type 0
IsShare may_find query games share = IfOk share (λ done. AreDone may_find query games done.items)

-- what was noted of tasks is what they found
abbrev pub AreNoted : MayFindPlay → PlayQuery → List RecordedGame → List (Option PlayLines) → Type 0
AreNoted may_find query games noted =
    (task : ℕ) → IfSome (slice_index_or noted task None) (IsDone may_find query games task)

-- a note is an old one, or of one of these tasks
abbrev pub NotesDone : List (Option PlayLines) → List (Option PlayLines) → List (ℕ × PlayLines) → Type 0
NotesDone old new done =
    (task : ℕ) (lines : PlayLines) → slice_index_or new task None ≡ Some lines
    → (slice_index_or old task None ≡ Some lines) ⊎ Contains done (task, lines)
