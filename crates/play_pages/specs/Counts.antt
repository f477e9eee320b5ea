-- What is counted of plays: the tricks lost by each seat, and for the report what is missing.
use Rattle.std.specs.Prelude.{ℕ, ◌+◌, List, Bool, true, false, Option, None, Some, sum_by, if◌then◌else◌}
use Rattle.std.specs.Prelude.{Result, Ok, Err}
use Rattle.std.specs.List.{enumerate_from}
use Rattle.cards.specs.declared.seats.Seat.{Seat}
use Rattle.cards.specs.Seats.{is_same_seat}
use Rattle.recorded_plays.specs.declared.plays.RecordedPlay.{RecordedPlay}
use Rattle.recorded_plays.specs.declared.plays.RecordedGame.{RecordedGame}
use Rattle.recorded_plays.specs.declared.plays.PlayEnd.{PlayEnd}
use Rattle.recorded_plays.specs.declared.plays.PlayEnd.TheVariants as ends
use Rattle.recorded_plays.specs.declared.plays.Lack.{Lack}
use Rattle.recorded_plays.specs.declared.plays.Lack.TheVariants as lack
use Rattle.play_pages.specs.declared.lines.CardLine.{CardLine}
use Rattle.play_pages.specs.declared.lines.PlayLines.{PlayLines}

-- ---- the tricks that a seat loses
abbrev pub known_or_none : Option ℕ → ℕ
known_or_none None = 0
known_or_none (Some number) = number

abbrev pub one_if_unknown : Option ℕ → ℕ
one_if_unknown None = 1
one_if_unknown (Some number) = 0

-- the tricks that the card is known to lose, if this seat played it
abbrev pub lost_in : Seat → CardLine → ℕ
lost_in seat line = if is_same_seat line.seat seat then known_or_none line.lost else 0

-- one if this seat played the card, and what it loses isn't known
abbrev pub unknown_in : Seat → CardLine → ℕ
unknown_in seat line = if is_same_seat line.seat seat then one_if_unknown line.lost else 0

unfoldable pub lost_by : Seat → List CardLine → ℕ
lost_by seat lines = sum_by (lost_in seat) lines

unfoldable pub unknown_by : Seat → List CardLine → ℕ
unknown_by seat lines = sum_by (unknown_in seat) lines

-- ---- the report
-- how many numbers of a play aren't known: the one before its first card, and those after each card
unfoldable pub missing_in : PlayLines → ℕ
missing_in lines = one_if_unknown lines.start + sum_by (λ line. one_if_unknown line.after) lines.lines.items

abbrev pub missing_of : Result RecordedPlay Lack → PlayLines → ℕ
missing_of (Ok play) lines = missing_in lines
missing_of (Err lack) lines = 0

unfoldable pub missing_count : List RecordedGame → (ℕ → PlayLines) → ℕ
missing_count games lines =
    sum_by (λ numbered. missing_of numbered.1.play (lines numbered.0)) (enumerate_from 0 games)

-- the board was passed out, or no play is recorded
abbrev pub is_over_lack : Lack → Bool
is_over_lack lack.PassedOut = true
is_over_lack lack.Play = true
is_over_lack lack.Deal = false
is_over_lack lack.Contract = false
is_over_lack lack.Declarer = false

-- the game is passed over
abbrev pub is_passed_over : RecordedGame → Bool
is_passed_over game = by_play game.play where
  by_play : Result RecordedPlay Lack → Bool
  by_play (Ok play) = false
  by_play (Err lack) = is_over_lack lack

-- the deal, the contract or the declarer is missing
abbrev pub is_lacking : RecordedGame → Bool
is_lacking game = by_play game.play where
  by_play : Result RecordedPlay Lack → Bool
  by_play (Ok play) = false
  by_play (Err lack) = if is_over_lack lack then false else true

-- a card of the play isn't legal
abbrev pub is_illegal_end : PlayEnd → Bool
is_illegal_end (ends.Illegal illegal) = true
is_illegal_end ends.Whole = false
is_illegal_end ends.Early = false
is_illegal_end ends.Unknown = false
is_illegal_end ends.Irregular = false
is_illegal_end ends.Unread = false

-- an irregularity ends the play, or a word that is no card
abbrev pub is_cut_end : PlayEnd → Bool
is_cut_end ends.Irregular = true
is_cut_end ends.Unread = true
is_cut_end ends.Whole = false
is_cut_end ends.Early = false
is_cut_end ends.Unknown = false
is_cut_end (ends.Illegal illegal) = false

abbrev pub is_illegal : RecordedGame → Bool
is_illegal game = by_play game.play where
  by_play : Result RecordedPlay Lack → Bool
  by_play (Ok play) = is_illegal_end play.end
  by_play (Err lack) = false

abbrev pub is_cut : RecordedGame → Bool
is_cut game = by_play game.play where
  by_play : Result RecordedPlay Lack → Bool
  by_play (Ok play) = is_cut_end play.end
  by_play (Err lack) = false
