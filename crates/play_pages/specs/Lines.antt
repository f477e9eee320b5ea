-- The lines of a play: a line for each card, with the number of tricks after it, and what it loses.
use Rattle.std.specs.Prelude.{◌≡◌, ℕ, ◌+◌, ◌-◌, List, map, Option, None, Some, Result, Ok, Err, slice_get}
use Rattle.std.specs.List.{enumerate_from}
use Rattle.std.proofs.Common.{length}
use Rattle.cards.specs.declared.pack.Card.{Card}
use Rattle.cards.specs.Seats.{side_of}
use Rattle.play_rules.specs.Legal.{IsLegalHistory, seat_to_play}
use Rattle.play_values.specs.PlayValues.{Recorded, first_cards}
use Rattle.recorded_plays.specs.declared.plays.RecordedPlay.{RecordedPlay}
use Rattle.recorded_plays.specs.declared.plays.RecordedGame.{RecordedGame}
use Rattle.recorded_plays.specs.declared.plays.Lack.{Lack}
use Rattle.recorded_plays.specs.Follow.{opening_of}
use Rattle.play_pages.specs.declared.lines.CardLine.{CardLine}
use Rattle.play_pages.specs.declared.lines.PlayLines.{PlayLines}

-- the play of a game, with declarer's side
abbrev pub recorded_of : RecordedPlay → Recorded
recorded_of play =
    record {
      position = record { opening = opening_of play; history = play.cards.items };
      declarers = side_of play.declarer;
    }

-- The tricks that declarer's side takes in all after this many first cards, if both sides play best from there. None if
-- it isn't known.
abbrev pub Numbers : Type 0
Numbers = ℕ → Option ℕ

-- By how much the number changes at a card, if both numbers are known. It can change only to the loss of the side that
-- plays the card.
abbrev pub change : Option ℕ → Option ℕ → Option ℕ
change None after = None
change (Some before) None = None
change (Some before) (Some after) = Some ((before - after) + (after - before))

-- the line of a card, by its place from 0: who played it, the number after it, and what it loses
abbrev pub line_of : Recorded → Numbers → ℕ × Card → CardLine
line_of play numbers numbered =
    record {
      seat = seat_to_play play.position.opening (first_cards play numbered.0);
      card = numbered.1;
      after = numbers (numbered.0 + 1);
      lost = change (numbers numbered.0) (numbers (numbered.0 + 1));
    }

-- the lines of all cards, in the order of the play
abbrev pub lines_of : Recorded → Numbers → List CardLine
lines_of play numbers = map (line_of play numbers) (enumerate_from 0 play.position.history)

-- these are the lines of the play, and the numbers before its first card and after its last
pub record AreLinesOf (play : Recorded) (numbers : Numbers) (lines : PlayLines) : Type 0 where
  pub start : lines.start ≡ numbers 0
  pub lines_are : lines.lines.items ≡ lines_of play numbers
  pub end : lines.end ≡ numbers (length play.position.history)

-- ---- games
-- the play of a game, if it has one
abbrev pub play_of : Result RecordedPlay Lack → Option RecordedPlay
play_of (Ok play) = Some play
play_of (Err lack) = None

-- the play of the game in this place from 0, if the game is there and has one
abbrev pub play_in : Option RecordedGame → Option RecordedPlay
play_in None = None
play_in (Some game) = play_of game.play

abbrev pub play_at : List RecordedGame → ℕ → Option RecordedPlay
play_at games place = play_in (slice_get games place)

-- the cards of the play are legal
abbrev pub IsLegalPlay : RecordedPlay → Type 0
IsLegalPlay play = IsLegalHistory (opening_of play) play.cards.items
