-- A game on a sheet of plays: its name, declarer and contract, the four hands, the table of the play, and the card that
-- isn't legal, if the play ends before one.
use Rattle.std.specs.Prelude.{ℕ, List, [], ◌++◌, codes, decimal, Result, Ok, Err, if◌then◌else◌}
use Rattle.cards.specs.declared.seats.Seat.{Seat}
use Rattle.cards.specs.declared.seats.Seat.TheVariants.{North, East, South, West}
use Rattle.cards.specs.declared.suits.Suit.{Suit}
use Rattle.cards.specs.Seats.{seat_letter, is_same_seat}
use Rattle.sheets.specs.declared.templates.TheConstants.{BOARD, FACTS, COMPASS, SEAT, HANDS, BOARD_END}
use Rattle.sheets.specs.Facts.{with_value}
use Rattle.sheets.specs.Boards.{hands_text}
use Rattle.recorded_plays.specs.declared.plays.RecordedPlay.{RecordedPlay}
use Rattle.recorded_plays.specs.declared.plays.RecordedGame.{RecordedGame}
use Rattle.recorded_plays.specs.declared.plays.PlayEnd.{PlayEnd}
use Rattle.recorded_plays.specs.declared.plays.PlayEnd.TheVariants as ends
use Rattle.recorded_plays.specs.declared.plays.IllegalCard.{IllegalCard}
use Rattle.recorded_plays.specs.declared.plays.IllegalReason.{IllegalReason}
use Rattle.recorded_plays.specs.declared.plays.IllegalReason.TheVariants.{NotHeld, OutOfTurn, HoldsSuit}
use Rattle.recorded_plays.specs.declared.plays.Lack.{Lack}
use Rattle.recorded_plays.specs.declared.plays.Lack.TheVariants as lack
use Rattle.play_pages.specs.declared.lines.PlayLines.{PlayLines}
use Rattle.play_sheets.specs.declared.templates.TheConstants.{DECLARER, CONTRACT, DECLARES, ILLEGAL, TURN, NOT_HELD}
use Rattle.play_sheets.specs.declared.templates.TheConstants.{HELD_BY, HOLDS, HOLDS_END, LACK}
use Rattle.play_sheets.specs.Cells.{suit_template, card_text}
use Rattle.play_sheets.specs.Tricks.{table_text}

-- ---- who declares, in words and in the compass
-- a seat of the compass
abbrev pub seat_template : Seat → Seat → List ℕ
seat_template declarer seat = if is_same_seat declarer seat then DECLARES.now else SEAT.now

abbrev pub seat_text : Seat → Seat → List ℕ
seat_text declarer seat = with_value (seat_template declarer seat) (seat_letter seat)

unfoldable pub seats_text : Seat → List ℕ
seats_text declarer =
    seat_text declarer North
    ++ (seat_text declarer West ++ (seat_text declarer East ++ seat_text declarer South))

unfoldable pub words_text : Seat → List ℕ → List ℕ
words_text declarer contract =
    with_value DECLARER.now (seat_letter declarer) ++ with_value CONTRACT.now contract

unfoldable pub facts_text : Seat → List ℕ → List ℕ
facts_text declarer contract =
    FACTS.now ++ (words_text declarer contract ++ (COMPASS.now ++ (seats_text declarer ++ HANDS.now)))

-- ---- a card that isn't legal
-- the suit that the player has to follow
unfoldable pub holds_text : Suit → List ℕ
holds_text suit = HOLDS.now ++ (with_value (suit_template suit) [] ++ HOLDS_END.now)

-- why it isn't legal
abbrev pub reason_text : IllegalReason → List ℕ
reason_text NotHeld = NOT_HELD.now
reason_text (OutOfTurn seat) = with_value HELD_BY.now (seat_letter seat)
reason_text (HoldsSuit suit) = holds_text suit

-- its trick, the seat whose turn it is, the card, and why it isn't legal
unfoldable pub illegal_text : IllegalCard → List ℕ
illegal_text illegal =
    with_value ILLEGAL.now (decimal illegal.trick)
    ++ (with_value TURN.now (seat_letter illegal.seat) ++ (card_text illegal.card ++ reason_text illegal.reason))

-- the card that isn't legal, if the play ends before one
abbrev pub end_text : PlayEnd → List ℕ
end_text (ends.Illegal illegal) = illegal_text illegal
end_text ends.Whole = []
end_text ends.Early = []
end_text ends.Unknown = []
end_text ends.Irregular = []
end_text ends.Unread = []

-- ---- a game
unfoldable pub play_text : List ℕ → RecordedPlay → PlayLines → List ℕ
play_text contract play lines =
    facts_text play.declarer contract
    ++ (hands_text play.deal ++ (table_text play.trump lines ++ end_text play.end))

-- a block: the board's name, and what is below it
unfoldable pub block_text : List ℕ → List ℕ → List ℕ
block_text board below = with_value BOARD.now board ++ (below ++ BOARD_END.now)

abbrev pub lack_block : List ℕ → List ℕ → List ℕ
lack_block board words = block_text board (with_value LACK.now words)

-- the block of a game without analysis, unless it is passed over
abbrev pub lack_text : List ℕ → Lack → List ℕ
lack_text board lack.PassedOut = []
lack_text board lack.Play = []
lack_text board lack.Deal = lack_block board (codes "no deal")
lack_text board lack.Contract = lack_block board (codes "no contract")
lack_text board lack.Declarer = lack_block board (codes "no declarer")

abbrev pub game_by : List ℕ → List ℕ → Result RecordedPlay Lack → PlayLines → List ℕ
game_by board contract (Ok play) lines = block_text board (play_text contract play lines)
game_by board contract (Err lack) lines = lack_text board lack

abbrev pub game_text : (ℕ → PlayLines) → ℕ × RecordedGame → List ℕ
game_text lines numbered =
    game_by numbered.1.board.now numbered.1.contract.now numbered.1.play (lines numbered.0)
