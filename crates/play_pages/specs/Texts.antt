-- The page of recorded plays: for each game that isn't passed over a block, with a line for each card.
use Rattle.std.specs.Prelude.{ℕ, ◌+◌, ◌/◌, List, [], ◌∷◌, ◌++◌, codes, decimal, nat_lt, nat_eq, Bool, true, false}
use Rattle.std.specs.Prelude.{Option, None, Some, Result, Ok, Err, if◌then◌else◌, flat_map}
use Rattle.std.specs.List.{enumerate_from}
use Rattle.cards.specs.declared.seats.Seat.{Seat}
use Rattle.cards.specs.declared.seats.Seat.TheVariants.{North, East, South, West}
use Rattle.cards.specs.declared.suits.Suit.{Suit}
use Rattle.cards.specs.declared.suits.Suit.TheVariants.{Spades, Hearts, Diamonds, Clubs}
use Rattle.cards.specs.Seats.{seat_letter}
use Rattle.cards.specs.CardTexts.{card_text}
use Rattle.tables.specs.TablesText.{tag_line}
use Rattle.recorded_plays.specs.declared.plays.RecordedPlay.{RecordedPlay}
use Rattle.recorded_plays.specs.declared.plays.RecordedGame.{RecordedGame}
use Rattle.recorded_plays.specs.declared.plays.Lack.{Lack}
use Rattle.recorded_plays.specs.declared.plays.Lack.TheVariants as lack
use Rattle.recorded_plays.specs.declared.plays.PlayEnd.{PlayEnd}
use Rattle.recorded_plays.specs.declared.plays.PlayEnd.TheVariants as ends
use Rattle.recorded_plays.specs.declared.plays.IllegalCard.{IllegalCard}
use Rattle.recorded_plays.specs.declared.plays.IllegalReason.{IllegalReason}
use Rattle.recorded_plays.specs.declared.plays.IllegalReason.TheVariants.{NotHeld, OutOfTurn, HoldsSuit}
use Rattle.play_pages.specs.declared.lines.CardLine.{CardLine}
use Rattle.play_pages.specs.declared.lines.PlayLines.{PlayLines}
use Rattle.play_pages.specs.Counts.{known_or_none, lost_by, unknown_by}
use Rattle.cards.specs.Bytes as ascii

-- ---- a card
abbrev pub number_text : Option ℕ → List ℕ
number_text (Some number) = decimal number
number_text None = codes "unknown"

-- ` S loses 1`
unfoldable pub loses_text : Seat → ℕ → List ℕ
loses_text seat lost = ascii.blank ∷ (seat_letter seat ++ (codes " loses " ++ decimal lost))

-- whether the card is known to lose a trick
abbrev pub is_mistake : CardLine → Bool
is_mistake line = nat_lt 0 (known_or_none line.lost)

abbrev pub loss_text : CardLine → List ℕ
loss_text line = if is_mistake line then loses_text line.seat (known_or_none line.lost) else []

-- the line of a card, with its trick: `2 S S3 9 S loses 1`
unfoldable pub line_text : ℕ → CardLine → List ℕ
line_text trick line =
    decimal trick
    ++ (ascii.blank ∷ (seat_letter line.seat
    ++ ((ascii.blank ∷ card_text line.card)
    ++ (ascii.blank ∷ (number_text line.after ++ (loss_text line ++ codes "\n"))))))

-- The line of a card with its place from 0. Where just mistakes are asked for, it is written if it is one.
abbrev pub asked_line : Bool → ℕ × CardLine → List ℕ
asked_line false numbered = line_text (numbered.0 / 4 + 1) numbered.1
asked_line true numbered = if is_mistake numbered.1 then line_text (numbered.0 / 4 + 1) numbered.1 else []

unfoldable pub lines_text : Bool → List CardLine → List ℕ
lines_text mistakes lines = flat_map (asked_line mistakes) (enumerate_from 0 lines)

-- ---- the other lines of a play
-- a word, a number and the end of the line, unless just mistakes are asked for: `start 10`
unfoldable pub marked_text : List ℕ → Option ℕ → List ℕ
marked_text word number = word ++ (number_text number ++ codes "\n")

abbrev pub start_text : Bool → Option ℕ → List ℕ
start_text false number = marked_text (codes "start ") number
start_text true number = []

abbrev pub end_text : Bool → Option ℕ → List ℕ
end_text false number = marked_text (codes "end ") number
end_text true number = []

-- the name of a suit
abbrev pub suit_name : Suit → List ℕ
suit_name Spades = codes "spades"
suit_name Hearts = codes "hearts"
suit_name Diamonds = codes "diamonds"
suit_name Clubs = codes "clubs"

-- why a card isn't legal
abbrev pub reason_text : IllegalReason → List ℕ
reason_text NotHeld = codes "not held\n"
reason_text (OutOfTurn seat) = codes "held by " ++ (seat_letter seat ++ codes "\n")
reason_text (HoldsSuit suit) = codes "holds " ++ (suit_name suit ++ codes "\n")

-- the card that isn't legal: `illegal 5 E D3: holds spades`
unfoldable pub illegal_text : IllegalCard → List ℕ
illegal_text illegal =
    codes "illegal "
    ++ (decimal illegal.trick
    ++ (ascii.blank ∷ (seat_letter illegal.seat
    ++ ((ascii.blank ∷ card_text illegal.card) ++ (codes ": " ++ reason_text illegal.reason)))))

abbrev pub stop_text : PlayEnd → List ℕ
stop_text (ends.Illegal illegal) = illegal_text illegal
stop_text ends.Whole = []
stop_text ends.Early = []
stop_text ends.Unknown = []
stop_text ends.Irregular = []
stop_text ends.Unread = []

-- what a seat loses in all: ` S 1`, or ` S unknown` if it isn't known of each of its cards
abbrev pub total_of : Seat → List CardLine → Option ℕ
total_of seat lines = if nat_eq (unknown_by seat lines) 0 then Some (lost_by seat lines) else None

unfoldable pub total_text : List CardLine → Seat → List ℕ
total_text lines seat = ascii.blank ∷ (seat_letter seat ++ (ascii.blank ∷ number_text (total_of seat lines)))

-- `lost N 0 E 0 S 1 W 0`
unfoldable pub lost_text : List CardLine → List ℕ
lost_text lines =
    codes "lost"
    ++ (total_text lines North
    ++ (total_text lines East ++ (total_text lines South ++ (total_text lines West ++ codes "\n"))))

-- ---- a game
-- the play of a game below its Board tag; just its lines of mistakes and `lost` if those are asked for
unfoldable pub play_text : Bool → List ℕ → RecordedPlay → PlayLines → List ℕ
play_text mistakes contract play lines =
    tag_line (codes "Declarer") (seat_letter play.declarer)
    ++ (tag_line (codes "Contract") contract
    ++ (start_text mistakes lines.start
    ++ (lines_text mistakes lines.lines.items
    ++ (stop_text play.end ++ (end_text mistakes lines.end ++ lost_text lines.lines.items)))))

-- a block: the Board tag, what is below it, and an empty line
unfoldable pub block_text : List ℕ → List ℕ → List ℕ
block_text board below = tag_line (codes "Board") board ++ (below ++ codes "\n")

-- the block of a game without analysis, unless it is passed over
abbrev pub lack_text : List ℕ → Lack → List ℕ
lack_text board lack.PassedOut = []
lack_text board lack.Play = []
lack_text board lack.Deal = block_text board (codes "no deal\n")
lack_text board lack.Contract = block_text board (codes "no contract\n")
lack_text board lack.Declarer = block_text board (codes "no declarer\n")

abbrev pub game_by : Bool → List ℕ → List ℕ → Result RecordedPlay Lack → PlayLines → List ℕ
game_by mistakes board contract (Ok play) lines = block_text board (play_text mistakes contract play lines)
game_by mistakes board contract (Err lack) lines = lack_text board lack

abbrev pub game_text : Bool → (ℕ → PlayLines) → ℕ × RecordedGame → List ℕ
game_text mistakes lines numbered =
    game_by mistakes numbered.1.board.now numbered.1.contract.now numbered.1.play (lines numbered.0)

-- ---- the page
unfoldable pub page_text : Bool → List RecordedGame → (ℕ → PlayLines) → List ℕ
page_text mistakes games lines =
    codes "% ddfarm plays 1\n" ++ flat_map (game_text mistakes lines) (enumerate_from 0 games)
