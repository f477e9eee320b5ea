-- The markup of a sheet of plays does not depend on names and contracts, game by game.
use Rattle.std.proofs.Common.{◌≡◌, ℕ, ◌+◌, Bool, true, false, List, [], ◌∷◌, Result, Ok, Err, sym, subst, cond, codes}
use Rattle.std.specs.Prelude.{decimal}
use Rattle.std.specs.List.{flat_map, enumerate_from}
use Rattle.cards.specs.declared.seats.Seat.{Seat}
use Rattle.cards.specs.declared.seats.Seat.TheVariants.{North, East, South, West}
use Rattle.cards.specs.declared.suits.Suit.{Suit}
use Rattle.cards.specs.Seats.{seat_letter, is_same_seat}
use Rattle.cards.specs.Deal.{Deal}
use Rattle.html.specs.PlainTemplates.{is_template}
use Rattle.sheets.specs.declared.templates.TheConstants as sheet
use Rattle.sheets.specs.HandText.{hand_value}
use Rattle.sheets.specs.Boards.{hand_text, hands_text}
use Rattle.sheet_reading.proofs.PlainTemplates as sheet_plain
use Rattle.sheet_reading.proofs.SameMarkup.{SameMarkup, then, same-text, same-nothing, same-template}
use Rattle.recorded_plays.specs.declared.plays.RecordedPlay.{RecordedPlay}
use Rattle.recorded_plays.specs.declared.plays.RecordedGame.{RecordedGame}
use Rattle.recorded_plays.specs.declared.plays.PlayEnd.{PlayEnd}
use Rattle.recorded_plays.specs.declared.plays.PlayEnd.TheVariants as ends
use Rattle.recorded_plays.specs.declared.plays.IllegalCard.{IllegalCard}
use Rattle.recorded_plays.specs.declared.plays.IllegalReason.{IllegalReason}
use Rattle.recorded_plays.specs.declared.plays.IllegalReason.TheVariants.{NotHeld, OutOfTurn, HoldsSuit}
use Rattle.recorded_plays.specs.declared.plays.Lack.{Lack}
use Rattle.recorded_plays.specs.declared.plays.Lack.TheVariants as lack
use Rattle.play_pages.specs.declared.lines.PlayLines.{PlayLines}
use Rattle.play_sheets.specs.declared.templates.TheConstants as template
use Rattle.play_sheets.specs.Cells.{suit_template}
use Rattle.play_sheets.specs.Games.{seat_template, seat_text, seats_text, words_text, facts_text, holds_text, reason_text, illegal_text, end_text}
use Rattle.play_sheets.specs.Games.{play_text, block_text, lack_block, game_by, game_text}
use Rattle.play_sheets.specs.Pages.{head_text, games_text, plays_sheet}
use Rattle.play_sheet_laws.specs.Markup.{plays_of}
use Rattle.play_sheet_laws.proofs.PlainTemplates as plain
use Rattle.play_sheet_laws.proofs.TableMarkup.{Ends, same-value, ends-value, suit-plain, ends-card, ends-table}

-- ---- the facts
pick-plain : (b : Bool) → is_template (cond b template.DECLARES.now sheet.SEAT.now) ≡ true
pick-plain true = plain.declares-plain
pick-plain false = sheet_plain.seat-plain

ends-seat : (declarer seat : Seat) → Ends (seat_text declarer seat)
ends-seat declarer seat =
    ends-value (seat_template declarer seat) (pick-plain (is_same_seat declarer seat)) (seat_letter seat)

ends-seats : (declarer : Seat) → Ends (seats_text declarer)
unfolding seats_text
ends-seats declarer =
    then (ends-seat declarer North) (then (ends-seat declarer West)
    (then (ends-seat declarer East) (ends-seat declarer South)))

same-words : (declarer : Seat) (contract contract' : List ℕ) → SameMarkup (words_text declarer contract) (words_text declarer contract')
unfolding words_text
same-words declarer contract contract' =
    then (ends-value template.DECLARER.now plain.declarer-plain (seat_letter declarer))
    (same-value template.CONTRACT.now plain.contract-plain contract contract')

same-facts : (declarer : Seat) (contract contract' : List ℕ) → SameMarkup (facts_text declarer contract) (facts_text declarer contract')
unfolding facts_text
same-facts declarer contract contract' =
    then (same-text sheet.FACTS.now sheet_plain.facts-ends) (then (same-words declarer contract contract')
    (then (same-text sheet.COMPASS.now sheet_plain.compass-ends) (then (ends-seats declarer)
    (same-text sheet.HANDS.now sheet_plain.hands-ends))))

-- ---- the hands
ends-hand : (deal : Deal) (seat : Seat) → Ends (hand_text deal seat)
ends-hand deal seat = same-template sheet.HAND.now sheet_plain.hand-plain (hand_value deal seat) (hand_value deal seat)

ends-hands : (deal : Deal) → Ends (hands_text deal)
unfolding hands_text
ends-hands deal =
    then (ends-hand deal North) (then (ends-hand deal East) (then (ends-hand deal South) (ends-hand deal West)))

-- ---- a card that isn't legal
ends-holds : (suit : Suit) → Ends (holds_text suit)
unfolding holds_text
ends-holds suit =
    then (same-text template.HOLDS.now plain.holds-ends)
    (then (ends-value (suit_template suit) (suit-plain suit) []) (same-text template.HOLDS_END.now plain.holds-end-ends))

ends-reason : (reason : IllegalReason) → Ends (reason_text reason)
ends-reason NotHeld = same-text template.NOT_HELD.now plain.not-held-ends
ends-reason (OutOfTurn seat) = ends-value template.HELD_BY.now plain.held-by-plain (seat_letter seat)
ends-reason (HoldsSuit suit) = ends-holds suit

ends-illegal : (illegal : IllegalCard) → Ends (illegal_text illegal)
unfolding illegal_text
ends-illegal illegal =
    then (ends-value template.ILLEGAL.now plain.illegal-plain (decimal illegal.trick))
    (then (ends-value template.TURN.now plain.turn-plain (seat_letter illegal.seat))
    (then (ends-card illegal.card) (ends-reason illegal.reason)))

ends-end : (end : PlayEnd) → Ends (end_text end)
ends-end (ends.Illegal illegal) = ends-illegal illegal
ends-end ends.Whole = same-nothing
ends-end ends.Early = same-nothing
ends-end ends.Unknown = same-nothing
ends-end ends.Irregular = same-nothing
ends-end ends.Unread = same-nothing

-- ---- a game
same-play : (contract contract' : List ℕ) (play : RecordedPlay) (lines : PlayLines) →
    SameMarkup (play_text contract play lines) (play_text contract' play lines)
unfolding play_text
same-play contract contract' play lines =
    then (same-facts play.declarer contract contract')
    (then (ends-hands play.deal) (then (ends-table play.trump lines) (ends-end play.end)))

same-block : (board board' below below' : List ℕ) → SameMarkup below below' → SameMarkup (block_text board below) (block_text board' below')
unfolding block_text
same-block board board' below below' h =
    then (same-value sheet.BOARD.now sheet_plain.board-plain board board')
    (then h (same-text sheet.BOARD_END.now sheet_plain.board-end-ends))

same-lack : (board board' : List ℕ) (words : List ℕ) → SameMarkup (lack_block board words) (lack_block board' words)
same-lack board board' words =
    same-block board board' _ _ (ends-value template.LACK.now plain.lack-plain words)

same-by : (board board' contract contract' : List ℕ) (play : Result RecordedPlay Lack) (lines : PlayLines) →
    SameMarkup (game_by board contract play lines) (game_by board' contract' play lines)
same-by board board' contract contract' (Ok play) lines =
    same-block board board' _ _ (same-play contract contract' play lines)
same-by board board' contract contract' (Err lack.PassedOut) lines = same-nothing
same-by board board' contract contract' (Err lack.Play) lines = same-nothing
same-by board board' contract contract' (Err lack.Deal) lines = same-lack board board' (codes "no deal")
same-by board board' contract contract' (Err lack.Contract) lines = same-lack board board' (codes "no contract")
same-by board board' contract contract' (Err lack.Declarer) lines = same-lack board board' (codes "no declarer")

same-game : (game game' : RecordedGame) (place : ℕ) (lines : ℕ → PlayLines) → game.play ≡ game'.play →
    SameMarkup (game_text lines (place, game)) (game_text lines (place, game'))
same-game game game' place lines e =
    subst (λ (play : Result RecordedPlay Lack).
    SameMarkup (game_text lines (place, game)) (game_by game'.board.now game'.contract.now play (lines place))) e
    (same-by game.board.now game'.board.now game.contract.now game'.contract.now game.play (lines place))

-- ---- all games
first-same : (play play' : Result RecordedPlay Lack) (plays plays' : List (Result RecordedPlay Lack)) → play ∷ plays ≡ play' ∷ plays' → play ≡ play'
first-same play play' plays plays' e = cc

rest-same : (play play' : Result RecordedPlay Lack) (plays plays' : List (Result RecordedPlay Lack)) → play ∷ plays ≡ play' ∷ plays' → plays ≡ plays'
rest-same play play' plays plays' e = cc

none-more : (play : Result RecordedPlay Lack) (plays : List (Result RecordedPlay Lack)) → [] ≡ play ∷ plays → ⊥
none-more play plays e = cc

same-from : (games games' : List RecordedGame) (place : ℕ) (lines : ℕ → PlayLines) → plays_of games ≡ plays_of games' →
    SameMarkup (flat_map (game_text lines) (enumerate_from place games)) (flat_map (game_text lines) (enumerate_from place games'))
same-from [] [] place lines e = same-nothing
same-from [] (game' ∷ games') place lines e = absurd (none-more _ _ e)
same-from (game ∷ games) [] place lines e = absurd (none-more _ _ (sym e))
same-from (game ∷ games) (game' ∷ games') place lines e =
    then (same-game game game' place lines (first-same _ _ _ _ e)) (same-from games games' (place + 1) lines (rest-same _ _ _ _ e))

same-games : (games games' : List RecordedGame) (lines : ℕ → PlayLines) → plays_of games ≡ plays_of games' →
    SameMarkup (games_text games lines) (games_text games' lines)
unfolding games_text
same-games games games' lines e = same-from games games' 0 lines e

ends-head : Ends head_text
unfolding head_text
ends-head =
    then (same-text template.HEAD.now plain.head-ends) (then (same-text sheet.STYLE.now sheet_plain.style-ends)
    (then (same-text template.NEXT_STYLE.now plain.next-style-ends) (then (same-text template.STYLE.now plain.style-ends)
    (same-text template.BODY.now plain.body-ends))))

pub same-sheet : (games games' : List RecordedGame) (lines : ℕ → PlayLines) → plays_of games ≡ plays_of games' →
    SameMarkup (plays_sheet games lines) (plays_sheet games' lines)
unfolding plays_sheet
same-sheet games games' lines e =
    then ends-head (then (same-games games games' lines e) (same-text sheet.END.now sheet_plain.end-ends))
