-- A board on a sheet: its name, and if it has a deal, who deals and is vulnerable, the four hands, its table and par.
use Rattle.std.specs.Prelude.{ℕ, List, [], ◌++◌, Option, None, Some}
use Rattle.cards.specs.declared.seats.Seat.{Seat}
use Rattle.cards.specs.declared.seats.Seat.TheVariants.{North, East, South, West}
use Rattle.cards.specs.Deal.{Deal}
use Rattle.pbn_deals.specs.declared.boards.Board.{Board}
use Rattle.board_conditions.specs.declared.conditions.Conditions.{Conditions}
use Rattle.tables.specs.TablesText.{Printed}
use Rattle.html.specs.Templates.{filled}
use Rattle.sheets.specs.declared.templates.TheConstants.{BOARD, HAND, FOOT, FOOT_END, BOARD_END}
use Rattle.sheets.specs.HandText.{hand_value}
use Rattle.sheets.specs.Facts.{with_value, facts_text}
use Rattle.sheets.specs.Results.{results_text}
use Rattle.sheets.specs.ParShown.{par_shown}

abbrev pub hand_text : Deal → Seat → List ℕ
hand_text deal seat = filled (hand_value deal seat) HAND.now

-- the four hands, clockwise from North
unfoldable pub hands_text : Deal → List ℕ
hands_text deal = hand_text deal North ++ (hand_text deal East ++ (hand_text deal South ++ hand_text deal West))

-- the table and the par
unfoldable pub foot_text : Printed → List ℕ
foot_text printed = FOOT.now ++ (results_text printed.results ++ (par_shown printed.par ++ FOOT_END.now))

unfoldable pub dealt_text : Deal → Conditions → Printed → List ℕ
dealt_text deal conditions printed = facts_text conditions ++ (hands_text deal ++ foot_text printed)

abbrev pub dealt_or_nothing : Option Deal → Conditions → Printed → List ℕ
dealt_or_nothing None conditions printed = []
dealt_or_nothing (Some deal) conditions printed = dealt_text deal conditions printed

unfoldable pub board_text : Board → Conditions → Printed → List ℕ
board_text board conditions printed =
    with_value BOARD.now board.name ++ (dealt_or_nothing board.deal conditions printed ++ BOARD_END.now)
