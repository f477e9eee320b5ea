-- The sheet of a tournament: its head, its boards with the headings of their events and sections, and its end.
use Rattle.std.specs.Prelude.{ℕ, ◌+◌, List, [], ◌∷◌, ◌++◌, None, slice_index_or}
use Rattle.pbn_deals.specs.declared.boards.Board.{Board}
use Rattle.board_conditions.specs.declared.conditions.Conditions.{Conditions}
use Rattle.board_conditions.specs.Titles.{TitleValues}
use Rattle.tables.specs.TablesText.{Printed}
use Rattle.html.specs.Templates.{filled}
use Rattle.sheets.specs.declared.templates.TheConstants.{HEAD, STYLE, BODY, END}
use Rattle.sheets.specs.Boards.{board_text}
use Rattle.sheets.specs.Headings.{title_value, titles_after, group_text}

abbrev pub no_titles : TitleValues
no_titles = record { event = None; section = None; site = None; date = None }

abbrev pub unknown : Conditions
unknown = record { dealer = None; vulnerable = None }

-- the titles of the board in this place, behind one with these titles
abbrev pub titles_at : List TitleValues → TitleValues → ℕ → TitleValues
titles_at titles before place = titles_after before (slice_index_or titles place no_titles)

-- the boards from this place on, behind one with these titles
abbrev pub boards_text :
    List TitleValues → List Conditions → (ℕ → Printed) → TitleValues → ℕ → List Board → List ℕ
boards_text titles conditions printed before place [] = []
boards_text titles conditions printed before place (board ∷ boards) =
    (group_text before (titles_at titles before place)
    ++ board_text board (slice_index_or conditions place unknown) (printed place))
    ++ boards_text titles conditions printed (titles_at titles before place) (place + 1) boards

-- the head has these titles, and its style
unfoldable pub head_text : TitleValues → List ℕ
head_text head = filled (title_value head) HEAD.now ++ (STYLE.now ++ filled (title_value head) BODY.now)

-- before the first board no section has begun
abbrev pub without_section : TitleValues → TitleValues
without_section head = record { event = head.event; section = None; site = head.site; date = head.date }

unfoldable pub sheet_text :
    TitleValues → List Board → List TitleValues → List Conditions → (ℕ → Printed) → List ℕ
sheet_text head boards titles conditions printed =
    head_text head ++ (boards_text titles conditions printed (without_section head) 0 boards ++ END.now)
