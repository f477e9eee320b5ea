-- The templates of a sheet, each with its values between its tags.
use Rattle.std.specs.Prelude.{◌≡◌, ℕ, true, List, [], ◌∷◌}
use Rattle.std.specs.List.{list_all}
use Rattle.html.specs.Places.{InText, place_at_end}
use Rattle.html.specs.PlainTemplates.{is_template}
use Rattle.sheets.specs.declared.templates.TheConstants.{HEAD, STYLE, BODY, GROUP, BOARD, FACTS, DEALER, VULNERABLE}
use Rattle.sheets.specs.declared.templates.TheConstants.{COMPASS, SEAT, DEALS, EXPOSED, DEALS_EXPOSED, HANDS, HAND, FOOT}
use Rattle.sheets.specs.declared.templates.TheConstants.{TABLE, ROW, CELL, ROW_END, TABLE_END, INCOMPLETE}
use Rattle.sheets.specs.declared.templates.TheConstants.{PAR, PAR_UNKNOWN, FOOT_END, BOARD_END, END}

-- all but the style, which has no place for a value
abbrev pub templates : List (List ℕ)
templates =
    HEAD.now ∷ BODY.now ∷ GROUP.now ∷ BOARD.now ∷ FACTS.now ∷ DEALER.now ∷ VULNERABLE.now ∷ COMPASS.now ∷ SEAT.now
    ∷ DEALS.now ∷ EXPOSED.now ∷ DEALS_EXPOSED.now ∷ HANDS.now ∷ HAND.now ∷ FOOT.now ∷ TABLE.now ∷ ROW.now ∷ CELL.now
    ∷ ROW_END.now ∷ TABLE_END.now ∷ INCOMPLETE.now ∷ PAR.now ∷ PAR_UNKNOWN.now ∷ FOOT_END.now ∷ BOARD_END.now ∷ END.now
    ∷ []

-- each template has its values between its tags, and ends outside of a tag, as the style does
abbrev pub ValuesStandBetweenTags : Type 0
ValuesStandBetweenTags = (list_all is_template templates ≡ true) × (place_at_end InText STYLE.now ≡ InText)
