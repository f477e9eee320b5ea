-- The templates of a sheet of plays, each with its values between its tags.
use Rattle.std.specs.Prelude.{◌≡◌, ℕ, true, List, [], ◌∷◌}
use Rattle.std.specs.List.{list_all}
use Rattle.html.specs.Places.{InText, place_at_end}
use Rattle.html.specs.PlainTemplates.{is_template}
use Rattle.play_sheets.specs.declared.templates.TheConstants.{HEAD, NEXT_STYLE, STYLE, BODY, DECLARER, CONTRACT}
use Rattle.play_sheets.specs.declared.templates.TheConstants.{DECLARES, TABLE, ROW, CELL, LEADS, WINS, WINS_END}
use Rattle.play_sheets.specs.declared.templates.TheConstants.{LOSES, LOSS, SPADE, HEART, DIAMOND, CLUB, CELL_END, NUMBER, TOTALS}
use Rattle.play_sheets.specs.declared.templates.TheConstants.{TABLE_END, ILLEGAL, TURN, NOT_HELD, HELD_BY}
use Rattle.play_sheets.specs.declared.templates.TheConstants.{HOLDS, HOLDS_END, LACK}

-- all but the style, which has no place for a value
abbrev pub templates : List (List ℕ)
templates =
    HEAD.now ∷ NEXT_STYLE.now ∷ BODY.now ∷ DECLARER.now ∷ CONTRACT.now ∷ DECLARES.now ∷ TABLE.now ∷ ROW.now
    ∷ CELL.now ∷ LEADS.now ∷ WINS.now ∷ WINS_END.now ∷ LOSES.now ∷ LOSS.now ∷ SPADE.now ∷ HEART.now ∷ DIAMOND.now
    ∷ CLUB.now ∷ CELL_END.now ∷ NUMBER.now ∷ TOTALS.now ∷ TABLE_END.now ∷ ILLEGAL.now ∷ TURN.now
    ∷ NOT_HELD.now ∷ HELD_BY.now ∷ HOLDS.now ∷ HOLDS_END.now ∷ LACK.now ∷ []

-- each template has its values between its tags, and ends outside of a tag, as the style does
abbrev pub ValuesStandBetweenTags : Type 0
ValuesStandBetweenTags = (list_all is_template templates ≡ true) × (place_at_end InText STYLE.now ≡ InText)
