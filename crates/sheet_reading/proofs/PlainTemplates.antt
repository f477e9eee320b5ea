-- Each template has its values between its tags, and each text ends outside of its tags.
use Rattle.std.proofs.Common.{◌≡◌, ℕ, List, true, refl}
use Rattle.html.specs.Places.{InText, place_at_end}
use Rattle.html.specs.PlainTemplates.{is_template}
use Rattle.sheets.specs.declared.templates.TheConstants as template

-- ---- templates
abbrev pub IsPlain : List ℕ → Type 0
IsPlain text = is_template text ≡ true

pub head-plain : is_template template.HEAD.now ≡ true
unfolding is_template
head-plain = refl

pub body-plain : is_template template.BODY.now ≡ true
unfolding is_template
body-plain = refl

pub group-plain : is_template template.GROUP.now ≡ true
unfolding is_template
group-plain = refl

pub board-plain : is_template template.BOARD.now ≡ true
unfolding is_template
board-plain = refl

pub dealer-plain : is_template template.DEALER.now ≡ true
unfolding is_template
dealer-plain = refl

pub vulnerable-plain : is_template template.VULNERABLE.now ≡ true
unfolding is_template
vulnerable-plain = refl

pub seat-plain : is_template template.SEAT.now ≡ true
unfolding is_template
seat-plain = refl

pub deals-plain : is_template template.DEALS.now ≡ true
unfolding is_template
deals-plain = refl

pub exposed-plain : is_template template.EXPOSED.now ≡ true
unfolding is_template
exposed-plain = refl

pub deals-exposed-plain : is_template template.DEALS_EXPOSED.now ≡ true
unfolding is_template
deals-exposed-plain = refl

pub hand-plain : is_template template.HAND.now ≡ true
unfolding is_template
hand-plain = refl

pub row-plain : is_template template.ROW.now ≡ true
unfolding is_template
row-plain = refl

pub cell-plain : is_template template.CELL.now ≡ true
unfolding is_template
cell-plain = refl

pub incomplete-plain : is_template template.INCOMPLETE.now ≡ true
unfolding is_template
incomplete-plain = refl

pub par-plain : is_template template.PAR.now ≡ true
unfolding is_template
par-plain = refl

pub par-unknown-plain : is_template template.PAR_UNKNOWN.now ≡ true
unfolding is_template
par-unknown-plain = refl

-- ---- texts
pub style-ends : place_at_end InText template.STYLE.now ≡ InText
style-ends = refl

pub facts-ends : place_at_end InText template.FACTS.now ≡ InText
facts-ends = refl

pub compass-ends : place_at_end InText template.COMPASS.now ≡ InText
compass-ends = refl

pub hands-ends : place_at_end InText template.HANDS.now ≡ InText
hands-ends = refl

pub foot-ends : place_at_end InText template.FOOT.now ≡ InText
foot-ends = refl

pub table-ends : place_at_end InText template.TABLE.now ≡ InText
table-ends = refl

pub row-end-ends : place_at_end InText template.ROW_END.now ≡ InText
row-end-ends = refl

pub table-end-ends : place_at_end InText template.TABLE_END.now ≡ InText
table-end-ends = refl

pub foot-end-ends : place_at_end InText template.FOOT_END.now ≡ InText
foot-end-ends = refl

pub board-end-ends : place_at_end InText template.BOARD_END.now ≡ InText
board-end-ends = refl

pub end-ends : place_at_end InText template.END.now ≡ InText
end-ends = refl
